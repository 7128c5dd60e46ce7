use Rattle.calls.specs.Whole.{moved}
use Rattle.blocking.specs.Blocking.{done_last}
use Rattle.i2c.specs.Polling.{direction}
use Rattle.i2c.specs.declared.Previous.{Previous}
use Rattle.buslist.specs.Meaning.{Operation, empty, operation_of}
use mathlib.Core.Bool.{true, false}
use mathlib.Core.List.{[], ◌∷◌}
use Prim.Native.Nat.{ℕ, zero, suc}
use native.Mathlib.Omega.{arith}
use mathlib.Core.Path.{◌≡◌, refl, sym, ◌∙◌}
use Rattle.calls.proofs.moved.Goals as goal

passed_over : (p : Previous) (o : Operation) → empty o ≡ true → done_last p o ≡ p
passed_over p (Operation.write []) e = refl
passed_over p (Operation.write (b ∷ bs)) e = let z : ◌≡◌ {A = ℕ} 0 1 = cc in absurd (omega arith)
passed_over p (Operation.read zero) e = refl
passed_over p (Operation.read (suc n)) e = let z : ◌≡◌ {A = ℕ} 0 1 = cc in absurd (omega arith)

not_passed : (p : Previous) (o : Operation) → empty o ≡ false → done_last p o ≡ direction o
not_passed p (Operation.write []) e = let z : ◌≡◌ {A = ℕ} 0 1 = cc in absurd (omega arith)
not_passed p (Operation.write (b ∷ bs)) e = refl
not_passed p (Operation.read zero) e = let z : ◌≡◌ {A = ℕ} 0 1 = cc in absurd (omega arith)
not_passed p (Operation.read (suc n)) e = refl

pub returns-in-Polling : goal.returns-in-Polling
unfolding moved
returns-in-Polling c = rw (← c.engine.ensures, c.in-Polling.is) (c.direction.ensures _)

pub returns-in-Blocking : goal.returns-in-Blocking
unfolding moved
returns-in-Blocking c =
    rw (← c.engine.ensures, c.in-Blocking.is) (sym (passed_over c.args.previous (operation_of c.args.list.now c.args.o) (sym c.if-is_empty.ensures)))

pub returns-in-Blocking-2 : goal.returns-in-Blocking-2
unfolding moved
returns-in-Blocking-2 c =
    rw (← c.engine.ensures, c.in-Blocking-2.is)
    (c.direction-in-Blocking-2.ensures c.args.list.now ∙ sym (not_passed c.args.previous (operation_of c.args.list.now c.args.o) (sym c.if-is_empty.ensures)))
