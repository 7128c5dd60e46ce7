use Prim.Native.Nat.{ℕ, suc, ◌-◌, ◌<◌}
use native.Mathlib.Omega.{arith}
use mathlib.Core.Path.{◌≡◌, ap}
use Rattle.units.specs.declared.Setup.{Setup}
use Rattle.blocking.specs.Blocking.{read_more, read_arm}
use Rattle.registers.proofs.Steps.{here, call_last, rewritten}
use Rattle.blocking.proofs.read_arm.Goals as goal

-- three bytes or more
more : (s : Setup) (n : ℕ) → 0 < n → (n ≡ 1 → ⊥) → (n ≡ 2 → ⊥) → read_arm s n ≡ read_more s (n - 3)
unfolding read_arm
more s n h k l = let e : n ≡ suc (suc (suc (n - 3))) = omega arith in ap (read_arm s) e

pub returns-in-1 : goal.returns-in-1
unfolding read_arm
returns-in-1 c =
    call_last (rewritten (ap (read_arm _) c.in-1.is) here) c.read_one.ensures

pub returns-in-2 : goal.returns-in-2
unfolding read_arm
returns-in-2 c =
    call_last (rewritten (ap (read_arm _) c.in-2.is) here) c.read_two.ensures

pub returns-in_default : goal.returns-in_default
returns-in_default c =
    call_last (rewritten (more _ _ c.requires.1 (λ e. omega arith) (λ e. omega arith)) here) c.read_more.ensures
