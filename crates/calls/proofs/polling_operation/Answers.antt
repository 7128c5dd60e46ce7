use Prim.Native.Nat.{ℕ, zero, suc}
use native.Mathlib.Omega.{arith}
use mathlib.Core.Bool.{Bool, true, false, not, cond, ◌&&◌, false≢true}
use mathlib.Core.Path.{◌≡◌, refl, sym, ap, ◌∙◌}
use mathlib.Core.List.{List, [], ◌∷◌, ◌++◌}
use lib.Dec.{eqb}
use borrow.Author.Tests.{eqb-true, not-true, not-false}
use Rattle.buslist.specs.declared.Address.{Address}
use Rattle.buslist.specs.declared.OperationEntry.{OperationEntry}
use Rattle.buslist.specs.Meaning.{write, read, bytes_of, operation_of}
use Rattle.registers.specs.declared.BusError.{BusError}
use Rattle.registers.specs.Machine.{Step}
use Rattle.registers.proofs.Steps.{here, rewritten, call_step, call_stops, call_last, ends_failed, keeps_fewer}
use Rattle.i2c.specs.declared.Previous.{Previous}
use Rattle.i2c.specs.Polling.{turn, transfer, operation_steps}
use Rattle.prepare.specs.Turn.{turn_to}
use Rattle.calls.proofs.polling_operation.Goals as goal

-- an operation of a polling call: a read or a write, and whether it is an early Overrun
module _ (l : List ℕ) (o : OperationEntry) (early : Bool) (a : Address) (p : Previous) (last : Bool) where
  abbrev reads : Bool
  reads = not (eqb o.direction 0)

  abbrev overrun : Bool
  overrun = (reads && early) && eqb o.length 0

  -- an early Overrun, or the prepares
  fails : overrun ≡ true → operation_steps early a p last (operation_of l o) ≡ Step.fail BusError.Overrun ∷ transfer last (operation_of l o)
  unfolding operation_of turn
  fails t = ap (λ q. q ++ transfer last (operation_of l o)) (go (eqb o.direction 0) early o.length (bytes_of l o) t)
    where
      go : (d e : Bool) (n : ℕ) (bs : List ℕ) → ((not d && e) && eqb n 0) ≡ true → turn e a p (cond d (write bs) (read n)) ≡ Step.fail BusError.Overrun ∷ []
      go true e n bs t = absurd (false≢true t)
      go false true zero bs t = refl
      go false true (suc n) bs t = let h = eqb-true (suc n) 0 t in absurd (omega arith)
      go false false n bs t = absurd (false≢true t)

  turns : overrun ≡ false → operation_steps early a p last (operation_of l o) ≡ turn_to a p reads ++ transfer last (operation_of l o)
  unfolding operation_of turn
  turns t = ap (λ q. q ++ transfer last (operation_of l o)) (go (eqb o.direction 0) early o.length (bytes_of l o) t)
    where
      go : (d e : Bool) (n : ℕ) (bs : List ℕ) → ((not d && e) && eqb n 0) ≡ false → turn e a p (cond d (write bs) (read n)) ≡ turn_to a p (not d)
      go true true n bs t = refl
      go true false n bs t = refl
      go false true zero bs t = absurd (false≢true (sym t))
      go false true (suc n) bs t = refl
      go false false n bs t = refl

  -- and then the bytes of a read, or of a write
  turns_read : overrun ≡ false → reads ≡ true → operation_steps early a p last (operation_of l o) ≡ turn_to a p reads ++ transfer last (read o.length)
  unfolding operation_of
  turns_read t u = turns t ∙ rw (not-true (eqb o.direction 0) u)

  turns_write : overrun ≡ false → reads ≡ false → operation_steps early a p last (operation_of l o) ≡ turn_to a p reads ++ transfer last (write (bytes_of l o))
  unfolding operation_of
  turns_write t u = turns t ∙ rw (not-false (eqb o.direction 0) u)

pub returns-then-read-early : goal.returns-then-read-early
returns-then-read-early c =
    let t = rw c.is_write-read.ensures at c.if-read-early.true in
    rw (← c.early.ensures) (ends_failed (rewritten (fails c.args.list.now c.args.o _ _ _ _ t) here))

pub returns-in_err-turn : goal.returns-in_err-turn
returns-in_err-turn c =
    let t = rw c.is_write-read.ensures at c.if-read-early.false in
    rw (← c.early.ensures, ← c.from-addr.ensures)
    (call_stops (rw c.is_write-read.ensures at c.turn.ensures) _ (rewritten (turns c.args.list.now c.args.o _ _ _ _ t) here) c.in_err-turn.was c.from_residual.ensures)

pub read_transfer-requires : goal.read_transfer-requires
read_transfer-requires c = keeps_fewer c.turn.ensures c.requires

pub returns-then-read : goal.returns-then-read
returns-then-read c =
    let t = rw c.is_write-read.ensures at c.if-read-early.false in
    rw (← c.early.ensures, ← c.from-addr.ensures)
    (call_last
    (call_step (rw c.is_write-read.ensures at c.turn.ensures) _ (rewritten (turns_read c.args.list.now c.args.o _ _ _ _ t (ap not (rw c.is_write-read.ensures at c.if-read.true))) here) c.in_ok-turn.was)
    c.read_transfer.ensures)

pub returns : goal.returns
returns c =
    let t = rw c.is_write-read.ensures at c.if-read-early.false in
    rw (← c.early.ensures, ← c.from-addr.ensures)
    (call_last
    (call_step (rw c.is_write-read.ensures at c.turn.ensures) _ (rewritten (turns_write c.args.list.now c.args.o _ _ _ _ t (ap not (rw c.is_write-read.ensures at c.if-read.false))) here) c.in_ok-turn.was)
    (rw (← c.bytes_of.ensures) c.write_transfer.ensures))
