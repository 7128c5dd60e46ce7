-- What document 02 promises of kind 7, and that the other kinds are what they were.
-- Assumes nothing.
use Prim.Native.Nat.{ℕ, zero, suc}
use native.Mathlib.Omega.{arith}
use mathlib.Core.Bool.{Bool, true, false, false≢true, or-false, ◌&&◌, ◌||◌}
use mathlib.Core.Path.{◌≡◌, refl, sym, ap}
use mathlib.Core.Logic.{inl, inr}
use mathlib.Core.List.{List, [], ◌∷◌}
use borrow.Author.Tests.{ne_eqb}
use Rattle.units.specs.declared.Setup.{Setup}
use Rattle.buslist.specs.declared.Address.{Address}
use Rattle.buslist.specs.declared.CallEntry.{CallEntry}
use Rattle.buslist.specs.Table.{calls}
use Rattle.buslist.specs.Form.{kind_right}
use Rattle.buslist.specs.Meaning.{Operation, engine_of, address_number, call_of}
use Rattle.buslist.specs.Combined.{dropped, gather, joined, combined, read_then_write}
use Rattle.buslist.specs.Refusal.{any, write_after_read, causes, first_cause, refusal}
use Rattle.i2c.specs.declared.Previous.{Previous}
use Rattle.blocking.specs.Blocking.{close_after, blocking_steps}
use Rattle.calls.specs.Calls.{early, operations_steps, performed, steps_of}
use Rattle.calls.proofs.CallLaws.{performed_listed}
use Rattle.demands.specs.Compare.{is_empty, reduced_operations, idle}
use Rattle.demands.specs.ByKind.{LeftFor, for_write, for_read, for_write_read, DoneAs, listed_reduced, is_seven, ByKind}
use Rattle.demands.proofs.Shape.{Fails, Shaped, polling_write, polling_read, polling_write_read, transaction, blocking_write, blocking_read, blocking_write_read, blocking_transaction}
use Rattle.demands.proofs.Apart.{alone, read-after, Halves, write_first, read_alone}
use Rattle.demands.proofs.Reduced.{halves}
use Rattle.demands.proofs.Listed.{of_kind_at}

-- the kind that does what is left
left_for : {os : List Operation} → Halves os → (kind : ℕ) × LeftFor kind os
left_for (write_first alone) = (4, for_write)
left_for (write_first read-after) = (6, for_write_read)
left_for read_alone = (5, for_read)

-- nothing is left where all are dropped
nothing_left : (os : List Operation) → is_empty (dropped os) ≡ true → combined os ≡ []
unfolding joined
nothing_left os e = by (dropped os) e
  where
    by : (xs : List Operation) → is_empty xs ≡ true → joined xs ≡ []
    by [] e = refl
    by (x ∷ xs) e = absurd (false≢true e)

-- it does them as they are left
done_for : (s : Setup) (a : Address) (kind : ℕ) (os : List Operation) → LeftFor kind os
    → blocking_steps s (address_number a) Previous.Nothing os ≡ operations_steps s (engine_of kind) (early kind) a Previous.Nothing (performed kind os)
unfolding performed engine_of operations_steps
done_for s a kind os for_write = refl
done_for s a kind os for_read = refl
done_for s a kind os for_write_read = refl

-- what is left of operations without a write after a read, by whether anything is
done_as : (s : Setup) (a : Address) (os : List Operation) → Fails (read_then_write (combined os)) → DoneAs s (record { kind = 7; address = a; operations = os })
unfolding steps_of performed engine_of operations_steps blocking_steps close_after
done_as s a os h = by (is_empty (dropped os)) refl
  where
    by : (b : Bool) → is_empty (dropped os) ≡ b → DoneAs s (record { kind = 7; address = a; operations = os })
    by true e = let none = nothing_left os e in inl (none, ap (blocking_steps s (address_number a) Previous.Nothing) none)
    by false e = let f = left_for (halves os h (rw e tt)) in inr (f.0, f.1, done_for s a f.0 (combined os) f.1)

-- so it is for the calls of kind 7 among those that have the operations of their kind
seven_shaped : (s : Setup) (a : Address) {k : ℕ} {os : List Operation} → Shaped k os → k ≡ 7 → DoneAs s (record { kind = k; address = a; operations = os })
seven_shaped s a polling_write e = absurd (omega arith)
seven_shaped s a polling_read e = absurd (omega arith)
seven_shaped s a polling_write_read e = absurd (omega arith)
seven_shaped s a transaction e = absurd (omega arith)
seven_shaped s a blocking_write e = absurd (omega arith)
seven_shaped s a blocking_read e = absurd (omega arith)
seven_shaped s a blocking_write_read e = absurd (omega arith)
seven_shaped s a (blocking_transaction {os} h) e = done_as s a os h

-- the others are reduced as they were
other_shaped : {k : ℕ} {os : List Operation} → Shaped k os → (k ≡ 7 → ⊥) → reduced_operations (engine_of k) os ≡ listed_reduced (engine_of k) os
unfolding reduced_operations engine_of joined dropped gather
other_shaped polling_write h = refl
other_shaped polling_read h = refl
other_shaped polling_write_read h = refl
other_shaped transaction h = refl
other_shaped blocking_write h = refl
other_shaped blocking_read h = refl
other_shaped (blocking_write_read {bs = []} {n = zero}) h = refl
other_shaped (blocking_write_read {bs = []} {n = suc n}) h = refl
other_shaped (blocking_write_read {bs = b ∷ bs} {n = zero}) h = refl
other_shaped (blocking_write_read {bs = b ∷ bs} {n = suc n}) h = refl
other_shaped (blocking_transaction r) h = absurd (h refl)

-- no call of kind 7, so none that 27 is about
none_seven : (l : List ℕ) (cs : List CallEntry) → any is_seven cs ≡ false → any (write_after_read l) cs ≡ false
unfolding any
none_seven l [] e = refl
none_seven l (c ∷ cs) e = by (is_seven c) (none_seven l cs) e
  where
    by : (b : Bool) → (any is_seven cs ≡ false → any (write_after_read l) cs ≡ false) → (b || any is_seven cs) ≡ false
        → (b && read_then_write (combined (call_of l c).operations) || any (write_after_read l) cs) ≡ false
    by true rest e = absurd (false≢true (sym e))
    by false rest e = rest e

pub by_kind : ByKind
unfolding kind_right refusal causes first_cause steps_of idle
by_kind =
    record {
      seven_any = λ os. refl;
      seven_done = λ l rx ok k h e s. seven_shaped s _ (of_kind_at l rx ok k h).shaped e;
      other_right = λ kind os h. rw (ne_eqb kind 7 h, or-false);
      other_done = λ s c h. rw (performed_listed c.kind c.operations h);
      other_idle = λ c h. rw (ne_eqb c.kind 7 h, or-false);
      other_reduced = λ l rx ok k h e. other_shaped (of_kind_at l rx ok k h).shaped e;
      other_refused = λ l rx e. rw (none_seven l (calls l) e);
    }
