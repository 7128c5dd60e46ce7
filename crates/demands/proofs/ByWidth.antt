-- What document 02 promises of ten-bit addresses, and that seven-bit ones are what they were.
-- Assumes nothing.
use Prim.Native.Nat.{ℕ, zero, suc, ◌+◌, ◌≤◌, ◌<◌}
use native.Mathlib.Omega.{arith}
use mathlib.Core.Bool.{Bool, true, false, not, false≢true}
use mathlib.Core.Path.{◌≡◌, refl, sym, ap, ap₂, ◌∙◌}
use mathlib.Core.List.{List, [], ◌∷◌, ◌++◌, map, append_assoc, map-map}
use lib.ListN.{take, drop}
use lib.Dec.{lit<}
use borrow.Author.Tests.{ltb-false}
use Rattle.buslist.specs.declared.Address.{Address}
use Rattle.buslist.specs.declared.CallEntry.{CallEntry}
use Rattle.buslist.specs.Table.{call_count, call_at, entries, calls}
use Rattle.buslist.specs.Meaning.{Operation, write, read, Engine, polling, blocking, engine_of, is_polling, address_width, is_ten, address_of}
use Rattle.buslist.specs.Refusal.{any, address_out, Cause, causes, first_cause, refusal}
use Rattle.buslist.proofs.Accept.{or_not_iff, passed, entry_fails, call_width, address_in}
use Rattle.i2c.specs.declared.Previous.{Previous}
use Rattle.i2c.specs.Polling.{turn_write, turn_read, turn, direction, polling_steps}
use Rattle.calls.specs.Calls.{operations_steps, steps_of}
use Rattle.calls.proofs.CallLaws.{performed_listed}
use Rattle.demands.specs.Compare.{Reduced, reduced, reduced_calls, Accepted}
use Rattle.demands.specs.ByWidth.{seven_prepare, seven_turn, seven_steps, address_out_before, causes_before, widths, ByWidth}
use Rattle.demands.proofs.Shape.{All, none, more}
use Rattle.demands.proofs.Demand3.{demand_3}

-- document 01's prepare is the one of a seven-bit call
prepare_is : (a : ℕ) (previous : Previous) (o : Operation) → turn false (Address.Seven a) previous o ≡ seven_prepare a previous o
unfolding turn turn_write turn_read
prepare_is a Previous.Nothing (write bytes) = refl
prepare_is a Previous.Write (write bytes) = refl
prepare_is a Previous.Read (write bytes) = refl
prepare_is a Previous.Nothing (read n) = refl
prepare_is a Previous.Write (read n) = refl
prepare_is a Previous.Read (read n) = refl

-- with the early Overrun
turn_is : (early : Bool) (a : ℕ) (previous : Previous) (o : Operation) → turn early (Address.Seven a) previous o ≡ seven_turn early a previous o
unfolding turn
turn_is true a previous (write bytes) = prepare_is a previous (write bytes)
turn_is true a previous (read zero) = refl
turn_is true a previous (read (suc n)) = prepare_is a previous (read (suc n))
turn_is false a previous o = prepare_is a previous o

-- and so are its steps
steps_are : (early : Bool) (a : ℕ) (previous : Previous) (os : List Operation) → polling_steps early (Address.Seven a) previous os ≡ seven_steps early a previous os
unfolding polling_steps seven_steps
steps_are early a previous [] = refl
steps_are early a previous (o ∷ os) = rw (append_assoc, turn_is early a previous o, steps_are early a (direction o) os)

-- kind 7 is no polling one
not_seven : (kind : ℕ) → engine_of kind ≡ polling → kind ≡ 7 → ⊥
unfolding engine_of
not_seven kind e h = let f = rw h at e in let z : ◌≡◌ {A = ℕ} 0 1 = cc in omega arith

-- an engine that is polling, by its test
polling_is : (e : Engine) → not (is_polling e) ≡ false → e ≡ polling
polling_is polling h = refl
polling_is blocking h = absurd (false≢true (sym h))

-- a ten-bit address in range is one of a polling call and at most 1023, and a seven-bit one is at most 127
module _ (c : CallEntry) (e : address_out c ≡ false) where
  ten_in : c.width ≡ 10 → (engine_of c.kind ≡ polling) × (c.address ≤ 1023)
  ten_in w = let f = simp (w, or_not_iff) at e in (polling_is _ f.1, ltb-false _ _ f.0)

  seven_in : c.width ≡ 7 → c.address ≤ 127
  seven_in w = ltb-false _ _ (simp w at e)

-- without a ten-bit call 24 applies as before
same_24 : (cs : List CallEntry) → any is_ten cs ≡ false → any address_out cs ≡ any address_out_before cs
unfolding any
same_24 [] e = refl
same_24 (c ∷ cs) e = let f = simp or_not_iff at e in rw (f.0, same_24 cs f.1)

-- where it did not apply, there is no ten-bit call
none_ten : (cs : List CallEntry) → any address_out_before cs ≡ false → any is_ten cs ≡ false
unfolding any
none_ten [] e = refl
none_ten (c ∷ cs) e = let f = simp or_not_iff at e in rw f.0.0 (none_ten cs f.1)

-- where no cause applies first, one that stands after others does not apply
first_none : (xs : List Cause) (c : Cause) (ys : List Cause) → All (λ c. 0 < c.number) xs → 0 < c.number → first_cause (xs ++ c ∷ ys) ≡ 0 → c.applies ≡ false
unfolding first_cause
first_none [] c ys none h e = (passed c.applies c.number (first_cause ys) e h).0
first_none (x ∷ xs) c ys (more k ks) h e = first_none xs c ys ks h (passed x.applies x.number (first_cause (xs ++ c ∷ ys)) e k).1

module _ (l : List ℕ) (rx : ℕ) where
  -- so a list without one is refused as before
  refused_before : any is_ten (calls l) ≡ false → refusal l rx ≡ first_cause (causes_before l rx)
  unfolding refusal causes first_cause
  refused_before e = rw (same_24 (calls l) e)

  -- to a list accepted before 24 did not apply
  in_before : first_cause (causes_before l rx) ≡ 0 → any address_out_before (calls l) ≡ false
  unfolding causes
  in_before ok =
      first_none (take 4 (causes l rx)) (record { number = 24; applies = any address_out_before (calls l) }) (drop 5 (causes l rx))
      (more (lit< tt) (more (lit< tt) (more (lit< tt) (more (lit< tt) none)))) (lit< tt) ok

  -- and its calls have seven-bit addresses
  seven_before : first_cause (causes_before l rx) ≡ 0 → (k : ℕ) → k < call_count l → address_of (call_at l k) ≡ Address.Seven (call_at l k).address
  unfolding address_of
  seven_before ok k h = let f = simp or_not_iff at (entry_fails address_out_before (call_at l) (call_count l) k (in_before ok) h) in rw f.0

-- what two functions make of the entries of a table
map_entries : {A B : Type 0} (f g : A → B) (entry : ℕ → A) (j n : ℕ) → ((k : ℕ) → k < j + n → f (entry k) ≡ g (entry k)) → map f (entries entry j n) ≡ map g (entries entry j n)
unfolding entries
map_entries f g entry j zero h = refl
map_entries f g entry j (suc n) h = ap₂ ◌∷◌ (h j (omega arith)) (map_entries f g entry (j + 1) n (λ k below. h k (omega arith)))

-- the width of a reduced address
abbrev width_of : Reduced → ℕ
width_of r = address_width r.address

-- the reduced calls of an accepted list have the widths of its calls
widths_are : (l : List ℕ) (rx : ℕ) → Accepted l rx → widths l ≡ map width_of (reduced_calls l)
unfolding reduced
widths_are l rx ok =
    simp map-map (map_entries (λ c. c.width) (λ c. address_width (address_of c)) (call_at l) 0 (call_count l) (λ k below. sym (call_width l rx ok k (omega arith))))

pub by_width : ByWidth
unfolding steps_of operations_steps
by_width =
    record {
      seven_polling = λ s c a e w. rw (e, w, performed_listed c.kind c.operations (not_seven c.kind e)) (steps_are _ a Previous.Nothing _);
      seven_blocking = λ s c a e w. rw (e, w);
      ten_accepted = λ l rx ok k h. ten_in (call_at l k) (address_in l rx ok k h);
      seven_accepted = λ l rx ok k h. seven_in (call_at l k) (address_in l rx ok k h);
      seven_refused = refused_before;
      accepted_before = λ l rx ok. refused_before l rx (none_ten (calls l) (in_before l rx ok)) ∙ ok;
      before_seven = seven_before;
      widths_told = λ l m c readings readings' rx rx' words words' ok ok' ends ends' same.
          widths_are l rx ok ∙ ap (map width_of) (demand_3.told_apart l m c readings readings' rx rx' words words' ok ok' ends ends' same) ∙ sym (widths_are m rx' ok');
    }
