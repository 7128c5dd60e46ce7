-- The calls of an accepted list of bytes: operations of their kinds, and what holds of each where no call passes a test.
-- Assumes nothing.
use Prim.Native.Nat.{ℕ, zero, suc, ◌+◌, ◌≤◌, ◌<◌}
use native.Mathlib.Omega.{arith}
use mathlib.Core.Bool.{Bool, true, false, and-eq-true_iff, or-false, ◌||◌, ◌&&◌}
use mathlib.Core.Path.{◌≡◌, refl}
use mathlib.Core.List.{List, [], ◌∷◌, map}
use borrow.Author.Tests.{eqb-true, eqb-false}
use lib.ListN.{length, length-take, length-drop}
use lib.Dec.{eqb}
use Rattle.buslist.specs.Table.{call_count, operation_count, call_at, operation_at, entries}
use Rattle.buslist.specs.Form.{has_directions, kind_right}
use Rattle.buslist.specs.Refusal.{any, empty_blocking, write_after_read, refusal}
use Rattle.buslist.specs.Meaning.{write, read, Engine, polling, blocking, engine_of, Call, operation_of, address_of, call_of, calls_of}
use Rattle.buslist.specs.Combined.{combined, read_then_write}
use Rattle.buslist.proofs.Walk.{one-direction, two_directions}
use Rattle.buslist.proofs.Accept.{accepted, entry_fails, write_within, call_within, call_operations, call_kind, blocking_seven, operation_write, operation_read}
use Rattle.demands.specs.Compare.{polls_empty_read}
use Rattle.demands.proofs.Shape.{All, none, more, Fails, fails, Shaped, polling_write, polling_read, polling_write_read, transaction, blocking_write, blocking_read, blocking_write_read, blocking_transaction, SevenIn, OfKind, FullIn, Sound}

-- a blocking write of some bytes, and a blocking read of a length
write_shaped : (bs : List ℕ) → 0 < length bs → Shaped 4 (write bs ∷ [])
write_shaped [] h = absurd (omega arith)
write_shaped (b ∷ bs) h = blocking_write

read_shaped : (n : ℕ) → 0 < n → Shaped 5 (read n ∷ [])
read_shaped zero h = absurd (omega arith)
read_shaped (suc n) h = blocking_read

-- the one operation, and the two, of these directions
module _ (l : List ℕ) (j n : ℕ) where
  one_operation : (d : ℕ) → has_directions (d ∷ []) (entries (operation_at l) j n) ≡ true → (n ≡ 1) × ((operation_at l j).direction ≡ d)
  one_operation d e =
      let f = simp (one-direction, and-eq-true_iff) at e in
      (eqb-true _ _ f.0, eqb-true _ _ f.1)

  two_operations : (d d' : ℕ) → has_directions (d ∷ d' ∷ []) (entries (operation_at l) j n) ≡ true
      → (n ≡ 2) × ((operation_at l j).direction ≡ d) × ((operation_at l (j + 1)).direction ≡ d')
  two_operations d d' e =
      let f = simp (two_directions, and-eq-true_iff) at e in
      (eqb-true _ _ f.0, eqb-true _ _ f.1.0, eqb-true _ _ f.1.1)

module _ (l : List ℕ) (rx : ℕ) (ok : refusal l rx ≡ 0) where
  -- the operations of a call, by its kind
  shaped : (kind first count : ℕ) → kind ≤ 7 → first + count ≤ operation_count l
      → kind_right kind (entries (operation_at l) first count) ≡ true
      → ((eqb kind 4 || eqb kind 5) && eqb (operation_at l first).length 0) ≡ false
      → (eqb kind 7 && read_then_write (combined (map (operation_of l) (entries (operation_at l) first count)))) ≡ false
      → Shaped kind (map (operation_of l) (entries (operation_at l) first count))
  unfolding kind_right entries
  shaped zero first count most within e f g =
      let h = one_operation l first count 0 (simp or-false at e) in
      rw (h.0, operation_write l (operation_at l first) h.1) polling_write
  shaped (suc zero) first count most within e f g =
      let h = one_operation l first count 1 (simp or-false at e) in
      rw (h.0, operation_read l (operation_at l first) h.1) polling_read
  shaped (suc (suc zero)) first count most within e f g =
      let h = two_operations l first count 0 1 (simp or-false at e) in
      rw (h.0, operation_write l (operation_at l first) h.1, operation_read l (operation_at l (first + 1)) h.2) polling_write_read
  shaped (suc (suc (suc zero))) first count most within e f g = transaction
  shaped (suc (suc (suc (suc zero)))) first count most within e f g =
      let h = one_operation l first count 0 (simp or-false at e) in
      let w = write_within l rx ok first (omega (arith, h.0)) h.1 in
      rw (h.0, operation_write l (operation_at l first) h.1) (write_shaped _ (simp (length-take, length-drop) (omega (arith, eqb-false (operation_at l first).length 0 f))))
  shaped (suc (suc (suc (suc (suc zero))))) first count most within e f g =
      let h = one_operation l first count 1 (simp or-false at e) in
      rw (h.0, operation_read l (operation_at l first) h.1) (read_shaped _ (omega (arith, eqb-false (operation_at l first).length 0 f)))
  shaped (suc (suc (suc (suc (suc (suc zero)))))) first count most within e f g =
      let h = two_operations l first count 0 1 (simp or-false at e) in
      rw (h.0, operation_write l (operation_at l first) h.1, operation_read l (operation_at l (first + 1)) h.2) blocking_write_read
  shaped (suc (suc (suc (suc (suc (suc (suc zero))))))) first count most within e f g = blocking_transaction (fails _ g)
  shaped (suc (suc (suc (suc (suc (suc (suc (suc kind)))))))) first count most within e f g = absurd (omega arith)

-- what holds of each entry holds of all that they mean
all_entries : {A B : Type 0} (P : B → Type 0) (f : A → B) (entry : ℕ → A) (j n : ℕ) → ((k : ℕ) → k < j + n → P (f (entry k))) → All P (map f (entries entry j n))
unfolding entries
all_entries P f entry j zero h = none
all_entries P f entry j (suc n) h = more (h j (omega arith)) (all_entries P f entry (j + 1) n (λ k below. h k (omega arith)))

-- call k of an accepted list has a seven-bit address where it is blocking
seven_at : (l : List ℕ) (rx : ℕ) → refusal l rx ≡ 0 → (k : ℕ) → k < call_count l → SevenIn (engine_of (call_at l k).kind) (address_of (call_at l k))
seven_at l rx ok k h = by (engine_of (call_at l k).kind) refl
  where
    by : (e : Engine) → engine_of (call_at l k).kind ≡ e → SevenIn e (address_of (call_at l k))
    by polling e = tt
    by blocking e = rw (blocking_seven l rx ok k h (rw e)) tt

-- and the operations of its kind; and so have all
pub of_kind_at : (l : List ℕ) (rx : ℕ) → refusal l rx ≡ 0 → (k : ℕ) → k < call_count l → OfKind (call_of l (call_at l k))
of_kind_at l rx ok k h =
    record {
      shaped =
          shaped l rx ok _ _ _ (call_kind l rx ok k h) (call_within l rx ok k h) (call_operations l rx ok k h)
          (entry_fails (empty_blocking l) (call_at l) (call_count l) k (accepted l rx ok).blocking h)
          (entry_fails (write_after_read l) (call_at l) (call_count l) k (accepted l rx ok).combined h);
      seven = seven_at l rx ok k h;
    }

pub of_kind : (l : List ℕ) (rx : ℕ) → refusal l rx ≡ 0 → All OfKind (calls_of l)
of_kind l rx ok = all_entries OfKind _ (call_at l) 0 (call_count l) (λ k below. of_kind_at l rx ok k (omega arith))

-- a test that fails, with all after it
or_fails : (a b : Bool) → (a || b) ≡ false → Fails a × (b ≡ false)
or_fails true b e = absurd (fails true e)
or_fails false b e = (tt, e)

-- where none passes a test, each fails it
pub each_fails : {A : Type 0} (test : A → Bool) (xs : List A) → any test xs ≡ false → All (λ x. Fails (test x)) xs
unfolding any
each_fails test [] e = none
each_fails test (x ∷ xs) e = let h = or_fails (test x) (any test xs) e in more h.0 (each_fails test xs h.1)

-- a call that is no polling call ending in an empty read
full_of : (c : Call) → Fails (polls_empty_read c) → FullIn (engine_of c.kind) c.operations
unfolding polls_empty_read
full_of c h = by (engine_of c.kind) refl
  where
    by : (e : Engine) → engine_of c.kind ≡ e → FullIn e c.operations
    by polling e = rw e at h
    by blocking e = tt

-- calls of their kinds that are none of them the exception are sound
pub sound : {cs : List Call} → All OfKind cs → All (λ c. Fails (polls_empty_read c)) cs → All Sound cs
sound none none = none
sound (more {a = c} k ks) (more f fs) = more (record { of_kind = k; full = full_of c f }) (sound ks fs)
