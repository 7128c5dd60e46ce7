-- What document 02 promises of kind 7 (C-11), and that the other kinds are what they were.
use Rattle.std.specs.Prelude.{ℕ, suc, ◌<◌, ◌≡◌, ◌⊎◌, Bool, true, false, ◌&&◌, ◌||◌, List, [], ◌∷◌, take, eqb}
use Rattle.units.specs.declared.Setup.{Setup}
use Rattle.buslist.specs.declared.CallEntry.{CallEntry}
use Rattle.buslist.specs.declared.OperationEntry.{OperationEntry}
use Rattle.buslist.specs.Table.{call_count, call_at, calls}
use Rattle.buslist.specs.Form.{has_directions, kind_right}
use Rattle.buslist.specs.Meaning.{Operation, write, read, Engine, polling, blocking, engine_of, Call, call_of}
use Rattle.buslist.specs.Combined.{dropped, joined, combined}
use Rattle.buslist.specs.Refusal.{any, causes, first_cause, refusal}
use Rattle.i2c.specs.declared.Previous.{Previous}
use Rattle.calls.specs.Calls.{early, operations_steps, steps_of}
use Rattle.demands.specs.Compare.{reduced_operations, is_empty, idle, Accepted}

-- what is left of a kind 7 call, and the kind that does it: blocking write, read or write_read
pub data LeftFor : ℕ → List Operation → Type 0 where
  for_write : {b : ℕ} {bs : List ℕ} → LeftFor 4 (write (b ∷ bs) ∷ [])
  for_read : {n : ℕ} → LeftFor 5 (read (suc n) ∷ [])
  for_write_read : {b : ℕ} {bs : List ℕ} {n : ℕ} → LeftFor 6 (write (b ∷ bs) ∷ read (suc n) ∷ [])

-- a call with its operations combined, of this kind
abbrev pub combined_as : ℕ → Call → Call
combined_as kind c = record { kind = kind; address = c.address; operations = combined c.operations }

-- a call does what is left of it as a call of that kind; with nothing left it does nothing
abbrev pub DoneAs : Setup → Call → Type 0
DoneAs s c =
    ((combined c.operations ≡ []) × (steps_of s c ≡ []))
    ⊎ ((kind : ℕ) × LeftFor kind (combined c.operations) × (steps_of s c ≡ steps_of s (combined_as kind c)))

-- document 01's kinds and their operations
abbrev pub listed_right : ℕ → List OperationEntry → Bool
listed_right kind os =
    (eqb kind 0 || eqb kind 4) && has_directions (0 ∷ []) os
    || (eqb kind 1 || eqb kind 5) && has_directions (1 ∷ []) os
    || (eqb kind 2 || eqb kind 6) && has_directions (0 ∷ 1 ∷ []) os
    || eqb kind 3

-- document 01's reduced operations: polling joined, blocking with the empty ones dropped
abbrev pub listed_reduced : Engine → List Operation → List Operation
listed_reduced polling os = joined os
listed_reduced blocking os = dropped os

-- document 01's idle calls
abbrev pub listed_idle : Call → Bool
listed_idle c = eqb c.kind 3 && is_empty c.operations || eqb c.kind 6 && is_empty (dropped c.operations)

-- a call of kind 7
abbrev pub is_seven : CallEntry → Bool
is_seven c = eqb c.kind 7

pub record ByKind : Type 0 where
  -- kind 7 takes any operations
  pub seven_any : (os : List OperationEntry) → kind_right 7 os ≡ true
  -- what remains in a call of an accepted list is done as blocking write, read or write_read; with nothing left, nothing is done
  pub seven_done : (l : List ℕ) (rx : ℕ) → Accepted l rx → (k : ℕ) → k < call_count l → (call_at l k).kind ≡ 7 → (s : Setup) → DoneAs s (call_of l (call_at l k))
  -- a call of any other kind has the operations that document 01 names, does them as listed, and is idle and reduced as document 01 says
  pub other_right : (kind : ℕ) (os : List OperationEntry) → (kind ≡ 7 → ⊥) → kind_right kind os ≡ listed_right kind os
  pub other_done : (s : Setup) (c : Call) → (c.kind ≡ 7 → ⊥)
      → steps_of s c ≡ operations_steps s (engine_of c.kind) (early c.kind) c.address Previous.Nothing c.operations
  pub other_idle : (c : Call) → (c.kind ≡ 7 → ⊥) → idle c ≡ listed_idle c
  pub other_reduced : (l : List ℕ) (rx : ℕ) → Accepted l rx → (k : ℕ) → k < call_count l → ((call_at l k).kind ≡ 7 → ⊥) → let c = call_of l (call_at l k) in
      reduced_operations (engine_of c.kind) c.operations ≡ listed_reduced (engine_of c.kind) c.operations
  -- a list without a call of kind 7 is refused by causes 20 to 26 alone; the form of its calls, in 20, is that of `other_right`
  pub other_refused : (l : List ℕ) (rx : ℕ) → any is_seven (calls l) ≡ false → refusal l rx ≡ first_cause (take 7 (causes l rx))
