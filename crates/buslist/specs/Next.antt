-- The forms of the contract of `joined_at`: what it asks, and the operations of a combined call, from one of them on.
use Rattle.std.specs.Prelude.{ℕ, ◌-◌, ◌≤◌, ◌<◌, ◌≡◌, Bool, ◌||◌, List, [], ◌∷◌, ◌++◌, map, eqb}
use Rattle.buslist.specs.declared.OperationEntry.{OperationEntry}
use Rattle.buslist.specs.declared.Joined.{Joined}
use Rattle.buslist.specs.Table.{operation_count, operation_at, entries}
use Rattle.buslist.specs.Meaning.{Operation, empty, operation_of}
use Rattle.buslist.specs.Combined.{dropped, combined}
use Rattle.buslist.specs.Refusal.{refusal}

-- operation j comes before this end, in the table of an accepted list
abbrev pub OfAccepted : List ℕ → (j end : ℕ) → Type 0
OfAccepted l j end = (j < end) × (end ≤ operation_count l) × ((rx : ℕ) × (refusal l rx ≡ 0))

-- the operations from number j on, up to the end
abbrev pub operations_from : List ℕ → ℕ → ℕ → List Operation
operations_from l j end = map (operation_of l) (entries (operation_at l) j (end - j))

-- o is joined with operations of the first one's direction: it has that direction, or no bytes
abbrev pub joins : List ℕ → OperationEntry → OperationEntry → Bool
joins l first o = eqb o.direction first.direction || empty (operation_of l o)

-- of the operations from j on, combined, the first is the joined one, unless that is empty; the others are those from the next number on, combined
pub record JoinsAt (l : List ℕ) (j end : ℕ) (r : Joined) : Type 0 where
  pub some : j < r.next
  pub most : r.next ≤ end
  pub first : combined (operations_from l j end) ≡ dropped (operation_of l r.operation ∷ []) ++ combined (operations_from l r.next end)
