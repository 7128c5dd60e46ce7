-- The entries of a table that an iterator has left.
use Rattle.std.specs.Prelude.{ℕ, ◌-◌, List}
use Rattle.std.specs.declared.ops.Range.{Range}
use Rattle.buslist.specs.Table.{entries}

-- those under the numbers of a range
abbrev pub entries_left : {A : Type 0} → (List ℕ → ℕ → A) → List ℕ → Range ℕ → List A
entries_left at l left = entries (at l) left.start (left.end - left.start)
