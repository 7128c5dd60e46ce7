-- The list only grows.
use Rattle.std.proofs.Common.{◌≡◌, length, take}
use Rattle.cases.specs.Items.{items, capacity}
use Rattle.cases.proofs.repeat.Given as goal

abbrev pub invariant-loop : goal.invariant-loop
invariant-loop l =
    (take (length (items l.fn.list)) (items l.list) ≡ items l.fn.list) × (capacity l.list ≡ capacity l.fn.list)
