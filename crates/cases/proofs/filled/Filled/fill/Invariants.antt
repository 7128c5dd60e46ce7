-- What was added so far, as far as there is room.
use Rattle.std.proofs.Common.{◌≡◌, ◌++◌, take, replicate}
use Rattle.cases.specs.Items.{items, capacity}
use Rattle.cases.proofs.filled.Filled.fill.Given as goal

abbrev pub invariant-loop : goal.invariant-loop
invariant-loop g l =
    (items l.self ≡ take (capacity l.fn.self) (items l.fn.self ++ replicate l.counter l.item)) × (capacity l.self ≡ capacity l.fn.self)
