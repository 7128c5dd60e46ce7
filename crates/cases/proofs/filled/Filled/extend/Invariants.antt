-- What was added so far, as far as there is room.
use Rattle.std.proofs.Common.{◌≡◌, ◌++◌, take}
use Rattle.cases.specs.Items.{items, capacity}
use Rattle.cases.proofs.filled.Filled.extend.Given as goal

abbrev pub invariant-loop-item : goal.invariant-loop-item
invariant-loop-item g l =
    (items l.self ≡ take (capacity l.fn.self) (items l.fn.self ++ take l.item-index l.more)) × (capacity l.self ≡ capacity l.fn.self)
