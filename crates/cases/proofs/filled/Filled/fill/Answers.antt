-- More times than there is room for come to the same as just so many.
use Rattle.std.proofs.Common.{arith}
use Rattle.cases.proofs.Room.{take_times}
use Rattle.cases.proofs.filled.Filled.fill.Goals as goal

pub returns-clause-items : goal.returns-clause-items
returns-clause-items g c = grind (arith, take_times)
