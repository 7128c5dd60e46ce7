use mathlib.Core.Path.{refl}
use Rattle.calls.specs.Calls.{early}
use Rattle.calls.proofs.early.Goals as goal

pub returns : goal.returns
unfolding early
returns c = refl
