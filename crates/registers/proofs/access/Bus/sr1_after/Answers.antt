use mathlib.Core.Path.{refl}
use Rattle.registers.specs.Access.{cut}
use Rattle.registers.proofs.access.Bus.sr1_after.Goals as goal

pub returns : goal.returns
unfolding cut
returns c = refl
