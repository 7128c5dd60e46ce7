use mathlib.Core.Path.{refl}
use Rattle.registers.specs.Word.{has}
use Rattle.registers.proofs.has.Goals as goal

pub returns : goal.returns
unfolding has
returns c = refl
