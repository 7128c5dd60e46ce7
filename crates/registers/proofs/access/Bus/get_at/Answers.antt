use mathlib.Core.Path.{refl}
use mathlib.Core.List.{[]}
use Rattle.registers.specs.Machine.{next}
use Rattle.registers.proofs.Steps.{here, read_step, read_stops, ends_well}
use Rattle.registers.proofs.access.Bus.get_at.Goals as goal

pub returns-in_err-read_at : goal.returns-in_err-read_at
returns-in_err-read_at c = read_stops {q₁ = []} here c.read_at.ensures refl c.in_err-read_at.was c.from_residual.ensures

pub returns : goal.returns
unfolding next
returns c = ends_well (read_step {q₁ = []} here c.read_at.ensures refl c.requires.1 c.in_ok-read_at.was {m = []} refl)
