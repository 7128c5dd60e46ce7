use mathlib.Core.Path.{refl}
use Rattle.engine.proofs.bus_run.Goals as goal

pub returns : goal.returns
returns c = record { counts = c.run-c.result; runs = c.run-c.ensures; told = refl }
