use Rattle.registers.specs.Machine.{Handler}
use Rattle.registers.proofs.Steps.{waits_end}
use Rattle.blocking.proofs.stop_wait.Goals as goal

pub returns : goal.returns
returns c = waits_end (c.busy_wait.ensures Handler.ends)
