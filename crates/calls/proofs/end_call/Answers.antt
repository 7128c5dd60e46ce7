use Rattle.registers.proofs.Steps.{here, ends_well}
use Rattle.calls.specs.Whole.{end_steps}
use Rattle.calls.proofs.end_call.Goals as goal

pub returns-in-Polling : goal.returns-in-Polling
unfolding end_steps
returns-in-Polling c = rw (← c.engine.ensures, c.in-Polling.is) (ends_well here)

pub returns-in-Blocking : goal.returns-in-Blocking
unfolding end_steps
returns-in-Blocking c = rw (← c.engine.ensures, c.in-Blocking.is) c.close_after.ensures
