use Rattle.calls.specs.Whole.{operation_steps}
use Rattle.calls.proofs.CallLaws.{number_of_address}
use Rattle.calls.proofs.operation.Goals as goal

pub returns-in-Polling : goal.returns-in-Polling
unfolding operation_steps
returns-in-Polling c = rw (← c.engine.ensures, c.in-Polling.is) c.polling_operation.ensures

pub returns-in-Blocking : goal.returns-in-Blocking
unfolding operation_steps
returns-in-Blocking c = rw (← c.engine.ensures, c.in-Blocking.is, number_of_address) c.blocking_operation.ensures
