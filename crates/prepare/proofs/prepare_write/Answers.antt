use Rattle.registers.proofs.Steps.{call_last, call_step, call_stops, here}
use Rattle.prepare.proofs.prepare_write.Goals as goal

pub returns-in_err-request_write : goal.returns-in_err-request_write
returns-in_err-request_write c = call_stops c.request_write.ensures _ here c.in_err-request_write.was c.from_residual.ensures

pub returns : goal.returns
returns c = call_last (call_step c.request_write.ensures _ here c.in_ok-request_write.was) c.address_write.ensures
