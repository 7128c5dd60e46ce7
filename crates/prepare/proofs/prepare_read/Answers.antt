use Rattle.registers.proofs.Steps.{call_last, call_step, call_stops, here}
use Rattle.prepare.proofs.prepare_read.Goals as goal

pub returns-in_err-request_read : goal.returns-in_err-request_read
returns-in_err-request_read c = call_stops c.request_read.ensures _ here c.in_err-request_read.was c.from_residual.ensures

pub returns : goal.returns
returns c = call_last (call_step c.request_read.ensures _ here c.in_ok-request_read.was) c.address_read.ensures
