use Rattle.registers.proofs.Steps.{call_last, call_step, call_stops, here, write_does}
use Rattle.i2c.proofs.request_start.Goals as goal

pub returns-in_err-write : goal.returns-in_err-write
returns-in_err-write c = call_stops (write_does c.write.ensures) _ here c.in_err-write.was c.from_residual.ensures

pub returns : goal.returns
returns c = call_last (call_step (write_does c.write.ensures) _ here c.in_ok-write.was) c.modify_cr1.ensures
