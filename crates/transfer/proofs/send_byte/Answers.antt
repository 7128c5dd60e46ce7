use Rattle.registers.proofs.Steps.{call_last, call_step, call_stops, here, write_does}
use Rattle.transfer.proofs.send_byte.Goals as goal

pub returns-in_err-check_until : goal.returns-in_err-check_until
returns-in_err-check_until c = call_stops c.check_until.ensures _ here c.in_err-check_until.was c.from_residual.ensures

pub returns-in_err-write : goal.returns-in_err-write
returns-in_err-write c = call_stops (write_does (rw c.into.ensures at c.write.ensures)) _ (call_step c.check_until.ensures _ here c.in_ok-check_until.was) c.in_err-write.was c.from_residual-in_err-write.ensures

pub returns : goal.returns
returns c = call_last (call_step (write_does (rw c.into.ensures at c.write.ensures)) _ (call_step c.check_until.ensures _ here c.in_ok-check_until.was) c.in_ok-write.was) c.check_until-2.ensures
