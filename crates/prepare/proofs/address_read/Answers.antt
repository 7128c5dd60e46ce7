use Rattle.registers.proofs.Steps.{call_last, call_step, call_stops, here, write_does}
use Rattle.prepare.proofs.address_read.Goals as goal

pub returns-in_err-send_first_byte : goal.returns-in_err-send_first_byte
returns-in_err-send_first_byte c = call_stops (write_does c.send_first_byte.ensures) _ here c.in_err-send_first_byte.was c.from_residual.ensures

pub returns-in_err-check_twice : goal.returns-in_err-check_twice
returns-in_err-check_twice c = call_stops c.check_twice.ensures _ (call_step (write_does c.send_first_byte.ensures) _ here c.in_ok-send_first_byte.was) c.in_err-check_twice.was c.from_residual-in_err-check_twice.ensures

pub returns : goal.returns
returns c = call_last (call_step c.check_twice.ensures _ (call_step (write_does c.send_first_byte.ensures) _ here c.in_ok-send_first_byte.was) c.in_ok-check_twice.was) c.get.ensures
