use Rattle.registers.proofs.Steps.{call_last, call_step, call_stops, here, write_does}
use Rattle.prepare.proofs.address_write.Goals as goal

pub returns-in_err-send_first_byte : goal.returns-in_err-send_first_byte
returns-in_err-send_first_byte c = call_stops (write_does c.send_first_byte.ensures) _ here c.in_err-send_first_byte.was c.from_residual.ensures

pub returns-in_err-send_low_byte : goal.returns-in_err-send_low_byte
returns-in_err-send_low_byte c = call_stops c.send_low_byte.ensures _ (call_step (write_does c.send_first_byte.ensures) _ here c.in_ok-send_first_byte.was) c.in_err-send_low_byte.was c.from_residual-in_err-send_low_byte.ensures

pub returns-in_err-check_until : goal.returns-in_err-check_until
returns-in_err-check_until c = call_stops c.check_until.ensures _ (call_step c.send_low_byte.ensures _ (call_step (write_does c.send_first_byte.ensures) _ here c.in_ok-send_first_byte.was) c.in_ok-send_low_byte.was) c.in_err-check_until.was c.from_residual-in_err-check_until.ensures

pub returns : goal.returns
returns c = call_last (call_step c.check_until.ensures _ (call_step c.send_low_byte.ensures _ (call_step (write_does c.send_first_byte.ensures) _ here c.in_ok-send_first_byte.was) c.in_ok-send_low_byte.was) c.in_ok-check_until.was) c.get.ensures
