use Rattle.registers.proofs.Steps.{call_last, call_step, call_stops, here}
use Rattle.prepare.proofs.request_write.Goals as goal

pub returns-in_err-until_stop_clear : goal.returns-in_err-until_stop_clear
returns-in_err-until_stop_clear c = call_stops c.until_stop_clear.ensures _ here c.in_err-until_stop_clear.was c.from_residual.ensures

pub returns-in_err-send_start : goal.returns-in_err-send_start
returns-in_err-send_start c = call_stops c.send_start.ensures _ (call_step c.until_stop_clear.ensures _ here c.in_ok-until_stop_clear.was) c.in_err-send_start.was c.from_residual-in_err-send_start.ensures

pub returns-in_err-check_until : goal.returns-in_err-check_until
returns-in_err-check_until c = call_stops c.check_until.ensures _ (call_step c.send_start.ensures _ (call_step c.until_stop_clear.ensures _ here c.in_ok-until_stop_clear.was) c.in_ok-send_start.was) c.in_err-check_until.was c.from_residual-in_err-check_until.ensures

pub returns : goal.returns
returns c = call_last (call_step c.check_until.ensures _ (call_step c.send_start.ensures _ (call_step c.until_stop_clear.ensures _ here c.in_ok-until_stop_clear.was) c.in_ok-send_start.was) c.in_ok-check_until.was) c.check_master.ensures
