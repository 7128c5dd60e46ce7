use Rattle.registers.proofs.Steps.{call_last, call_step, call_stops, here}
use Rattle.prepare.proofs.start_read.Goals as goal

pub returns-in_err-until_stop_clear : goal.returns-in_err-until_stop_clear
returns-in_err-until_stop_clear c = call_stops c.until_stop_clear.ensures _ here c.in_err-until_stop_clear.was c.from_residual.ensures

pub returns-in_err-request_start : goal.returns-in_err-request_start
returns-in_err-request_start c = call_stops c.request_start.ensures _ (call_step c.until_stop_clear.ensures _ here c.in_ok-until_stop_clear.was) c.in_err-request_start.was c.from_residual-in_err-request_start.ensures

pub returns-in_err-until_flag : goal.returns-in_err-until_flag
returns-in_err-until_flag c = call_stops c.until_flag.ensures _ (call_step c.request_start.ensures _ (call_step c.until_stop_clear.ensures _ here c.in_ok-until_stop_clear.was) c.in_ok-request_start.was) c.in_err-until_flag.was c.from_residual-in_err-until_flag.ensures

pub returns : goal.returns
returns c = call_last (call_step c.until_flag.ensures _ (call_step c.request_start.ensures _ (call_step c.until_stop_clear.ensures _ here c.in_ok-until_stop_clear.was) c.in_ok-request_start.was) c.in_ok-until_flag.was) c.until_master.ensures
