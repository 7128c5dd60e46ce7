use Rattle.registers.proofs.Steps.{call_last, call_step, call_stops, here}
use Rattle.transfer.proofs.write_wo_prepare.Goals as goal

pub returns-in_err-write_bytes : goal.returns-in_err-write_bytes
returns-in_err-write_bytes c = call_stops c.write_bytes.ensures _ here c.in_err-write_bytes.was c.from_residual.ensures

pub returns-in_err-send_stop : goal.returns-in_err-send_stop
returns-in_err-send_stop c = call_stops c.send_stop.ensures _ (call_step c.write_bytes.ensures _ here c.in_ok-write_bytes.was) c.in_err-send_stop.was c.from_residual-in_err-send_stop.ensures

pub returns : goal.returns
returns c = call_last (call_step c.send_stop.ensures _ (call_step c.write_bytes.ensures _ here c.in_ok-write_bytes.was) c.in_ok-send_stop.was) c.until_stop_clear.ensures
