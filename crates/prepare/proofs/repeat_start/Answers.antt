use Rattle.registers.proofs.Steps.{call_last, call_step, call_stops, here}
use Rattle.prepare.proofs.repeat_start.Goals as goal

pub returns-in_err-modify_cr1 : goal.returns-in_err-modify_cr1
returns-in_err-modify_cr1 c = call_stops c.modify_cr1.ensures _ here c.in_err-modify_cr1.was c.from_residual.ensures

pub returns : goal.returns
returns c = call_last (call_step c.modify_cr1.ensures _ here c.in_ok-modify_cr1.was) c.until_flag.ensures
