use Rattle.registers.proofs.Steps.{at_setup, call_last, call_step, call_stops, here, same_then, write_does}
use Rattle.registers.specs.Machine.{bring_up}
use Rattle.i2c.proofs.reset.Goals as goal

pub returns-in_err-write : goal.returns-in_err-write
returns-in_err-write c = call_stops (write_does c.write.ensures) _ here c.in_err-write.was c.from_residual.ensures

pub returns-in_err-write-2 : goal.returns-in_err-write-2
returns-in_err-write-2 c = call_stops (write_does c.write-2.ensures) _ (call_step (write_does c.write.ensures) _ here c.in_ok-write.was) c.in_err-write-2.was c.from_residual-in_err-write-2.ensures

pub returns : goal.returns
returns c = call_last (call_step (write_does c.write-2.ensures) _ (call_step (write_does c.write.ensures) _ here c.in_ok-write.was) c.in_ok-write-2.was) (at_setup (same_then c.write.ensures.same c.write-2.ensures.same) bring_up c.init.ensures)
