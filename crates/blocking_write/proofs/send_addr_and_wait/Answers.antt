use Rattle.registers.specs.Machine.{Handler}
use Rattle.registers.proofs.Steps.{here, write_does, call_step, call_stops, waits_last}
use Rattle.blocking_write.proofs.send_addr_and_wait.Goals as goal

pub returns-in_err-send_addr : goal.returns-in_err-send_addr
returns-in_err-send_addr c =
    call_stops (write_does c.send_addr.ensures) _ (call_step c.get.ensures _ here c.in_ok-get.was) c.in_err-send_addr.was c.from_residual-in_err-send_addr.ensures

pub returns : goal.returns
returns c =
    c.stop_for.ensures _ _
    (waits_last (call_step (write_does c.send_addr.ensures) _ (call_step c.get.ensures _ here c.in_ok-get.was) c.in_ok-send_addr.was) (c.busy_wait-waited.ensures Handler.stops))
