use Rattle.registers.proofs.Steps.{call_last, call_step, call_stops, here, keeps_fewer}
use Rattle.transfer.proofs.recv_byte.Goals as goal

pub returns-in_err-check_twice : goal.returns-in_err-check_twice
returns-in_err-check_twice c = call_stops c.check_twice.ensures _ here c.in_err-check_twice.was c.from_residual.ensures

pub read_data-requires : goal.read_data-requires
read_data-requires c = keeps_fewer c.check_twice.ensures c.requires

pub returns : goal.returns
returns c = call_last (call_step c.check_twice.ensures _ here c.in_ok-check_twice.was) c.read_data.ensures
