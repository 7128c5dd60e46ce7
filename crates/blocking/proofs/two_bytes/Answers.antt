use Rattle.registers.proofs.Steps.{keeps_fewer}
use Rattle.blocking.proofs.two_bytes.Goals as goal

pub read_data-requires : goal.read_data-requires
read_data-requires c = keeps_fewer c.send_stop.ensures c.requires

pub read_data-requires-2 : goal.read_data-requires-2
read_data-requires-2 c = keeps_fewer c.read_data.ensures (keeps_fewer c.send_stop.ensures c.requires)
