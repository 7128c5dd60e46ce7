use Rattle.registers.proofs.Steps.{keeps_fewer}
use Rattle.blocking.proofs.read_more.Goals as goal

pub receive_bytes-requires : goal.receive_bytes-requires
receive_bytes-requires c = keeps_fewer c.more_ready.ensures c.requires

pub last_three-requires : goal.last_three-requires
last_three-requires c = keeps_fewer c.receive_bytes.ensures (keeps_fewer c.more_ready.ensures c.requires)
