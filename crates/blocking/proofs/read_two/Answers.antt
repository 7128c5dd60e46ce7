use Rattle.registers.proofs.Steps.{keeps_fewer}
use Rattle.blocking.proofs.read_two.Goals as goal

pub two_bytes-requires : goal.two_bytes-requires
two_bytes-requires c = keeps_fewer c.two_ready.ensures c.requires
