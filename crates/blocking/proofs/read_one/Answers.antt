use Rattle.registers.proofs.Steps.{keeps_fewer}
use Rattle.blocking.proofs.read_one.Goals as goal

pub receive-requires : goal.receive-requires
receive-requires c = keeps_fewer c.one_ready.ensures c.requires
