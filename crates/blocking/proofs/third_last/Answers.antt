use Rattle.registers.proofs.Steps.{keeps_fewer}
use Rattle.blocking.proofs.third_last.Goals as goal

pub read_data-requires : goal.read_data-requires
read_data-requires c = keeps_fewer c.modify_cr1.ensures (keeps_fewer c.read_wait.ensures c.requires)
