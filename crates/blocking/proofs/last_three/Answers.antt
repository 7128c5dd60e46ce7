use Rattle.registers.proofs.Steps.{keeps_fewer}
use Rattle.blocking.proofs.last_three.Goals as goal

pub second_last-requires : goal.second_last-requires
second_last-requires c = keeps_fewer c.third_last.ensures c.requires

pub receive-requires : goal.receive-requires
receive-requires c = keeps_fewer c.second_last.ensures (keeps_fewer c.third_last.ensures c.requires)
