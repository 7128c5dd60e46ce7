use Rattle.registers.proofs.Steps.{keeps_fewer}
use Rattle.blocking.proofs.second_last.Goals as goal

pub read_data-requires : goal.read_data-requires
read_data-requires c = keeps_fewer c.send_stop.ensures c.requires
