use Rattle.registers.proofs.Steps.{rewritten, ends_well}
use Rattle.transfer.proofs.Bytes.{all_sent}
use Rattle.transfer.proofs.write_bytes.Goals as goal

pub returns : goal.returns
returns c = ends_well (rewritten (all_sent _ _ c.if-ready-bytes.false) c.send_ready-ready.ensures.1)
