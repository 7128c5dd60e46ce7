use Rattle.registers.proofs.Steps.{here, rewritten, call_step, call_stops, ends_well}
use Rattle.transfer.proofs.Bytes.{next-sent, all_sent}
use Rattle.transfer.proofs.send_each.Goals as goal

pub loop-byte-init : goal.loop-byte-init
loop-byte-init c = here

pub returns-in_err-send_byte : goal.returns-in_err-send_byte
returns-in_err-send_byte c = call_stops c.send_byte.ensures _ (rewritten (next-sent _ _ c.loop-byte-test.true) c.loop-byte.invariant) c.in_err-send_byte.was c.from_residual.ensures

pub loop-byte-preserved : goal.loop-byte-preserved
loop-byte-preserved c = call_step c.send_byte.ensures _ (rewritten (next-sent _ _ c.loop-byte-test.true) c.loop-byte.invariant) c.in_ok-send_byte.was

pub returns : goal.returns
returns c = ends_well (rewritten (all_sent _ _ c.loop-byte-test.false) c.loop-byte.invariant)
