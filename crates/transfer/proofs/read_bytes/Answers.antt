use Rattle.registers.proofs.Steps.{here, reaches_then, rewritten, call_step, call_stops, ends_well, keeps_fewer}
use Rattle.transfer.proofs.Bytes.{next-byte, no_byte}
use Rattle.transfer.proofs.read_bytes.Goals as goal

pub loop-init : goal.loop-init
loop-init c = record { reaches = here; fewer = c.recv_ready-ready.ensures.fewer }

pub returns-in_err-recv_byte : goal.returns-in_err-recv_byte
returns-in_err-recv_byte c =
    let next = reaches_then c.recv_ready-ready.ensures.bytes.1 (rewritten (next-byte _ _ c.loop-test.true) c.loop.invariant.reaches) in
    call_stops c.recv_byte.ensures _ next c.in_err-recv_byte.was c.from_residual.ensures

pub loop-preserved : goal.loop-preserved
loop-preserved c =
    record {
      reaches = call_step c.recv_byte.ensures _ (rewritten (next-byte _ _ c.loop-test.true) c.loop.invariant.reaches) c.in_ok-recv_byte.was;
      fewer = keeps_fewer c.recv_byte.ensures c.loop.invariant.fewer;
    }

pub returns : goal.returns
returns c = ends_well (reaches_then c.recv_ready-ready.ensures.bytes.1 (rewritten (no_byte _ _ c.loop-test.false) c.loop.invariant.reaches))
