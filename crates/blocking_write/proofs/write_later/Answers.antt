use mathlib.Core.Path.{refl}
use mathlib.Core.List.{[], ◌∷◌}
use Rattle.registers.specs.Word.{TXE}
use Rattle.registers.specs.Machine.{Handler}
use Rattle.registers.proofs.Steps.{waits_at_setup, write_does, call_step, wait_step, waits_well}
use Rattle.blocking_write.specs.Write.{write_wait}
use Rattle.blocking_write.proofs.Stops.{wait_stops, nothing_fails, put_unfailing, settles}
use Rattle.blocking_write.proofs.Bytes.{all_written, at_byte}
use Rattle.blocking_write.proofs.write_later.Goals as goal

pub returns-in_default : goal.returns-in_default
returns-in_default c = waits_well (all_written c.loop-byte.bytes.now c.loop-byte.invariant _ c.write_ready-ready.ensures.1 c.in_default.ensures.cases)

pub returns-in_err-data_wait : goal.returns-in_err-data_wait
returns-in_err-data_wait c =
    let next = at_byte c.loop-byte.bytes.now c.loop-byte.invariant _ c.write_ready-ready.ensures.1 c.in-Some.ensures.cases.0 in
    let wait = waits_at_setup next.same (λ s. write_wait s TXE ∷ []) (c.data_wait.ensures Handler.stops) in
    wait_stops wait _ next c.in_err-data_wait.was c.from_residual.ensures

pub returns-in_err-write : goal.returns-in_err-write
returns-in_err-write c =
    let next = at_byte c.loop-byte.bytes.now c.loop-byte.invariant _ c.write_ready-ready.ensures.1 c.in-Some.ensures.cases.0 in
    let wait = waits_at_setup next.same (λ s. write_wait s TXE ∷ []) (c.data_wait.ensures Handler.stops) in
    wait_stops (settles (put_unfailing _ _ refl nothing_fails) (write_does (rw c.from.ensures at c.write.ensures))) _ (wait_step wait _ next c.in_ok-data_wait.was) c.in_err-write.was c.from_residual-in_err-write.ensures

pub loop-byte-preserved : goal.loop-byte-preserved
loop-byte-preserved c =
    let next = at_byte c.loop-byte.bytes.now c.loop-byte.invariant _ c.write_ready-ready.ensures.1 c.in-Some.ensures.cases.0 in
    let wait = waits_at_setup next.same (λ s. write_wait s TXE ∷ []) (c.data_wait.ensures Handler.stops) in
    call_step (write_does (rw c.from.ensures at c.write.ensures)) _ (wait_step wait _ next c.in_ok-data_wait.was) c.in_ok-write.was
