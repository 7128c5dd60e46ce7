use mathlib.Core.Path.{◌≡◌, refl}
use mathlib.Core.List.{List, [], ◌∷◌, ◌++◌}
use Prim.Native.Nat.{ℕ}
use Rattle.units.specs.declared.Setup.{Setup}
use Rattle.registers.specs.Word.{BTF}
use Rattle.registers.specs.Access.{SR1, SR2, wDR}
use Rattle.registers.specs.Machine.{Step, Handler}
use Rattle.registers.proofs.Steps.{here, rewritten, waits_at_setup, write_does, call_step, wait_step, waits_last}
use Rattle.blocking_write.specs.Write.{read_status, write_wait, later_bytes, write_bytes_and_wait}
use Rattle.blocking_write.proofs.Stops.{wait_stops, nothing_fails, get_unfailing, put_unfailing, settles}
use Rattle.blocking_write.proofs.write_bytes_and_wait.Goals as goal

its_bytes : (s : Setup) (byte : ℕ) (bytes : List ℕ) → write_bytes_and_wait s (byte ∷ bytes) ≡ read_status ++ (Step.put wDR byte ∷ []) ++ (later_bytes s bytes ++ write_wait s BTF ∷ [])
unfolding write_bytes_and_wait
its_bytes s byte bytes = refl

pub returns-in_err-read_status : goal.returns-in_err-read_status
returns-in_err-read_status c =
    wait_stops (settles (get_unfailing SR1 refl (get_unfailing SR2 refl nothing_fails)) c.read_status.ensures) _ (rewritten (its_bytes _ _ _) here) c.in_err-read_status.was c.from_residual.ensures

pub returns-in_err-write : goal.returns-in_err-write
returns-in_err-write c =
    let status = call_step c.read_status.ensures _ (rewritten (its_bytes _ _ _) here) c.in_ok-read_status.was in
    wait_stops (settles (put_unfailing wDR _ refl nothing_fails) (write_does (rw c.from.ensures at c.write.ensures))) _ status c.in_err-write.was c.from_residual-in_err-write.ensures

pub returns-in_err-write_later : goal.returns-in_err-write_later
returns-in_err-write_later c =
    let status = call_step c.read_status.ensures _ (rewritten (its_bytes _ _ _) here) c.in_ok-read_status.was in
    let first = call_step (write_does (rw c.from.ensures at c.write.ensures)) _ status c.in_ok-write.was in
    wait_stops (waits_at_setup first.same (λ s. later_bytes s c.args.later.now) c.write_later.ensures) _ first c.in_err-write_later.was c.from_residual-in_err-write_later.ensures

pub returns : goal.returns
returns c =
    let status = call_step c.read_status.ensures _ (rewritten (its_bytes _ _ _) here) c.in_ok-read_status.was in
    let first = call_step (write_does (rw c.from.ensures at c.write.ensures)) _ status c.in_ok-write.was in
    let later = wait_step (waits_at_setup first.same (λ s. later_bytes s c.args.later.now) c.write_later.ensures) _ first c.in_ok-write_later.was in
    waits_last later (waits_at_setup later.same (λ s. write_wait s BTF ∷ []) (c.data_wait.ensures Handler.stops))
