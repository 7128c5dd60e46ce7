use Prim.Native.Nat.{ℕ}
use native.Mathlib.Omega.{arith}
use mathlib.Core.Bool.{false}
use mathlib.Core.Path.{◌≡◌, refl}
use mathlib.Core.List.{List, [], ◌∷◌, ◌++◌}
use lib.ListN.{length}
use Rattle.units.specs.declared.Setup.{Setup}
use Rattle.registers.proofs.Steps.{here, rewritten, at_setup, waits_at_setup, call_step, call_stops, ends_well, waits_last}
use Rattle.blocking_write.specs.Write.{send_start_and_wait, send_addr_and_wait, write_bytes_and_wait, write_without_stop}
use Rattle.blocking_write.proofs.write_without_stop.Goals as goal

-- nothing to write; something
empty : (s : Setup) (a : ℕ) (bs : List ℕ) → length bs ≡ 0 → write_without_stop s a bs ≡ []
unfolding write_without_stop
empty s a [] h = refl
empty s a (b ∷ bs) h = absurd (omega arith)

not_empty : (s : Setup) (a : ℕ) {bs : List ℕ} {byte : ℕ} {bytes : List ℕ} → bs ≡ byte ∷ bytes
    → write_without_stop s a bs ≡ send_start_and_wait s ++ (send_addr_and_wait s a false ++ write_bytes_and_wait s (byte ∷ bytes))
unfolding write_without_stop
not_empty s a e = rw e refl

pub returns-in_default : goal.returns-in_default
returns-in_default c = ends_well (rewritten (empty _ _ _ c.in_default.ensures.cases) here)

pub returns-in_err-send_start_and_wait : goal.returns-in_err-send_start_and_wait
returns-in_err-send_start_and_wait c =
    call_stops c.send_start_and_wait.ensures _ (rewritten (not_empty _ c.args.addr c.in-Some.ensures.cases.0) here) c.in_err-send_start_and_wait.was c.from_residual.ensures

pub returns-in_err-send_addr_and_wait : goal.returns-in_err-send_addr_and_wait
returns-in_err-send_addr_and_wait c =
    let started = call_step c.send_start_and_wait.ensures _ (rewritten (not_empty _ c.args.addr c.in-Some.ensures.cases.0) here) c.in_ok-send_start_and_wait.was in
    call_stops (at_setup started.same (λ s. send_addr_and_wait s c.args.addr false) c.send_addr_and_wait.ensures) _ started c.in_err-send_addr_and_wait.was c.from_residual-in_err-send_addr_and_wait.ensures

pub returns : goal.returns
returns c =
    let started = call_step c.send_start_and_wait.ensures _ (rewritten (not_empty _ c.args.addr c.in-Some.ensures.cases.0) here) c.in_ok-send_start_and_wait.was in
    let addressed = call_step (at_setup started.same (λ s. send_addr_and_wait s c.args.addr false) c.send_addr_and_wait.ensures) _ started c.in_ok-send_addr_and_wait.was in
    c.stop_for.ensures _ _
    (waits_last addressed (waits_at_setup addressed.same (λ s. write_bytes_and_wait s (c.in-Some.first.now ∷ c.in-Some.later.now)) c.write_bytes_and_wait-written.ensures))
