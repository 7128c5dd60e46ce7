use Prim.Native.Nat.{ℕ, zero, suc}
use native.Mathlib.Omega.{arith}
use mathlib.Core.Bool.{true}
use mathlib.Core.Path.{◌≡◌, refl, ap}
use mathlib.Core.List.{◌++◌}
use Rattle.units.specs.declared.Setup.{Setup}
use Rattle.blocking_write.specs.Write.{send_start_and_wait, send_addr_and_wait}
use Rattle.blocking.specs.Blocking.{read_arm, read_steps}
use Rattle.registers.proofs.Steps.{here, at_setup, call_step, call_stops, call_last, ends_well, rewritten, keeps_fewer}
use Rattle.blocking.proofs.read.Goals as goal

-- something to read
not_empty : (s : Setup) (a n : ℕ) → (n ≡ 0 → ⊥) → read_steps s a n ≡ send_start_and_wait s ++ (send_addr_and_wait s a true ++ read_arm s n)
unfolding read_steps
not_empty s a zero h = absurd (h refl)
not_empty s a (suc n) h = refl

pub returns-then-count-eq0 : goal.returns-then-count-eq0
unfolding read_steps
returns-then-count-eq0 c = ends_well (rewritten (ap (read_steps _ _) c.if-count-eq0.true) here)

pub returns-in_err-send_start_and_wait : goal.returns-in_err-send_start_and_wait
returns-in_err-send_start_and_wait c =
    call_stops c.send_start_and_wait.ensures _ (rewritten (not_empty _ c.args.addr _ c.if-count-eq0.false) here) c.in_err-send_start_and_wait.was c.from_residual.ensures

pub returns-in_err-send_addr_and_wait : goal.returns-in_err-send_addr_and_wait
returns-in_err-send_addr_and_wait c =
    let started = call_step c.send_start_and_wait.ensures _ (rewritten (not_empty _ c.args.addr _ c.if-count-eq0.false) here) c.in_ok-send_start_and_wait.was in
    call_stops (at_setup started.same (λ s. send_addr_and_wait s c.args.addr true) c.send_addr_and_wait.ensures) _ started c.in_err-send_addr_and_wait.was c.from_residual-in_err-send_addr_and_wait.ensures

pub read_arm-requires : goal.read_arm-requires
read_arm-requires c = (keeps_fewer c.send_addr_and_wait.ensures (keeps_fewer c.send_start_and_wait.ensures c.requires), omega arith)

pub returns : goal.returns
returns c =
    let started = call_step c.send_start_and_wait.ensures _ (rewritten (not_empty _ c.args.addr _ c.if-count-eq0.false) here) c.in_ok-send_start_and_wait.was in
    let addressed = call_step (at_setup started.same (λ s. send_addr_and_wait s c.args.addr true) c.send_addr_and_wait.ensures) _ started c.in_ok-send_addr_and_wait.was in
    call_last addressed (at_setup addressed.same (λ s. read_arm s c.args.count) c.read_arm.ensures)
