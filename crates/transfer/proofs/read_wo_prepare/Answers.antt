use Rattle.registers.proofs.Steps.{call_last, call_step, call_stops}
use Prim.Native.Nat.{ℕ, zero, suc, ◌-◌}
use native.Mathlib.Omega.{arith}
use mathlib.Core.Path.{◌≡◌, refl}
use mathlib.Core.List.{[], ◌∷◌, ◌++◌}
use Rattle.registers.specs.declared.BusError.{BusError}
use Rattle.registers.specs.Word.{one, STOP, ACK}
use Rattle.registers.specs.Machine.{Step}
use Rattle.registers.proofs.Steps.{here, rewritten, ends_failed, keeps_fewer}
use Rattle.i2c.specs.Polling.{recv_byte, read_bytes, last_read}
use Rattle.transfer.proofs.read_wo_prepare.Goals as goal

-- no byte to read; or all but one, then the last
no_byte : (n : ℕ) → n ≡ 0 → last_read n ≡ Step.fail BusError.Overrun ∷ []
unfolding last_read
no_byte n h = rw h

some_byte : (n : ℕ) → (n ≡ 0 → ⊥) → last_read n ≡ read_bytes (n - 1) ++ (Step.modify (one STOP) (one ACK) ∷ recv_byte ++ Step.stop_clear ∷ [])
unfolding last_read
some_byte zero h = absurd (h refl)
some_byte (suc n) h = let e : suc n - 1 ≡ n = omega arith in rw e

pub returns-then-count-eq0 : goal.returns-then-count-eq0
returns-then-count-eq0 c = ends_failed (rewritten (no_byte _ c.if-count-eq0.true) here)

pub returns-in_err-read_bytes : goal.returns-in_err-read_bytes
returns-in_err-read_bytes c = call_stops c.read_bytes.ensures _ (rewritten (some_byte _ c.if-count-eq0.false) here) c.in_err-read_bytes.was c.from_residual.ensures

pub returns-in_err-modify_cr1 : goal.returns-in_err-modify_cr1
returns-in_err-modify_cr1 c = call_stops c.modify_cr1.ensures _ (call_step c.read_bytes.ensures _ (rewritten (some_byte _ c.if-count-eq0.false) here) c.in_ok-read_bytes.was) c.in_err-modify_cr1.was c.from_residual-in_err-modify_cr1.ensures

pub recv_byte-requires : goal.recv_byte-requires
recv_byte-requires c = keeps_fewer c.modify_cr1.ensures (keeps_fewer c.read_bytes.ensures c.requires)

pub returns-in_err-recv_byte : goal.returns-in_err-recv_byte
returns-in_err-recv_byte c = call_stops c.recv_byte.ensures _ (call_step c.modify_cr1.ensures _ (call_step c.read_bytes.ensures _ (rewritten (some_byte _ c.if-count-eq0.false) here) c.in_ok-read_bytes.was) c.in_ok-modify_cr1.was) c.in_err-recv_byte.was c.from_residual-in_err-recv_byte.ensures

pub returns : goal.returns
returns c = call_last (call_step c.recv_byte.ensures _ (call_step c.modify_cr1.ensures _ (call_step c.read_bytes.ensures _ (rewritten (some_byte _ c.if-count-eq0.false) here) c.in_ok-read_bytes.was) c.in_ok-modify_cr1.was) c.in_ok-recv_byte.was) c.until_stop_clear.ensures
