use Prim.Native.Nat.{ℕ}
use native.Mathlib.Omega.{arith}
use mathlib.Core.Bool.{true, ◌&&◌}
use mathlib.Core.Path.{◌≡◌, refl, sym, ap, ◌∙◌}
use mathlib.Core.List.{List, ◌++◌}
use Rattle.std.proofs.lemmas.Bool.{and_parts}
use Rattle.registers.specs.declared.ReadCode.{ReadCode}
use Rattle.registers.specs.declared.WriteCode.{WriteCode}
use Rattle.registers.specs.declared.access.Bus.{Bus}
use Rattle.registers.specs.Word.{has, TXE, BTF}
use Rattle.registers.specs.Machine.{Step}
use Rattle.registers.specs.Contract.{Reaches, word_after, ReadsNext, WritesNext}
use Rattle.registers.proofs.Fits.{byte_fits, fewer_fit, in_first, next_first}
use Rattle.registers.proofs.Steps.{rewritten, write_does, call_step}
use Rattle.checks.specs.Flags.{no_error_flag}
use Rattle.checks.proofs.AtOnce.{check_at_once}
use Rattle.i2c.specs.Polling.{send_byte, write_bytes}
use Rattle.transfer.proofs.send_ready.Goals as goal

-- a byte whose checks are over at once
byte_at_once : {q : List Step} {b : Bus} {byte : ℕ} {q₁ : List Step} {b₁ : Bus} → Reaches q b (send_byte byte ++ q₁) b₁
    → {v : ℕ} {b₂ : Bus} → ReadsNext ReadCode.Sr1 b₁ b₂ v → {b₃ : Bus} → WritesNext WriteCode.Dr byte b₂ b₃ → {w : ℕ} {b₄ : Bus} → ReadsNext ReadCode.Sr1 b₃ b₄ w
    → no_error_flag (word_after ReadCode.Sr1 0 b₁) && has TXE (word_after ReadCode.Sr1 0 b₁) && no_error_flag (word_after ReadCode.Sr1 1 b₁) && has BTF (word_after ReadCode.Sr1 1 b₁) ≡ true
    → Reaches q b q₁ b₄
byte_at_once g x z y o =
    let (o₁, h') = and_parts _ _ o in
    let (o₂, e') = and_parts _ _ o₁ in
    let (e, h) = and_parts _ _ o₂ in
    let sent = call_step (write_does z.writes) _ (check_at_once x e g h) refl in
    check_at_once y (rw (z.later ReadCode.Sr1 0, x.later ReadCode.Sr1 0) e') sent (rw (z.later ReadCode.Sr1 0, x.later ReadCode.Sr1 0) h')

pub record_read-requires-in-loop-i : goal.record_read-requires-in-loop-i
record_read-requires-in-loop-i c =
    let h = in_first c.args.bytes.now _ _ c.bytes_that_fit-count.ensures.0 c.loop-i-test.true in
    c.record_write.ensures.fits 2 (c.record_read.ensures.fits 3 (byte_fits c.loop-i.bus _ c.loop-i.i h c.loop-i.invariant.1 (omega arith)))

pub loop-i-preserved : goal.loop-i-preserved
unfolding write_bytes
loop-i-preserved c =
    let x = c.record_read.ensures in
    let z = rw c.from.ensures at c.record_write.ensures in
    let y = c.record_read-in-loop-i.ensures in
    let k = c.bytes_that_fit-count.ensures.0 in
    let n = ap write_bytes (next_first c.args.bytes.now _ _ k (in_first c.args.bytes.now _ _ k c.loop-i-test.true)) in
    let o = sym c.sent_at_once.ensures ∙ c.if-not-sent_at_once.false in (
      byte_at_once (rewritten n c.loop-i.invariant.0) x z y (rw (c.sr1_after.ensures, c.sr1_after-in-loop-i.ensures) at o),
      fewer_fit c.record_read-in-loop-i.new.self c.bytes_that_fit-count.result c.loop-i.i (y.fits _ (z.fits _ (x.fits _ c.loop-i.invariant.1))),
    )
