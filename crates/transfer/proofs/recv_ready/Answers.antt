use Prim.Native.Nat.{ℕ, ◌<◌}
use native.Mathlib.Omega.{arith}
use mathlib.Core.Bool.{true, ◌&&◌}
use mathlib.Core.Path.{◌≡◌, refl, sym, ◌∙◌}
use mathlib.Core.List.{List, ◌++◌}
use Rattle.std.proofs.lemmas.Bool.{and_parts}
use Rattle.registers.specs.declared.ReadCode.{ReadCode}
use Rattle.registers.specs.declared.access.Bus.{Bus}
use Rattle.registers.specs.Word.{has, RXNE}
use Rattle.registers.specs.Machine.{Step}
use Rattle.registers.specs.Contract.{Reaches, word_after, ReadsNext, ReceivesNext}
use Rattle.registers.proofs.Fits.{byte_fits, fewer_fit}
use Rattle.registers.proofs.Steps.{rewritten, call_step, read_fewer, keeps_fewer}
use Rattle.checks.specs.Flags.{no_error_flag}
use Rattle.checks.proofs.AtOnce.{check_twice_at_once}
use Rattle.i2c.specs.Polling.{recv_byte}
use Rattle.transfer.proofs.Bytes.{next-byte}
use Rattle.transfer.proofs.recv_ready.Goals as goal

-- a byte whose check, and the read of SR1 after it, are over at once
byte_at_once : {q : List Step} {b : Bus} {q₁ : List Step} {b₁ : Bus} → Reaches q b (recv_byte ++ q₁) b₁
    → {v : ℕ} {b₂ : Bus} → ReadsNext ReadCode.Sr1 b₁ b₂ v → {w : ℕ} {b₃ : Bus} → ReadsNext ReadCode.Sr1 b₂ b₃ w → {b₄ : Bus} → ReceivesNext b₃ b₄
    → no_error_flag (word_after ReadCode.Sr1 0 b₁) && has RXNE (word_after ReadCode.Sr1 1 b₁) ≡ true → Reaches q b q₁ b₄
byte_at_once g x y z o = let (e, h) = and_parts _ _ o in call_step z.does _ (check_twice_at_once x e g y h) refl

pub record_data-requires : goal.record_data-requires
record_data-requires c = (
  c.record_read-in-loop-i.ensures.fits 2 (c.record_read.ensures.fits 3 (byte_fits c.loop-i.bus _ c.loop-i.i c.loop-i-test.true c.loop-i.invariant.fits (omega arith))),
  read_fewer c.record_read-in-loop-i.ensures.reads (read_fewer c.record_read.ensures.reads c.loop-i.invariant.fewer),
)

pub loop-i-preserved : goal.loop-i-preserved
loop-i-preserved c =
    let x = c.record_read.ensures in
    let y = c.record_read-in-loop-i.ensures in
    let z = c.record_data.ensures in
    let k = c.bytes_that_fit-fit.ensures.0 in
    let h : c.loop-i.i < c.args.count = omega (arith, k, c.loop-i-test.true) in
    let o = sym c.received_at_once.ensures ∙ c.if-not-received_at_once.false in
    record {
      reaches = byte_at_once (rewritten (next-byte _ _ h) c.loop-i.invariant.reaches) x y z (rw (c.sr1_after.ensures, c.sr1_after-in-loop-i.ensures) at o);
      fits = fewer_fit c.record_data.new.self c.bytes_that_fit-fit.result c.loop-i.i (z.fits _ (y.fits _ (x.fits _ c.loop-i.invariant.fits)));
      fewer = keeps_fewer z.does (read_fewer y.reads (read_fewer x.reads c.loop-i.invariant.fewer));
    }
