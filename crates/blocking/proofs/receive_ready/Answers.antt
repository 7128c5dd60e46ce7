use Prim.Native.Nat.{ℕ, ◌<◌}
use native.Mathlib.Omega.{arith}
use mathlib.Core.Bool.{true}
use mathlib.Core.Path.{◌≡◌, refl, sym, ◌∙◌}
use mathlib.Core.List.{List, ◌++◌}
use Rattle.registers.specs.declared.Awaited.{Awaited}
use Rattle.registers.specs.declared.ReadCode.{ReadCode}
use Rattle.registers.specs.declared.Source.{Source}
use Rattle.registers.specs.declared.access.Bus.{Bus}
use Rattle.registers.specs.Word.{RXNE}
use Rattle.registers.specs.Machine.{Step}
use Rattle.registers.specs.Contract.{Reaches, word_after, ReadsNext, ReceivesNext}
use Rattle.registers.proofs.Fits.{byte_fits, fewer_fit}
use Rattle.registers.proofs.Steps.{rewritten, call_step, read_fewer, keeps_fewer}
use Rattle.timed.specs.Poll.{over}
use Rattle.timed.proofs.Waiting.{wait_at_once}
use Rattle.blocking.specs.Blocking.{receive}
use Rattle.blocking.proofs.Bytes.{next-byte}
use Rattle.blocking.proofs.receive_ready.Goals as goal

-- a byte whose wait is over at once
byte_at_once : {q : List Step} {b : Bus} {q₁ : List Step} {b₁ : Bus} → Reaches q b (receive b.setup ++ q₁) b₁
    → {t : ℕ} {b₂ : Bus} → ReadsNext ReadCode.Cyc b₁ b₂ t → {v : ℕ} {b₃ : Bus} → ReadsNext ReadCode.Sr1 b₂ b₃ v → {b₄ : Bus} → ReceivesNext b₃ b₄
    → over (Awaited.Flag RXNE Source.Data) (word_after ReadCode.Sr1 1 b₁) ≡ true → Reaches q b q₁ b₄
byte_at_once g x y z o = call_step z.does _ (wait_at_once g x y o) refl

pub record_data-requires : goal.record_data-requires
record_data-requires c = (
  c.record_read-in-loop-i.ensures.fits 2 (c.record_read.ensures.fits 3 (byte_fits c.loop-i.bus _ c.loop-i.i c.loop-i-test.true c.loop-i.invariant.fits (omega arith))),
  read_fewer c.record_read-in-loop-i.ensures.reads (read_fewer c.record_read.ensures.reads c.loop-i.invariant.fewer),
)

pub loop-i-preserved : goal.loop-i-preserved
loop-i-preserved c =
    let x = c.record_read.ensures in
    let y = c.record_read-in-loop-i.ensures in
    let z = c.record_data.ensures in
    let k = c.bytes_that_fit-fit.ensures.0 in
    let h : c.loop-i.i < c.args.count = omega (arith, k, c.loop-i-test.true) in
    let o = sym (c.wait_for_flag.ensures Source.Data) ∙ c.if-not-wait_for_flag.false in
    record {
      reaches = byte_at_once (rewritten (next-byte _ _ _ h) c.loop-i.invariant.reaches) x y z (rw c.sr1_after.ensures at o);
      fits = fewer_fit c.record_data.new.self c.bytes_that_fit-fit.result c.loop-i.i (z.fits _ (y.fits _ (x.fits _ c.loop-i.invariant.fits)));
      fewer = keeps_fewer z.does (read_fewer y.reads (read_fewer x.reads c.loop-i.invariant.fewer));
    }
