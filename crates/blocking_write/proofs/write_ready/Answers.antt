use Prim.Native.Nat.{ℕ}
use native.Mathlib.Omega.{arith}
use mathlib.Core.Bool.{true}
use mathlib.Core.Path.{◌≡◌, refl, sym, ap, ◌∙◌}
use mathlib.Core.List.{List, ◌∷◌}
use Rattle.registers.specs.declared.Source.{Source}
use Rattle.registers.specs.declared.Awaited.{Awaited}
use Rattle.registers.specs.declared.ReadCode.{ReadCode}
use Rattle.registers.specs.declared.WriteCode.{WriteCode}
use Rattle.registers.specs.declared.access.Bus.{Bus}
use Rattle.registers.specs.Word.{TXE}
use Rattle.registers.specs.Machine.{Step}
use Rattle.registers.specs.Contract.{Reaches, word_after, ReadsNext, WritesNext}
use Rattle.registers.proofs.Fits.{byte_fits, fewer_fit, in_first, all_first, next_first}
use Rattle.registers.proofs.Steps.{rewritten, write_does, call_step}
use Rattle.timed.specs.Poll.{over}
use Rattle.timed.proofs.Waiting.{wait_at_once}
use Rattle.blocking_write.specs.Write.{later_bytes}
use Rattle.blocking_write.proofs.write_ready.Goals as goal

-- a byte whose wait is over at once
byte_at_once : (byte : ℕ) (bytes : List ℕ) {q : List Step} {b b₁ : Bus} → Reaches q b (later_bytes b.setup (byte ∷ bytes)) b₁
    → {t : ℕ} {b₂ : Bus} → ReadsNext ReadCode.Cyc b₁ b₂ t → {v : ℕ} {b₃ : Bus} → ReadsNext ReadCode.Sr1 b₂ b₃ v → {b₄ : Bus} → WritesNext WriteCode.Dr byte b₃ b₄
    → over (Awaited.Flag TXE Source.Data) (word_after ReadCode.Sr1 1 b₁) ≡ true → Reaches q b (later_bytes b.setup bytes) b₄
unfolding later_bytes
byte_at_once byte bytes g x y z o = call_step (write_does z.writes) _ (wait_at_once g x y o) refl

pub record_write-requires : goal.record_write-requires
record_write-requires c =
    let h = in_first c.args.bytes.now _ _ c.bytes_that_fit-count.ensures.0 c.loop-i-test.true in
    let fits = c.record_read-in-loop-i.ensures.fits 2 (c.record_read.ensures.fits 3 (byte_fits c.loop-i.bus _ c.loop-i.i h c.loop-i.invariant.1 (omega arith))) in
    omega (arith, fits.1)

pub loop-i-preserved : goal.loop-i-preserved
loop-i-preserved c =
    let x = c.record_read.ensures in
    let y = c.record_read-in-loop-i.ensures in
    let z = rw c.from.ensures at c.record_write.ensures in
    let k = c.bytes_that_fit-count.ensures.0 in
    let n = ap (later_bytes c.args.bus.now.setup) (next_first c.args.bytes.now _ _ k (in_first c.args.bytes.now _ _ k c.loop-i-test.true)) in
    let o = sym (c.wait_for_flag.ensures Source.Data) ∙ c.if-not-wait_for_flag.false in (
      byte_at_once _ _ (rewritten n c.loop-i.invariant.0) x y z (rw c.sr1_after.ensures at o),
      fewer_fit c.record_write.new.self c.bytes_that_fit-count.result c.loop-i.i (z.fits _ (y.fits _ (x.fits _ c.loop-i.invariant.1))),
    )

pub returns : goal.returns
returns c =
    let k = c.bytes_that_fit-count.ensures.0 in
    let e = all_first c.args.bytes.now _ c.loop-i.i k c.loop-i-test.false c.loop-i.auto.i-end in
    (k, rw e at c.loop-i.invariant.0)
