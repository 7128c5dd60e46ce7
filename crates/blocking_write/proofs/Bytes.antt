-- The later bytes of a write, one by one.
-- Assumes nothing.
use Prim.Native.Nat.{ℕ, ◌-◌}
use native.Mathlib.Omega.{arith}
use mathlib.Core.Path.{◌≡◌, refl, sym, ap, ◌∙◌}
use mathlib.Core.List.{List, [], ◌∷◌}
use lib.ListN.{length, take, drop}
use Rattle.units.specs.declared.Setup.{Setup}
use Rattle.registers.specs.declared.access.Bus.{Bus}
use Rattle.registers.specs.Word.{TXE}
use Rattle.registers.specs.Access.{wDR}
use Rattle.registers.specs.Machine.{Step}
use Rattle.registers.specs.Contract.{Reaches}
use Rattle.registers.proofs.Fits.{rest}
use Rattle.registers.proofs.Steps.{reaches_at_setup, reaches_then, rewritten}
use Rattle.blocking_write.specs.Write.{write_wait, later_bytes}

no_byte : (s : Setup) (bs : List ℕ) → length bs ≡ 0 → later_bytes s bs ≡ []
unfolding later_bytes
no_byte s [] k = refl
no_byte s (byte ∷ bs) k = absurd (omega arith)

-- the later bytes from one on: those whose waits are over at once, and the byte after them
module _ (bytes : List ℕ) {q : List Step} {b b₁ : Bus} (g : Reaches q b (later_bytes b.setup bytes) b₁) (n : ℕ) {b₂ : Bus}
    (x : Reaches (later_bytes b₁.setup bytes) b₁ (later_bytes b₁.setup (drop n bytes)) b₂) where
  first_written : Reaches q b (later_bytes b.setup (drop n bytes)) b₂
  first_written = reaches_then g (reaches_at_setup g.same (λ s. later_bytes s bytes) (λ s. later_bytes s (drop n bytes)) x)

  pub all_written : length (take (length bytes - n) (drop n bytes)) ≡ 0 → Reaches q b [] b₂
  all_written e = rewritten (no_byte b.setup (drop n bytes) (rw (rest bytes n) at e)) first_written

  pub at_byte : {byte : ℕ} {later : List ℕ} → take (length bytes - n) (drop n bytes) ≡ byte ∷ later → Reaches q b (write_wait b.setup TXE ∷ Step.put wDR byte ∷ later_bytes b.setup later) b₂
  unfolding later_bytes
  at_byte e = rewritten (ap (later_bytes b.setup) (sym (rest bytes n) ∙ e)) first_written
