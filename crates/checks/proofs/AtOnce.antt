-- Waits of the polling engine that are over at once, by the words of the next reads.
-- Assumes nothing.
use Prim.Native.Nat.{ℕ}
use mathlib.Core.Bool.{true}
use mathlib.Core.Path.{◌≡◌, refl, ◌∙◌}
use mathlib.Core.List.{List, [], ◌∷◌}
use Rattle.units.specs.declared.Setup.{Setup}
use Rattle.registers.specs.declared.ReadCode.{ReadCode}
use Rattle.registers.specs.declared.Source.{Source}
use Rattle.registers.specs.declared.access.Bus.{Bus}
use Rattle.registers.specs.Word.{has}
use Rattle.registers.specs.Machine.{Step, next, after_check}
use Rattle.registers.specs.Contract.{Reaches, word_after, ReadsNext}
use Rattle.registers.proofs.Steps.{read_step}
use Rattle.checks.specs.Flags.{no_error_flag}
use Rattle.checks.proofs.Checks.{Checking, check_checks, check_twice_checks, cond_true}
use Rattle.checks.proofs.Flags.{nothing_found}

-- a check that finds no error flag
found_clean : {s : Setup} {i : Step} {n : Source} {m : ℕ → List Step} → Checking s i n m → (v : ℕ) → no_error_flag v ≡ true → next s i v ≡ m v
unfolding after_check
found_clean {n = n} d v e = let k = nothing_found n v e in d.follows v ∙ rw (← k.0, k.1)

module _ {q : List Step} {b : Bus} {f : ℕ} {n : Source} {q₁ : List Step} {b₁ : Bus} {v : ℕ} {b₂ : Bus} (x : ReadsNext ReadCode.Sr1 b₁ b₂ v)
    (e : no_error_flag (word_after ReadCode.Sr1 0 b₁) ≡ true) where
  pub check_at_once : Reaches q b (Step.check f n ∷ q₁) b₁ → has f (word_after ReadCode.Sr1 0 b₁) ≡ true → Reaches q b q₁ b₂
  check_at_once g h = read_step g x.reads refl refl refl (found_clean check_checks v (rw x.word e) ∙ cond_true {t = has f v} [] _ (rw x.word h))

  pub check_twice_at_once : Reaches q b (Step.check_twice f n ∷ q₁) b₁ → {v' : ℕ} {b₃ : Bus} → ReadsNext ReadCode.Sr1 b₂ b₃ v' → has f (word_after ReadCode.Sr1 1 b₁) ≡ true → Reaches q b q₁ b₃
  unfolding next
  check_twice_at_once g {v'} y h =
      let first = read_step g x.reads refl refl refl (found_clean {s = b.setup} check_twice_checks v (rw x.word e)) in
      read_step first y.reads refl refl refl (cond_true {t = has f v'} [] _ (rw (y.word, x.later ReadCode.Sr1 0) h))
