-- Waits that read until a bit is set or clear: what the word read makes of the step.
-- Assumes nothing.
use Prim.Native.Nat.{ℕ}
use mathlib.Core.Bool.{Bool, cond}
use mathlib.Core.Path.{◌≡◌}
use mathlib.Core.List.{[], ◌∷◌}
use Rattle.units.specs.declared.Setup.{Setup}
use Rattle.registers.specs.Word.{has, STOP, MSL, BUSY}
use Rattle.registers.specs.Machine.{Step, next}

-- a wait is over, or goes on, by the bits of the word read
module _ (s : Setup) (v : ℕ) {t : Bool} where
  pub next-stop_clear : has STOP v ≡ t → next s Step.stop_clear v ≡ cond t (Step.stop_clear ∷ []) []
  unfolding next
  next-stop_clear e = rw e

  pub next_flag : (f : ℕ) → has f v ≡ t → next s (Step.flag f) v ≡ cond t [] (Step.flag f ∷ [])
  unfolding next
  next_flag f e = rw e

  pub next_master : {u : Bool} → has MSL v ≡ t → has BUSY v ≡ u → next s Step.master v ≡ cond t [] (cond u [] (Step.master ∷ []))
  unfolding next
  next_master e f = rw (e, f)
