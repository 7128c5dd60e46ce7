-- The word in which a check or a poll finds an error has its flag set.
-- Assumes nothing.
use Prim.Native.Nat.{ℕ}
use mathlib.Core.Bool.{Bool, true, false, cond}
use mathlib.Core.Path.{◌≡◌, refl}
use Rattle.std.specs.Prelude.{Option, Some}
use Rattle.registers.specs.declared.Source.{Source}
use Rattle.registers.specs.declared.BusError.{BusError}
use Rattle.registers.specs.Word.{has}
use Rattle.registers.specs.Access.{flag_of}
use Rattle.registers.specs.Machine.{check_word, poll_word}

module _ (v : ℕ) where
  -- the error of this flag where it is set, else one of the rest
  first : (a : BusError) (rest : Option BusError) {e : BusError} → cond (has (flag_of a) v) (Some a) rest ≡ Some e
      → (rest ≡ Some e → has (flag_of e) v ≡ true) → has (flag_of e) v ≡ true
  first a rest {e} h of_rest = go (has (flag_of a) v) refl h
    where
      go : (t : Bool) → has (flag_of a) v ≡ t → cond t (Some a) rest ≡ Some e → has (flag_of e) v ≡ true
      go true k h = let s : a ≡ e = cc in rw s at k
      go false k h = of_rest h

  pub check_flag : (n : Source) (e : BusError) → check_word n v ≡ Some e → has (flag_of e) v ≡ true
  unfolding check_word flag_of
  check_flag n e h =
      first BusError.Timeout _ h (λ h.
      first BusError.Crc _ h (λ h.
      first BusError.Overrun _ h (λ h.
      first (BusError.NoAcknowledge n) _ h (λ h.
      first BusError.ArbitrationLoss _ h (λ h. absurd cc)))))

  pub poll_flag : (n : Source) (e : BusError) → poll_word n v ≡ Some e → has (flag_of e) v ≡ true
  unfolding poll_word flag_of
  poll_flag n e h =
      first BusError.Bus _ h (λ h.
      first BusError.ArbitrationLoss _ h (λ h.
      first (BusError.NoAcknowledge n) _ h (λ h.
      first BusError.Overrun _ h (λ h. absurd cc))))
