-- The numbers of the modes. Assumes nothing.
use Prim.Native.Nat.{ℕ, zero, suc}
use native.Mathlib.Omega.{arith}
use mathlib.Core.Path.{◌≡◌, refl}
use Rattle.std.specs.Prelude.{true}
use Rattle.std.proofs.lemmas.Bool.{leb-true}
use Rattle.units.specs.declared.DutyCycle.TheVariants.{Ratio2to1, Ratio16to9}
use Rattle.units.specs.declared.Mode.{Mode}
use Rattle.units.specs.declared.Mode.TheVariants.{Standard, Fast}
use Rattle.units.specs.Speed.{mode_known, mode_of, mode_number}

-- a mode's number stands for that mode
pub mode_back : (m : Mode) → mode_of (mode_number m) ≡ m
mode_back Standard = refl
mode_back (Fast Ratio2to1) = refl
mode_back (Fast Ratio16to9) = refl

-- and is known
pub number_known : (m : Mode) → mode_known (mode_number m) ≡ true
number_known Standard = refl
number_known (Fast Ratio2to1) = refl
number_known (Fast Ratio16to9) = refl

-- a known number is that of its mode
pub number_back : (n : ℕ) → mode_known n ≡ true → mode_number (mode_of n) ≡ n
number_back zero h = refl
number_back (suc zero) h = refl
number_back (suc (suc zero)) h = refl
number_back (suc (suc (suc n))) h = absurd (omega (arith, leb-true (suc (suc (suc n))) 2 h))
