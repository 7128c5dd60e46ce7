-- Under a ceiling there is exactly one choice, or one reason why there is none. Assumes nothing.
use Prim.Native.Nat.{ℕ, ◌*◌}
use native.Mathlib.Omega.{arith}
use mathlib.Core.Path.{◌≡◌, refl, sym, ap, ◌∙◌}
use Rattle.std.specs.Prelude.{Bool, true, false, cond, Result, Ok, Err}
use Rattle.std.specs.Option.{ok_or}
use Rattle.std.proofs.Math.Nat.{le_antisymm}
use Rattle.units.specs.declared.Hertz.{Hertz}
use Rattle.units.specs.declared.DutyCycle.TheVariants.{Ratio2to1, Ratio16to9}
use Rattle.units.specs.declared.Mode.{Mode}
use Rattle.units.specs.declared.Mode.TheVariants.{Standard, Fast}
use Rattle.units.specs.Speed.{divisor, frequency_out}
use Rattle.speed_choice.specs.declared.Choice.{Choice}
use Rattle.speed_choice.specs.declared.NoChoice.{NoChoice}
use Rattle.speed_choice.specs.declared.NoChoice.TheVariants.{Ceiling, NoneFits}
use Rattle.speed_choice.specs.Choice.{product, place, Chosen, Chooses}
use Rattle.speed_choice.proofs.Right.{first_of_all, found}

-- no two modes have one place
same_mode : (m n : Mode) → place m ≡ place n → m ≡ n
same_mode Standard Standard h = refl
same_mode Standard (Fast Ratio2to1) h = absurd (omega (arith, h))
same_mode Standard (Fast Ratio16to9) h = absurd (omega (arith, h))
same_mode (Fast Ratio2to1) Standard h = absurd (omega (arith, h))
same_mode (Fast Ratio2to1) (Fast Ratio2to1) h = refl
same_mode (Fast Ratio2to1) (Fast Ratio16to9) h = absurd (omega (arith, h))
same_mode (Fast Ratio16to9) Standard h = absurd (omega (arith, h))
same_mode (Fast Ratio16to9) (Fast Ratio2to1) h = absurd (omega (arith, h))
same_mode (Fast Ratio16to9) (Fast Ratio16to9) h = refl

-- in one mode equal products have equal fields
same_field : (m : Mode) (f g : ℕ) → divisor m * f ≡ divisor m * g → f ≡ g
same_field Standard f g h = omega (arith, h)
same_field (Fast Ratio2to1) f g h = omega (arith, h)
same_field (Fast Ratio16to9) f g h = omega (arith, h)

same_choice : (c d : Choice) → c.mode ≡ d.mode → product c ≡ product d → c ≡ d
same_choice c d h k = rw (h, same_field d.mode c.field d.field (ap (λ m. divisor m * c.field) (sym h) ∙ k)) refl

-- two choices that may be chosen are one
chosen_one : (pclk1 ceiling : Hertz) (c d : Choice) → Chosen pclk1 ceiling c → Chosen pclk1 ceiling d → c ≡ d
chosen_one pclk1 ceiling c d x y =
    let equal : product c ≡ product d = le_antisymm (x.smallest d y.fits) (y.smallest c x.fits) in
    same_choice c d (same_mode c.mode d.mode (le_antisymm (x.first d y.fits (sym equal)) (y.first c x.fits equal))) equal

-- two results that are right are one
pub only : (pclk1 ceiling : Hertz) (r s : Result Choice NoChoice) → Chooses pclk1 ceiling r → Chooses pclk1 ceiling s → r ≡ s
only pclk1 ceiling (Ok c) (Ok d) h k = ap Ok (chosen_one pclk1 ceiling c d h.1 k.1)
only pclk1 ceiling (Ok c) (Err Ceiling) h k = absurd (cc)
only pclk1 ceiling (Ok c) (Err NoneFits) h k = absurd (k.1 c h.1.fits)
only pclk1 ceiling (Err Ceiling) (Ok d) h k = absurd (cc)
only pclk1 ceiling (Err Ceiling) (Err Ceiling) h k = refl
only pclk1 ceiling (Err Ceiling) (Err NoneFits) h k = absurd (cc)
only pclk1 ceiling (Err NoneFits) (Ok d) h k = absurd (h.1 d k.1.fits)
only pclk1 ceiling (Err NoneFits) (Err Ceiling) h k = absurd (cc)
only pclk1 ceiling (Err NoneFits) (Err NoneFits) h k = refl

-- what is found
abbrev pub fastest : Hertz → Hertz → Result Choice NoChoice
fastest pclk1 ceiling = cond (frequency_out ceiling) (Err Ceiling) (ok_or (first_of_all pclk1 ceiling) NoneFits)

-- it is right
pub fastest_right : (pclk1 ceiling : Hertz) → Chooses pclk1 ceiling (fastest pclk1 ceiling)
fastest_right pclk1 ceiling = go (frequency_out ceiling) refl
  where
    go : (t : Bool) → frequency_out ceiling ≡ t → Chooses pclk1 ceiling (cond t (Err Ceiling) (ok_or (first_of_all pclk1 ceiling) NoneFits))
    go true h = h
    go false h = found pclk1 ceiling h
