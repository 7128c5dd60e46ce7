-- What the search finds is the choice. Assumes nothing.
use Prim.Native.Nat.{ℕ, ◌+◌, ◌*◌, ◌<◌, ◌≤◌}
use native.Mathlib.Omega.{arith}
use mathlib.Core.Logic.{◌⊎◌, inl, inr, ⊎_elim}
use mathlib.Core.Path.{◌≡◌, refl, sym, ap, ◌∙◌}
use Rattle.std.specs.Prelude.{Bool, true, false, leb, cond, Option, Some, None, MatchOption}
use Rattle.std.specs.Int.{div_ceil}
use Rattle.std.specs.Option.{ok_or}
use Rattle.std.proofs.Math.Nat.{add-mul, one-le-mul, mul-le-mul_left, mul_comm, mul_left_comm, lt_of_mul-lt-mul_right, mul-le-mul_right}
use Rattle.std.proofs.lemmas.Grind.{div_ceil_times}
use Rattle.std.proofs.lemmas.Bool.{leb-true, leb-false}
use Rattle.units.specs.declared.Hertz.{Hertz}
use Rattle.units.specs.declared.DutyCycle.TheVariants.{Ratio2to1, Ratio16to9}
use Rattle.units.specs.declared.Mode.{Mode}
use Rattle.units.specs.declared.Mode.TheVariants.{Standard, Fast}
use Rattle.units.specs.Speed.{divisor, floor, at_least, frequency_out}
use Rattle.speed_choice.specs.declared.Choice.{Choice}
use Rattle.speed_choice.specs.declared.NoChoice.TheVariants.{NoneFits}
use Rattle.speed_choice.specs.Choice.{product, last_field, place, Fits, Chooses}
use Rattle.speed_choice.specs.Search.{least_field, least_choice, comes_before, first_of}

-- the ceiling times a product, by the field
by_field : (d f ceiling : ℕ) → ceiling * (d * f) ≡ f * (d * ceiling)
by_field d f ceiling = mul_left_comm ceiling d f ∙ ap (λ n. d * n) (mul_comm ceiling f) ∙ sym (mul_left_comm f d ceiling)

at_least_both : (least n : ℕ) → (least ≤ at_least least n) × (n ≤ at_least least n)
at_least_both least n = grind arith

at_least_is : (least n f : ℕ) → least ≤ f → n ≤ f → at_least least n ≤ f
at_least_is least n f h k = grind arith

-- a quotient rounded up is the least number whose multiple reaches so far
div_ceil_is : (n period f : ℕ) → 0 < period → n ≤ f * period → div_ceil n period ≤ f
div_ceil_is n period f above h =
    let reaches = div_ceil_times n period above in
    let one_more : (f + 1) * period ≡ f * period + period = omega (arith, add-mul f 1 period) in
    let below : div_ceil n period * period < (f + 1) * period = omega (arith, reaches.1, one_more, h) in
    omega (arith, lt_of_mul-lt-mul_right period below)

-- a choice that is not behind another
abbrev NoLater : Choice → Choice → Type 0
NoLater a b = (product a ≤ product b) × (product b ≡ product a → place a.mode ≤ place b.mode)

before : (a b : Choice) → comes_before a b ≡ true → NoLater a b
before a b h = grind arith

not_before : (a b : Choice) → comes_before a b ≡ false → NoLater b a
not_before a b h = grind arith

no_later_than : (a b c : Choice) → NoLater a b → NoLater b c → NoLater a c
no_later_than a b c h k = (omega (arith, h.0, k.0), λ same. grind arith)

-- of the choices of which this holds the first, or there is none
abbrev First : (Choice → Type 0) → Option Choice → Type 0
First Of o = MatchOption o ((c : Choice) → Of c → ⊥) (λ c. Of c × ((other : Choice) → Of other → NoLater c other))

-- where each of two is the first of some, the one that comes before the other is the first of all these
first_of_both : (P Q : Choice → Type 0) (a b : Option Choice) → First P a → First Q b → First (λ c. P c ⊎ Q c) (first_of a b)
first_of_both P Q None None none nor = λ c. ⊎_elim (none c) (nor c)
first_of_both P Q None (Some b) none two = (inr two.0, λ other. ⊎_elim (λ p. absurd (none other p)) (two.1 other))
first_of_both P Q (Some a) None one none = (inl one.0, λ other. ⊎_elim (one.1 other) (λ q. absurd (none other q)))
first_of_both P Q (Some a) (Some b) one two = go (comes_before b a) refl
  where
    go : (t : Bool) → comes_before b a ≡ t → First (λ c. P c ⊎ Q c) (Some (cond t b a))
    go true h = (inr two.0, λ other. ⊎_elim (λ p. no_later_than b a other (before b a h) (one.1 other p)) (two.1 other))
    go false h = (inl one.0, λ other. ⊎_elim (one.1 other) (λ q. no_later_than a b other (not_before b a h) (two.1 other q)))

-- the choices of one mode that fit
record OfMode (mode : Mode) (pclk1 ceiling : Hertz) (c : Choice) : Type 0 where
  same : c.mode ≡ mode
  fits : Fits pclk1 ceiling c

divisor_above : (mode : Mode) → 0 < divisor mode
divisor_above Standard = omega arith
divisor_above (Fast Ratio2to1) = omega arith
divisor_above (Fast Ratio16to9) = omega arith

-- no choice of a mode that fits has less than the least field
least : (mode : Mode) (pclk1 ceiling : Hertz) (c : Choice) → 0 < ceiling.0 → OfMode mode pclk1 ceiling c → least_field mode pclk1 ceiling ≤ c.field
least mode pclk1 ceiling c above of =
    let floor_met : floor mode ≤ c.field = rw (← of.same) of.fits.least in
    let under : pclk1.0 ≤ c.field * (divisor mode * ceiling.0) = rw (← of.same, ← by_field (divisor c.mode) c.field ceiling.0) of.fits.under in
    at_least_is (floor mode) _ c.field floor_met (div_ceil_is pclk1.0 _ c.field (one-le-mul (divisor_above mode) above) under)

-- with the least field pclk1 ≤ ceiling × P
reaches : (mode : Mode) (pclk1 ceiling : Hertz) → 0 < ceiling.0 → pclk1.0 ≤ ceiling.0 * (divisor mode * least_field mode pclk1 ceiling)
reaches mode pclk1 ceiling above =
    let period = divisor mode * ceiling.0 in
    let quotient = div_ceil_times pclk1.0 period (one-le-mul (divisor_above mode) above) in
    let more = mul-le-mul_right period (at_least_both (floor mode) (div_ceil pclk1.0 period)).1 in
    rw (by_field (divisor mode) (least_field mode pclk1 ceiling) ceiling.0) (omega (arith, quotient.0, more))

-- a mode's choice with the least field is its first
first_of_mode : (mode : Mode) (pclk1 ceiling : Hertz) → 0 < ceiling.0 → First (OfMode mode pclk1 ceiling) (least_choice mode pclk1 ceiling)
first_of_mode mode pclk1 ceiling above = go (leb field last_field) refl
  where
    field : ℕ
    field = least_field mode pclk1 ceiling

    go : (t : Bool) → leb field last_field ≡ t → First (OfMode mode pclk1 ceiling) (cond t (Some record { mode = mode; field = field }) None)
    go true h = (
      record { same = refl; fits = record { least = (at_least_both (floor mode) _).0; last = leb-true _ last_field h; under = reaches mode pclk1 ceiling above } },
      λ other of. (rw of.same (mul-le-mul_left (divisor mode) (least mode pclk1 ceiling other above of)), λ equal. rw of.same (omega arith)),
    )
    go false h = λ c of. let below = least mode pclk1 ceiling c above of in omega (arith, leb-false _ last_field h, of.fits.last, below)

-- a choice of one of the three modes, that fits
abbrev OfAny : Hertz → Hertz → Choice → Type 0
OfAny pclk1 ceiling c = (OfMode Standard pclk1 ceiling c ⊎ OfMode (Fast Ratio2to1) pclk1 ceiling c) ⊎ OfMode (Fast Ratio16to9) pclk1 ceiling c

of_any : (pclk1 ceiling : Hertz) (c : Choice) → Fits pclk1 ceiling c → OfAny pclk1 ceiling c
of_any pclk1 ceiling c fits = go c.mode refl
  where
    go : (mode : Mode) → c.mode ≡ mode → OfAny pclk1 ceiling c
    go Standard same = inl (inl record { same = same; fits = fits })
    go (Fast Ratio2to1) same = inl (inr record { same = same; fits = fits })
    go (Fast Ratio16to9) same = inr record { same = same; fits = fits }

fits_of_any : (pclk1 ceiling : Hertz) (c : Choice) → OfAny pclk1 ceiling c → Fits pclk1 ceiling c
fits_of_any pclk1 ceiling c (inl (inl of)) = of.fits
fits_of_any pclk1 ceiling c (inl (inr of)) = of.fits
fits_of_any pclk1 ceiling c (inr of) = of.fits

-- the first of the three modes' choices
abbrev pub first_of_all : Hertz → Hertz → Option Choice
first_of_all pclk1 ceiling =
    first_of (first_of (least_choice Standard pclk1 ceiling) (least_choice (Fast Ratio2to1) pclk1 ceiling)) (least_choice (Fast Ratio16to9) pclk1 ceiling)

-- it is the choice
pub found : (pclk1 ceiling : Hertz) → frequency_out ceiling ≡ false → Chooses pclk1 ceiling (ok_or (first_of_all pclk1 ceiling) NoneFits)
found pclk1 ceiling within = go (first_of_all pclk1 ceiling) first
  where
    above : 0 < ceiling.0
    above = grind arith

    first : First (OfAny pclk1 ceiling) (first_of_all pclk1 ceiling)
    first =
        first_of_both _ _ _ _ (first_of_both _ _ _ _ (first_of_mode Standard pclk1 ceiling above) (first_of_mode (Fast Ratio2to1) pclk1 ceiling above))
        (first_of_mode (Fast Ratio16to9) pclk1 ceiling above)

    go : (o : Option Choice) → First (OfAny pclk1 ceiling) o → Chooses pclk1 ceiling (ok_or o NoneFits)
    go None none = (within, λ c fits. none c (of_any pclk1 ceiling c fits))
    go (Some c) is = (
      within,
      record {
        fits = fits_of_any pclk1 ceiling c is.0;
        smallest = λ other fits. (is.1 other (of_any pclk1 ceiling other fits)).0;
        first = λ other fits. (is.1 other (of_any pclk1 ceiling other fits)).1;
      },
    )
