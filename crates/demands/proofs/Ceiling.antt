-- What document 02 promises of the fastest speed under a ceiling. Assumes nothing.
use Prim.Native.Nat.{ℕ, ◌*◌, ◌/◌, ◌%◌, ◌≤◌}
use native.Mathlib.Omega.{arith}
use mathlib.Core.Path.{◌≡◌, refl, sym, ap, subst, ◌∙◌}
use mathlib.Core.List.{[], ◌∷◌}
use Rattle.std.specs.Prelude.{◌↔◌, Result, Ok, Err}
use Rattle.units.specs.declared.DutyCycle.TheVariants.{Ratio2to1, Ratio16to9}
use Rattle.units.specs.declared.Mode.{Mode}
use Rattle.units.specs.declared.Mode.TheVariants.{Standard, Fast}
use Rattle.units.specs.Speed.{mode_of, mode_number, speed_flags, field_word}
use Rattle.units.proofs.Modes.{number_back}
use Rattle.speed_choice.specs.declared.Choice.{Choice}
use Rattle.speed_choice.specs.declared.NoChoice.{NoChoice}
use Rattle.speed_choice.specs.declared.NoChoice.TheVariants.{Ceiling, NoneFits}
use Rattle.speed_choice.specs.Choice.{last_field, Chooses, Applies, no_choice_number, numbers}
use Rattle.speed_choice.proofs.One.{only, fastest, fastest_right}
use Rattle.speed_choice.proofs.Numbers.{choice_back, reason_back, numbers_back}
use Rattle.engine.specs.Speed.{hertz, SpeedUnder}
use Rattle.demands.specs.Ceiling.{OneResult, ChosenNumbers, OnBus, UnderCeiling, CeilingExamples}

-- what is found is given
given : (pclk1 ceiling : ℕ) → SpeedUnder pclk1 ceiling (numbers (fastest (hertz pclk1) (hertz ceiling)))
given pclk1 ceiling = record { result = fastest (hertz pclk1) (hertz ceiling); chooses = fastest_right (hertz pclk1) (hertz ceiling); told = refl }

-- numbers that are given are the only ones
one_result : (pclk1 ceiling : ℕ) (r : Result Choice NoChoice) → Chooses (hertz pclk1) (hertz ceiling) r → OneResult pclk1 ceiling
one_result pclk1 ceiling (Ok c) h = record {
  answer = 0;
  mode = mode_number c.mode;
  field = c.field;
  given = record { result = Ok c; chooses = h; told = refl };
  only = λ other x. x.told ∙ ap numbers (only (hertz pclk1) (hertz ceiling) x.result (Ok c) x.chooses h);
}
one_result pclk1 ceiling (Err reason) h = record {
  answer = no_choice_number reason;
  mode = 0;
  field = 0;
  given = record { result = Err reason; chooses = h; told = refl };
  only = λ other x. x.told ∙ ap numbers (only (hertz pclk1) (hertz ceiling) x.result (Err reason) x.chooses h);
}

-- the number of a reason is answered exactly when the reason applies
reason_answered : (pclk1 ceiling : ℕ) (reason : NoChoice) → SpeedUnder pclk1 ceiling (numbers (Err reason)) ↔ Applies (hertz pclk1) (hertz ceiling) reason
reason_answered pclk1 ceiling reason = (
  λ x. subst (Chooses (hertz pclk1) (hertz ceiling)) (reason_back x.result reason x.told) x.chooses,
  λ h. record { result = Err reason; chooses = h; told = refl },
)

-- 0 is answered exactly with the choice
choice_answered : (pclk1 ceiling mode field : ℕ) → SpeedUnder pclk1 ceiling (0 ∷ mode ∷ field ∷ []) ↔ ChosenNumbers pclk1 ceiling mode field
choice_answered pclk1 ceiling mode field = (
  λ x.
      let back = choice_back x.result mode field x.told in
      let right = subst (Chooses (hertz pclk1) (hertz ceiling)) back.0 x.chooses in
      record { within = right.0; known = back.1; chosen = right.1 },
  λ h. record {
    result = Ok record { mode = mode_of mode; field = field };
    chooses = (h.within, h.chosen);
    told = ap (λ n. 0 ∷ n ∷ field ∷ []) (sym (number_back mode h.known));
  },
)

-- the CCR word of a field that fits
whole_word : (m : Mode) (field : ℕ) → field ≤ last_field → (field_word m field / 4096 * 4096 ≡ speed_flags m) × (field_word m field % 4096 ≡ field)
whole_word Standard field h = (omega (arith, h), omega (arith, h))
whole_word (Fast Ratio2to1) field h = (omega (arith, h), omega (arith, h))
whole_word (Fast Ratio16to9) field h = (omega (arith, h), omega (arith, h))

on_bus : (pclk1 ceiling mode field : ℕ) → SpeedUnder pclk1 ceiling (0 ∷ mode ∷ field ∷ []) → OnBus pclk1 ceiling mode field
on_bus pclk1 ceiling mode field x =
    let fits = ((choice_answered pclk1 ceiling mode field).0 x).chosen.fits in
    let word = whole_word (mode_of mode) field fits.last in
    record { under = fits.under; flags = word.0; whole = word.1 }

pub under_ceiling : (pclk1 ceiling : ℕ) → UnderCeiling pclk1 ceiling
under_ceiling pclk1 ceiling = record {
  one = one_result pclk1 ceiling _ (fastest_right (hertz pclk1) (hertz ceiling));
  zeros = λ answer mode field x. numbers_back x.result answer mode field x.told;
  well = choice_answered pclk1 ceiling;
  ceiling_out = reason_answered pclk1 ceiling Ceiling;
  none_fits = reason_answered pclk1 ceiling NoneFits;
  on_bus = on_bus pclk1 ceiling;
}

-- the checker computes what is found
pub ceiling_examples : CeilingExamples
ceiling_examples = record {
  usual = given 36000000 400000;
  standard = given 36000000 395000;
  fast = given 36000000 390000;
  first_16_9 = given 10000000 400000;
  slow = given 36000000 1000;
  equal_24 = given 2400000 100000;
  equal_75 = given 7500000 100000;
  equal_150 = given 15000000 100000;
  last_standard = given 8190 1;
  past_standard = given 8191 1;
  last_fast = given 12285 1;
  past_fast = given 12286 1;
  last = given 102375 1;
  past = given 102376 1;
  wide = given 4294967295 400000;
  no_clock = given 0 400000;
  no_ceiling = given 102376 0;
  over = given 36000000 400001;
}
