-- The fastest speed under a ceiling (document 02, C-16): a choice is a mode and a CCR field.
use Rattle.std.specs.Prelude.{ℕ, ◌*◌, ◌≤◌, ◌≡◌, true, false, List, [], ◌∷◌, Result, Ok, Err, MatchResult}
use Rattle.units.specs.declared.Hertz.{Hertz}
use Rattle.units.specs.declared.DutyCycle.TheVariants.{Ratio2to1, Ratio16to9}
use Rattle.units.specs.declared.Mode.{Mode}
use Rattle.units.specs.declared.Mode.TheVariants.{Standard, Fast}
use Rattle.units.specs.Speed.{mode_number, frequency_out, divisor, floor}
use Rattle.speed_choice.specs.declared.Choice.{Choice}
use Rattle.speed_choice.specs.declared.NoChoice.{NoChoice}
use Rattle.speed_choice.specs.declared.NoChoice.TheVariants.{Ceiling, NoneFits}

-- the last field of every mode
abbrev pub last_field : ℕ
last_field = 4095

-- the product P of divisor (2, 3 or 25) and field
abbrev pub product : Choice → ℕ
product c = divisor c.mode * c.field

-- a choice that fits: its field is 4 to 4095 in Standard or 1 to 4095 in Fast, and pclk1 ≤ ceiling × P
pub record Fits (pclk1 ceiling : Hertz) (c : Choice) : Type 0 where
  pub least : floor c.mode ≤ c.field
  pub last : c.field ≤ last_field
  pub under : pclk1.0 ≤ ceiling.0 * product c

-- equal products go to Standard, then 2:1, then 16:9
abbrev pub place : Mode → ℕ
place Standard = 0
place (Fast Ratio2to1) = 1
place (Fast Ratio16to9) = 2

-- the one to choose: it fits, no other choice that fits has a smaller P, and of equal products it is the first
pub record Chosen (pclk1 ceiling : Hertz) (c : Choice) : Type 0 where
  pub fits : Fits pclk1 ceiling c
  pub smallest : (other : Choice) → Fits pclk1 ceiling other → product c ≤ product other
  pub first : (other : Choice) → Fits pclk1 ceiling other → product other ≡ product c → place c.mode ≤ place other.mode

-- cause 22 applies to the ceiling; 28, after 22, exactly when no mode and field fit
abbrev pub Applies : Hertz → Hertz → NoChoice → Type 0
Applies pclk1 ceiling Ceiling = frequency_out ceiling ≡ true
Applies pclk1 ceiling NoneFits = (frequency_out ceiling ≡ false) × ((c : Choice) → Fits pclk1 ceiling c → ⊥)

-- the choice under a ceiling, or why there is none
abbrev pub Chooses : Hertz → Hertz → Result Choice NoChoice → Type 0
Chooses pclk1 ceiling r = MatchResult r (λ c. (frequency_out ceiling ≡ false) × Chosen pclk1 ceiling c) (Applies pclk1 ceiling)

-- 28 is a new number, and 22 is that of the frequency
abbrev pub no_choice_number : NoChoice → ℕ
no_choice_number Ceiling = 22
no_choice_number NoneFits = 28

-- the answer, the mode and the field: 0 with a choice; the other numbers come with mode and field zero
abbrev pub numbers : Result Choice NoChoice → List ℕ
numbers (Ok c) = 0 ∷ mode_number c.mode ∷ c.field ∷ []
numbers (Err reason) = no_choice_number reason ∷ 0 ∷ 0 ∷ []
