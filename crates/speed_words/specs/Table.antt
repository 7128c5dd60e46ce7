-- The usual speeds and their CCR words (document 02, C-14).
use Rattle.std.specs.Prelude.{ℕ, ◌+◌, ◌-◌, ◌*◌, List, [], ◌∷◌, ◌++◌, map}
use Rattle.std.specs.List.{flat_map, range_with_len}
use Rattle.units.specs.declared.Hertz.{Hertz}
use Rattle.units.specs.declared.DutyCycle.TheVariants.{Ratio2to1, Ratio16to9}
use Rattle.units.specs.declared.Mode.{Mode}
use Rattle.units.specs.declared.Mode.TheVariants.{Standard, Fast}
use Rattle.units.specs.Speed.{ccr_word}

abbrev pub megahertz : ℕ → Hertz
megahertz n = record { 0 = 1000000 * n }

abbrev pub kilohertz : ℕ → Hertz
kilohertz n = record { 0 = 1000 * n }

-- a speed is a mode and a frequency
pub record Speed : Type 0 where
  pub mode : Mode
  pub frequency : Hertz

-- the CCR word of a clock and a speed
abbrev pub word_of : Hertz → Speed → ℕ
word_of pclk1 speed = ccr_word pclk1 speed.mode speed.frequency

-- pclk1 of 2 to 36 whole MHz: 35 clocks
abbrev pub clocks : List Hertz
clocks = map megahertz (range_with_len 2 35)

-- a mode at each of so many kHz
abbrev pub speeds_of : Mode → List ℕ → List Speed
speeds_of mode khz = map (λ n. record { mode = mode; frequency = kilohertz n }) khz

-- twelve speeds: Standard 10, 20, 50, 100 kHz; Fast 2:1 and Fast 16:9 each 125, 200, 250, 400 kHz
abbrev pub speeds : List Speed
speeds = speeds_of Standard (10 ∷ 20 ∷ 50 ∷ 100 ∷ [])
    ++ speeds_of (Fast Ratio2to1) (125 ∷ 200 ∷ 250 ∷ 400 ∷ [])
    ++ speeds_of (Fast Ratio16to9) (125 ∷ 200 ∷ 250 ∷ 400 ∷ [])

-- the words of one clock
abbrev pub words_of : Hertz → List ℕ
words_of pclk1 = map (word_of pclk1) speeds

-- the table: clock by clock in that order
abbrev pub speed_words : List ℕ
speed_words = flat_map words_of clocks

-- where it has the word of a clock, in whole MHz, and of a speed, by its number: 12 × (clock − 2) + number
abbrev pub index_of : ℕ → ℕ → ℕ
index_of clock number = 12 * (clock - 2) + number
