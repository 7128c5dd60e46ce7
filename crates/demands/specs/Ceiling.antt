-- What document 02 promises of the fastest speed under a ceiling (C-16).
use Rattle.std.specs.Prelude.{ℕ, ◌*◌, ◌/◌, ◌%◌, ◌≤◌, ◌≡◌, ◌↔◌, ◌⊎◌, true, false, List, [], ◌∷◌}
use Rattle.units.specs.Speed.{mode_known, mode_of, frequency_out, divisor, speed_flags, field_word}
use Rattle.speed_choice.specs.declared.Choice.{Choice}
use Rattle.speed_choice.specs.Choice.{Fits, Chosen}
use Rattle.engine.specs.Speed.{hertz, SpeedUnder}

-- a clock and a ceiling give an answer, a mode and a field, and nothing else
pub record OneResult (pclk1 ceiling : ℕ) : Type 0 where
  pub answer : ℕ
  pub mode : ℕ
  pub field : ℕ
  pub given : SpeedUnder pclk1 ceiling (answer ∷ mode ∷ field ∷ [])
  pub only : (other : List ℕ) → SpeedUnder pclk1 ceiling other → other ≡ answer ∷ mode ∷ field ∷ []

-- the choice of a clock and a ceiling, by the number of its mode
pub record ChosenNumbers (pclk1 ceiling mode field : ℕ) : Type 0 where
  pub within : frequency_out (hertz ceiling) ≡ false
  pub known : mode_known mode ≡ true
  pub chosen : Chosen (hertz pclk1) (hertz ceiling) record { mode = mode_of mode; field = field }

-- what a mode and a field come to that are answered
pub record OnBus (pclk1 ceiling mode field : ℕ) : Type 0 where
  -- the bus is never faster than the ceiling: pclk1 ≤ ceiling × P
  pub under : pclk1 ≤ ceiling * (divisor (mode_of mode) * field)
  -- of the CCR word the bits from 12 on are the mode's flags, and those below are the field
  pub flags : field_word (mode_of mode) field / 4096 * 4096 ≡ speed_flags (mode_of mode)
  pub whole : field_word (mode_of mode) field % 4096 ≡ field

-- of every clock and every ceiling
pub record UnderCeiling (pclk1 ceiling : ℕ) : Type 0 where
  -- there is exactly one result
  pub one : OneResult pclk1 ceiling
  -- its answer is 0, 22 or 28, and 22 and 28 come with mode and field zero
  pub zeros : (answer mode field : ℕ) → SpeedUnder pclk1 ceiling (answer ∷ mode ∷ field ∷ [])
      → (answer ≡ 0) ⊎ (((answer ≡ 22) ⊎ (answer ≡ 28)) × (mode ≡ 0) × (field ≡ 0))
  -- 0 exactly with the mode and the field of the choice
  pub well : (mode field : ℕ) → SpeedUnder pclk1 ceiling (0 ∷ mode ∷ field ∷ []) ↔ ChosenNumbers pclk1 ceiling mode field
  -- 22 exactly when the ceiling is 0 or above 400,000
  pub ceiling_out : SpeedUnder pclk1 ceiling (22 ∷ 0 ∷ 0 ∷ []) ↔ (frequency_out (hertz ceiling) ≡ true)
  -- 28, after 22, exactly when no mode and field fit
  pub none_fits : SpeedUnder pclk1 ceiling (28 ∷ 0 ∷ 0 ∷ [])
      ↔ ((frequency_out (hertz ceiling) ≡ false) × ((c : Choice) → Fits (hertz pclk1) (hertz ceiling) c → ⊥))
  -- what is answered with 0 is right on the bus
  pub on_bus : (mode field : ℕ) → SpeedUnder pclk1 ceiling (0 ∷ mode ∷ field ∷ []) → OnBus pclk1 ceiling mode field

-- cases that were worked out by hand
pub record CeilingExamples : Type 0 where
  -- 36 MHz under 400 kHz: P is at least 90, which is Standard 45; 2:1 30 has it too, and comes later
  pub usual : SpeedUnder 36000000 400000 (0 ∷ 0 ∷ 45 ∷ [])
  -- under 395 kHz it is at least 91.1: Standard 46 has 92, 2:1 31 has 93
  pub standard : SpeedUnder 36000000 395000 (0 ∷ 0 ∷ 46 ∷ [])
  -- under 390 kHz it is at least 92.3: 2:1 31 has 93, Standard 47 has 94
  pub fast : SpeedUnder 36000000 390000 (0 ∷ 1 ∷ 31 ∷ [])
  -- 10 MHz under 400 kHz: at least 25, which is 16:9 1; Standard 13 has 26, 2:1 9 has 27
  pub first_16_9 : SpeedUnder 10000000 400000 (0 ∷ 2 ∷ 1 ∷ [])
  -- 36 MHz under 1 kHz: at least 36,000, which only 16:9 reaches
  pub slow : SpeedUnder 36000000 1000 (0 ∷ 2 ∷ 1440 ∷ [])
  -- 24 is Standard 12 and 2:1 8; 75 is 2:1 25 and 16:9 3; 150 is Standard 75, 2:1 50 and 16:9 6
  pub equal_24 : SpeedUnder 2400000 100000 (0 ∷ 0 ∷ 12 ∷ [])
  pub equal_75 : SpeedUnder 7500000 100000 (0 ∷ 1 ∷ 25 ∷ [])
  pub equal_150 : SpeedUnder 15000000 100000 (0 ∷ 0 ∷ 75 ∷ [])
  -- the last product of Standard is 8,190, which 2:1 has too; that of 2:1 is 12,285, that of 16:9 is 102,375; past it nothing fits
  pub last_standard : SpeedUnder 8190 1 (0 ∷ 0 ∷ 4095 ∷ [])
  pub past_standard : SpeedUnder 8191 1 (0 ∷ 1 ∷ 2731 ∷ [])
  pub last_fast : SpeedUnder 12285 1 (0 ∷ 1 ∷ 4095 ∷ [])
  pub past_fast : SpeedUnder 12286 1 (0 ∷ 2 ∷ 492 ∷ [])
  pub last : SpeedUnder 102375 1 (0 ∷ 2 ∷ 4095 ∷ [])
  pub past : SpeedUnder 102376 1 (28 ∷ 0 ∷ 0 ∷ [])
  -- 400,000 × 10,740 is above 2^32: no number is cut
  pub wide : SpeedUnder 4294967295 400000 (0 ∷ 1 ∷ 3580 ∷ [])
  -- pclk1 0 fits every choice, and 2:1 1 has the smallest product
  pub no_clock : SpeedUnder 0 400000 (0 ∷ 1 ∷ 1 ∷ [])
  -- a ceiling that is out, whatever else is so
  pub no_ceiling : SpeedUnder 102376 0 (22 ∷ 0 ∷ 0 ∷ [])
  pub over : SpeedUnder 36000000 400001 (22 ∷ 0 ∷ 0 ∷ [])
