-- Speeds as plain numbers for a host: the three words of some settings (document 01, "Bring-up"), the table of usual
-- speeds (document 02, C-14), and the fastest speed under a ceiling (document 02, C-16).
use Rattle.std.specs.Prelude.{ℕ, Bool, not, cond, ◌||◌, ◌≡◌, List, Result, slice_get}
use Rattle.std.specs.Option.{unwrap_or}
use Rattle.units.specs.declared.Hertz.{Hertz}
use Rattle.units.specs.Speed.{mode_known, mode_of, frequency_out, cr2_word, trise_word, ccr_word}
use Rattle.speed_words.specs.Table.{speed_words}
use Rattle.speed_choice.specs.declared.Choice.{Choice}
use Rattle.speed_choice.specs.declared.NoChoice.{NoChoice}
use Rattle.speed_choice.specs.Choice.{Chooses, numbers}

abbrev pub hertz : ℕ → Hertz
hertz n = record { 0 = n }

-- an unknown mode, or cause 22
abbrev pub speed_out : ℕ → ℕ → Bool
speed_out mode frequency = not (mode_known mode) || frequency_out (hertz frequency)

-- a word of these settings, or 4,294,967,295 on cause 22 or an unknown mode
abbrev pub plain_word : ℕ → ℕ → ℕ → ℕ
plain_word mode frequency word = cond (speed_out mode frequency) 4294967295 word

abbrev pub speed_cr2 : ℕ → ℕ → ℕ → ℕ
speed_cr2 pclk1 mode frequency = plain_word mode frequency (cr2_word (hertz pclk1))

abbrev pub speed_trise : ℕ → ℕ → ℕ → ℕ
speed_trise pclk1 mode frequency = plain_word mode frequency (trise_word (hertz pclk1) (mode_of mode))

abbrev pub speed_ccr : ℕ → ℕ → ℕ → ℕ
speed_ccr pclk1 mode frequency = plain_word mode frequency (ccr_word (hertz pclk1) (mode_of mode) (hertz frequency))

-- the word of this entry, or 4,294,967,295 for an index past the end
abbrev pub speed_table : ℕ → ℕ
speed_table index = unwrap_or (slice_get speed_words index) 4294967295

-- the answer, the mode and the CCR field: the numbers of the choice under a ceiling, or of why there is none
pub record SpeedUnder (pclk1 ceiling : ℕ) (chosen : List ℕ) : Type 0 where
  pub result : Result Choice NoChoice
  pub chooses : Chooses (hertz pclk1) (hertz ceiling) result
  pub told : chosen ≡ numbers result
