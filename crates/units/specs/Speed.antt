-- The speed words (document 01, "Bring-up"). M is pclk1 in whole megahertz.
use Rattle.std.specs.Prelude.{ℕ, zero, suc, ◌≡◌, ◌+◌, ◌*◌, ◌/◌, ◌%◌, Bool, true, false, cond, ◌||◌, eqb, leb, ltb, Result, MatchResult}
use Rattle.units.specs.declared.Hertz.{Hertz}
use Rattle.units.specs.declared.UnknownMode.{UnknownMode}
use Rattle.units.specs.declared.DutyCycle.TheVariants.{Ratio2to1, Ratio16to9}
use Rattle.units.specs.declared.Mode.{Mode}
use Rattle.units.specs.declared.Mode.TheVariants.{Standard, Fast}
use Rattle.units.specs.Time.{to_mhz}

-- the numbers that stand for a mode
abbrev pub mode_known : ℕ → Bool
mode_known number = leb number 2

-- mode: 0 Standard, 1 Fast 2:1, 2 Fast 16:9
abbrev pub mode_of : ℕ → Mode
mode_of zero = Standard
mode_of (suc zero) = Fast Ratio2to1
mode_of (suc (suc n)) = Fast Ratio16to9

-- and back
abbrev pub mode_number : Mode → ℕ
mode_number Standard = 0
mode_number (Fast Ratio2to1) = 1
mode_number (Fast Ratio16to9) = 2

-- the mode that a known number stands for, or the number as an error
abbrev pub DecodesMode : ℕ → Result Mode UnknownMode → Type 0
DecodesMode number r = MatchResult r (λ mode. (mode_known number ≡ true) × (mode ≡ mode_of number)) (λ e. (mode_known number ≡ false) × (e.0 ≡ number))

-- cause 22: frequency 0 or above 400,000
abbrev pub frequency_out : Hertz → Bool
frequency_out frequency = eqb frequency.0 0 || ltb 400000 frequency.0

-- CR2: M mod 64
abbrev pub cr2_word : Hertz → ℕ
cr2_word pclk1 = to_mhz pclk1 % 64

-- TRISE: (M + 1) mod 64 in Standard, (M × 300 / 1000 + 1) mod 64 in Fast
abbrev pub trise_word : Hertz → Mode → ℕ
trise_word pclk1 Standard = (to_mhz pclk1 + 1) % 64
trise_word pclk1 (Fast d) = (to_mhz pclk1 * 300 / 1000 + 1) % 64

-- what the frequency is multiplied by: 2 in Standard, 3 or 25 for 2:1 or 16:9
abbrev pub divisor : Mode → ℕ
divisor Standard = 2
divisor (Fast Ratio2to1) = 3
divisor (Fast Ratio16to9) = 25

-- the least field: at least 4 in Standard, at least 1 in Fast
abbrev pub floor : Mode → ℕ
floor Standard = 4
floor (Fast d) = 1

-- F/S (bit 15) set in Fast, and DUTY (bit 14) for 16:9
abbrev pub speed_flags : Mode → ℕ
speed_flags Standard = 0
speed_flags (Fast Ratio2to1) = 0x8000
speed_flags (Fast Ratio16to9) = 0xc000

abbrev pub at_least : ℕ → ℕ → ℕ
at_least least n = cond (ltb n least) least n

-- the field: pclk1 / (divisor × frequency), at least the floor
abbrev pub ccr_field : Hertz → Mode → Hertz → ℕ
ccr_field pclk1 mode frequency = at_least (floor mode) (pclk1.0 / (divisor mode * frequency.0))

-- a CCR word: its field mod 4096, with the mode's flags
abbrev pub field_word : Mode → ℕ → ℕ
field_word mode field = field % 4096 + speed_flags mode

-- CCR: the word of that field
abbrev pub ccr_word : Hertz → Mode → Hertz → ℕ
ccr_word pclk1 mode frequency = field_word mode (ccr_field pclk1 mode frequency)
