-- What document 02 promises of the table of usual speeds (C-14).
use Rattle.std.specs.Prelude.{ℕ, ◌≤◌, ◌≡◌, slice_get, Some}
use Rattle.units.specs.declared.Settings.{Settings}
use Rattle.units.specs.Setup.{setup_of}
use Rattle.units.specs.Speed.{mode_number}
use Rattle.speed_words.specs.Table.{megahertz, Speed, speeds, index_of}
use Rattle.engine.specs.Speed.{speed_ccr, speed_table}

pub record SpeedTable : Type 0 where
  -- every entry is the exported CCR word of the same settings
  pub exported : (clock number : ℕ) (speed : Speed) → 2 ≤ clock → clock ≤ 36 → slice_get speeds number ≡ Some speed
      → speed_table (index_of clock number) ≡ speed_ccr (megahertz clock).0 (mode_number speed.mode) speed.frequency.0
  -- and the bring-up's CCR word, whatever the other settings are
  pub brought_up : (clock number : ℕ) (s : Settings) → 2 ≤ clock → clock ≤ 36 → s.pclk1 ≡ megahertz clock
      → slice_get speeds number ≡ Some record { mode = s.mode; frequency = s.frequency } → speed_table (index_of clock number) ≡ (setup_of s).ccr
  -- an index past the end gives 4,294,967,295
  pub past : (index : ℕ) → 420 ≤ index → speed_table index ≡ 4294967295
