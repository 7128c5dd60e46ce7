-- Clocks are hertz, settings microseconds, waits cycles (document 01, "Bus list").
use Rattle.std.specs.Prelude.{ℕ, ◌*◌, ◌/◌}
use Rattle.units.specs.declared.Hertz.{Hertz}
use Rattle.units.specs.declared.Micros.{Micros}
use Rattle.units.specs.declared.Cycles.{Cycles}

-- `to_MHz`: whole megahertz
abbrev pub to_mhz : Hertz → ℕ
to_mhz clock = clock.0 / 1000000

-- a timeout times whole sysclk MHz
abbrev pub to_cycles : Micros → Hertz → Cycles
to_cycles timeout sysclk = record { 0 = timeout.0 * to_mhz sysclk }
