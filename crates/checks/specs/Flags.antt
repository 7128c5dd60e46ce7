-- The error flags of SR1 together.
use Rattle.std.specs.Prelude.{ℕ, Bool, not, ◌||◌}
use Rattle.registers.specs.Word.{has, BERR, ARLO, AF, OVR, PECERR, TIMEOUT}

-- a word with no error flag: none that a check ends the call for, and BERR clear
unfoldable pub no_error_flag : ℕ → Bool
no_error_flag v = not (has TIMEOUT v || has PECERR v || has OVR v || has AF v || has ARLO v || has BERR v)
