-- How the choice is found: of each mode the least field, by a division, and of two choices the one that comes first.
use Rattle.std.specs.Prelude.{ℕ, ◌*◌, Bool, cond, ◌&&◌, ◌||◌, eqb, leb, ltb, Option, Some, None}
use Rattle.std.specs.Int.{div_ceil}
use Rattle.units.specs.declared.Hertz.{Hertz}
use Rattle.units.specs.declared.Mode.{Mode}
use Rattle.units.specs.Speed.{divisor, floor, at_least}
use Rattle.speed_choice.specs.declared.Choice.{Choice}
use Rattle.speed_choice.specs.Choice.{product, last_field, place}

-- the least field with which pclk1 ≤ ceiling × P: pclk1 / (divisor × ceiling), rounded up, at least the floor
abbrev pub least_field : Mode → Hertz → Hertz → ℕ
least_field mode pclk1 ceiling = at_least (floor mode) (div_ceil pclk1.0 (divisor mode * ceiling.0))

-- the choice of a mode with its least field, unless that is past the last
abbrev pub least_choice : Mode → Hertz → Hertz → Option Choice
least_choice mode pclk1 ceiling =
    cond (leb (least_field mode pclk1 ceiling) last_field) (Some record { mode = mode; field = least_field mode pclk1 ceiling }) None

-- a smaller product, or an equal one and the earlier place
abbrev pub comes_before : Choice → Choice → Bool
comes_before c other = ltb (product c) (product other) || eqb (product c) (product other) && ltb (place c.mode) (place other.mode)

-- of two choices the one that comes before the other; of one alone, that one
abbrev pub first_of : Option Choice → Option Choice → Option Choice
first_of None other = other
first_of (Some a) None = Some a
first_of (Some a) (Some b) = Some (cond (comes_before b a) b a)
