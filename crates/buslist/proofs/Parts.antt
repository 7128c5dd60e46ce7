-- A word's bytes and halves, in a list of bytes.
-- Assumes nothing.
use Prim.Native.Nat.{ℕ, ◌+◌, ◌*◌, ◌/◌, ◌%◌, ◌<◌}
use mathlib.Core.Path.{◌≡◌}
use mathlib.Core.List.{List}
use native.Mathlib.Nat.{add_assoc}
use native.Mathlib.Omega.{arith}
use Rattle.buslist.specs.Bytes.{byte, half, word}

pub four_bytes : (l : List ℕ) (i : ℕ) → word l i ≡ byte l i + 256 * byte l (i + 1) + 65536 * byte l (i + 2) + 16777216 * byte l (i + 3)
unfolding word half
four_bytes l i = rw (add_assoc i 2 1) (omega arith)

module _ (l : List ℕ) (fits : (i : ℕ) → byte l i < 256) (i : ℕ) where
  pub low_byte : word l i % 256 ≡ byte l i
  unfolding word half
  low_byte = omega (arith, fits i)

  pub second_byte : word l i / 256 % 256 ≡ byte l (i + 1)
  unfolding word half
  second_byte = omega (arith, fits i, fits (i + 1))

  pub low_half : word l i % 65536 ≡ half l i
  unfolding word half
  low_half = omega (arith, fits i, fits (i + 1))

  pub high_half : word l i / 65536 ≡ half l (i + 2)
  unfolding word half
  high_half = omega (arith, fits i, fits (i + 1))
