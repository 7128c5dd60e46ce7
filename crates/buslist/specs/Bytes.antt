-- The little-endian numbers of a bus list. Past the list's end every byte is 0.
use Rattle.std.specs.Prelude.{ℕ, ◌+◌, ◌*◌, List, get_or}

-- the byte at i
abbrev pub byte : List ℕ → ℕ → ℕ
byte l i = get_or l i 0

-- the 16 bits at i
unfoldable pub half : List ℕ → ℕ → ℕ
half l i = byte l i + 256 * byte l (i + 1)

-- the 32-bit word at i
unfoldable pub word : List ℕ → ℕ → ℕ
word l i = half l i + 65536 * half l (i + 2)
