-- The bytes of a read and of a write, one by one.
-- Assumes nothing.
use Prim.Native.Nat.{ℕ, zero, suc, ◌+◌, ◌-◌, ◌<◌, ◌≤◌}
use native.Mathlib.Numerals.{add-one}
use native.Mathlib.Omega.{arith}
use mathlib.Core.Path.{◌≡◌}
use mathlib.Core.List.{List, [], ◌++◌}
use lib.ListN.{length, drop, get_or, drop_of_length-le}
use lib.Seq.{drop-cons}
use Rattle.i2c.specs.Polling.{recv_byte, read_bytes, send_byte, write_bytes}

-- the bytes still to read: the next one, or none
pub next-byte : (n i : ℕ) → i < n → read_bytes (n - i) ≡ recv_byte ++ read_bytes (n - (i + 1))
unfolding read_bytes
next-byte n i h = let e : n - i ≡ suc (n - (i + 1)) = omega arith in rw e

pub no_byte : (n i : ℕ) → n ≤ i → read_bytes (n - i) ≡ []
unfolding read_bytes
no_byte n i h = let e : n - i ≡ zero = omega arith in rw e

-- the same of the bytes still to write
pub next-sent : (bs : List ℕ) (i : ℕ) → i < length bs → write_bytes (drop i bs) ≡ send_byte (get_or bs i 0) ++ write_bytes (drop (i + 1) bs)
unfolding write_bytes
next-sent bs i h = rw (add-one, drop-cons bs i 0)

pub all_sent : (bs : List ℕ) (i : ℕ) → length bs ≤ i → write_bytes (drop i bs) ≡ []
unfolding write_bytes
all_sent bs i h = rw (drop_of_length-le bs h)
