-- The bytes of a read, one by one.
-- Assumes nothing.
use Prim.Native.Nat.{ℕ, zero, suc, ◌+◌, ◌-◌, ◌<◌, ◌≤◌}
use native.Mathlib.Omega.{arith}
use mathlib.Core.Path.{◌≡◌}
use mathlib.Core.List.{[], ◌++◌}
use Rattle.units.specs.declared.Setup.{Setup}
use Rattle.blocking.specs.Blocking.{receive, receive_bytes}

-- the next byte; none left
pub next-byte : (s : Setup) (n i : ℕ) → i < n → receive_bytes s (n - i) ≡ receive s ++ receive_bytes s (n - (i + 1))
unfolding receive_bytes
next-byte s n i h = let e : n - i ≡ suc (n - (i + 1)) = omega arith in rw e

pub no_byte : (s : Setup) (n i : ℕ) → n ≤ i → receive_bytes s (n - i) ≡ []
unfolding receive_bytes
no_byte s n i h = let e : n - i ≡ zero = omega arith in rw e
