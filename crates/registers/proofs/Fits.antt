-- Accesses that fit, three to a byte; and a loop over the first bytes of a list.
-- Assumes nothing.
use Prim.Native.Nat.{ℕ, ◌+◌, ◌-◌, ◌*◌, ◌<◌, ◌≤◌}
use native.Mathlib.Omega.{arith}
use native.Mathlib.Numerals.{add-one}
use mathlib.Core.Path.{◌≡◌}
use mathlib.Core.List.{List, ◌∷◌}
use lib.ListN.{length, length-drop, length-take, take, drop, get_or}
use lib.Seq.{drop-cons, take_all}
use Rattle.std.proofs.lemmas.List.{get_or-take}
use Rattle.registers.specs.declared.access.Bus.{Bus}
use Rattle.registers.specs.Contract.{Fits}

-- fewer accesses fit too
fits_less : (b : Bus) {m n : ℕ} → m ≤ n → Fits b n → Fits b m
fits_less b k h = (omega (arith, k, h.0), omega (arith, k, h.1))

-- the accesses of the next byte fit, and after them those of one byte fewer
pub byte_fits : (b : Bus) (n i : ℕ) {k : ℕ} → i < n → Fits b (3 * (n - i)) → k ≤ 3 → Fits b k
byte_fits b n i {k} h f l = let m : k ≤ 3 * (n - i) = omega (arith, h, l) in fits_less b m f

pub fewer_fit : (b : Bus) (n i : ℕ) → Fits b (3 * (n - i) - 1 - 1 - 1) → Fits b (3 * (n - (i + 1)))
fewer_fit b n i f = let e : 3 * (n - (i + 1)) ≤ 3 * (n - i) - 1 - 1 - 1 = omega arith in fits_less b e f

-- a loop over the first n bytes of a list: each is there, and is the next one
module _ (bs : List ℕ) (n i : ℕ) (k : n ≤ length bs) where
  taken : length (take n bs) ≡ n
  taken = simp length-take (omega (arith, k))

  pub in_first : i < length (take n bs) → i < n
  in_first h = omega (arith, h, taken)

  pub all_first : length (take n bs) ≤ i → i ≤ length (take n bs) → i ≡ n
  all_first h l = omega (arith, h, l, taken)

  pub next_first : i < n → drop i bs ≡ get_or (take n bs) i 0 ∷ drop (i + 1) bs
  next_first h = let l : i < length bs = omega (arith, k) in rw (get_or-take n bs i 0 h, add-one) (drop-cons bs i 0 l)

-- what is left after them
pub rest : (bs : List ℕ) (n : ℕ) → take (length bs - n) (drop n bs) ≡ drop n bs
rest bs n = let l : length (drop n bs) ≤ length bs - n = simp length-drop (omega arith) in rw take_all
