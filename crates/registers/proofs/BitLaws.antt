-- Laws of single bits, by weight.
-- Assumes nothing.
use Prim.Native.Nat.{ℕ, ◌+◌, ◌-◌, ◌*◌, ◌/◌, ◌%◌, ◌≤◌, ◌<◌}
use mathlib.Core.Bool.{Bool, true, false, cond}
use mathlib.Core.Path.{◌≡◌, refl}
use native.Mathlib.Omega.{arith}
use native.Mathlib.Nat.{le-div_iff_mul-le}
use borrow.Author.Tests.{eqb-true, eqb-false}
use Rattle.registers.specs.Word.{has, with_bit, without_bit}

module _ (w v : ℕ) where
  pub with_none : w ≡ 0 → v ≡ with_bit w v
  unfolding with_bit
  with_none e = go (has w v)
    where
      go : (t : Bool) → v ≡ cond t v (v + w)
      go true = refl
      go false = omega arith

  pub with_on : has w v ≡ true → v ≡ with_bit w v
  unfolding with_bit
  with_on t = rw t

  pub with_off : has w v ≡ false → v + w ≡ with_bit w v
  unfolding with_bit
  with_off t = rw t

  pub without_none : w ≡ 0 → v ≡ without_bit w v
  unfolding without_bit
  without_none e = go (has w v)
    where
      go : (t : Bool) → v ≡ cond t (v - w) v
      go true = omega arith
      go false = refl

  pub without_on : has w v ≡ true → v - w ≡ without_bit w v
  unfolding without_bit
  without_on t = rw t

  pub without_off : has w v ≡ false → v ≡ without_bit w v
  unfolding without_bit
  without_off t = rw t

  -- a bit as a number
  pub on_is_one : has w v ≡ true → v / w % 2 ≡ 1
  unfolding has
  on_is_one t = eqb-true _ _ t

  pub off_is_zero : has w v ≡ false → v / w % 2 ≡ 0
  unfolding has
  off_is_zero t = let h : v / w % 2 ≡ 1 → ⊥ = eqb-false _ _ t in omega arith

  -- a word that has a bit is at least its weight
  pub on_le : 0 < w → has w v ≡ true → w ≤ v
  on_le h t =
      let e = on_is_one t in
      let q : 1 ≤ v / w = omega arith in
      omega (arith, (le-div_iff_mul-le {x = 1} h).0 q)

-- the lowest of five bits, the next, and so on
one_of_five : (x : ℕ) → x % 32 ≡ x % 2 + 2 * (x / 2 % 16)
one_of_five x = omega arith

one_of_four : (x : ℕ) → x % 16 ≡ x % 2 + 2 * (x / 2 % 8)
one_of_four x = omega arith

one_of_three : (x : ℕ) → x % 8 ≡ x % 2 + 2 * (x / 2 % 4)
one_of_three x = omega arith

one_of_two : (x : ℕ) → x % 4 ≡ x % 2 + 2 * (x / 2 % 2)
one_of_two x = omega arith

together : (a b c d q : ℕ) {m n o p : ℕ} → m ≡ a + 2 * n → n ≡ b + 2 * o → o ≡ c + 2 * p → p ≡ d + 2 * q → m ≡ a + 2 * b + 4 * c + 8 * d + 16 * q
together a b c d q e f g h = omega arith

-- the five bits from BERR on
pub bits_from_berr : (v : ℕ) → v / 256 % 32 ≡ v / 256 % 2 + 2 * (v / 512 % 2) + 4 * (v / 1024 % 2) + 8 * (v / 2048 % 2) + 16 * (v / 4096 % 2)
bits_from_berr v =
    let a : v / 512 ≡ v / 256 / 2 = omega arith in
    let b : v / 1024 ≡ v / 512 / 2 = omega arith in
    let c : v / 2048 ≡ v / 1024 / 2 = omega arith in
    let d : v / 4096 ≡ v / 2048 / 2 = omega arith in
    together (v / 256 % 2) (v / 512 % 2) (v / 1024 % 2) (v / 2048 % 2) (v / 4096 % 2)
    (rw (← a) at (one_of_five (v / 256))) (rw (← b) at (one_of_four (v / 512)))
    (rw (← c) at (one_of_three (v / 1024))) (rw (← d) at (one_of_two (v / 2048)))
