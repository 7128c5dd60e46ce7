-- One test of an SR1 word for all error flags, and what a check finds where it says that there is none, or some.
-- Assumes nothing.
use Prim.Native.Nat.{ℕ, ◌+◌, ◌*◌, ◌/◌, ◌%◌, ◌<◌}
use native.Mathlib.Omega.{arith}
use mathlib.Core.Bool.{Bool, true, false, not, cond, ◌||◌}
use mathlib.Core.Path.{◌≡◌, refl, ◌∙◌}
use lib.Bits.{bit_and, and_block, and_mask, and_high, and_zero_r}
use lib.Dec.{eqb}
use borrow.Author.Tests.{eq-eqb, ne_eqb}
use Rattle.registers.specs.declared.BusError.{BusError}
use Rattle.std.specs.Prelude.{Option, Some, None}
use Rattle.registers.specs.declared.Source.{Source}
use Rattle.registers.specs.Word.{has, BERR, ARLO, AF, OVR, PECERR, TIMEOUT}
use Rattle.registers.specs.Machine.{check_word}
use Rattle.registers.proofs.BitLaws.{on_is_one, off_is_zero, bits_from_berr}
use Rattle.checks.specs.Flags.{no_error_flag}

-- a mask of the five bits from BERR on, and of TIMEOUT
masked : (v : ℕ) → bit_and v 24320 ≡ v / 16384 % 2 * 16384 + v / 256 % 32 * 256
masked v =
    let u = v / 256 in
    let whole : u * 256 + v % 256 ≡ v = omega arith in
    let high : u / 32 * 32 + u % 32 ≡ u = omega arith in
    let r : v % 256 < 256 = omega arith in
    let s : u % 32 < 32 = omega arith in
    let t : bit_and v 24320 ≡ bit_and u 95 * 256 + bit_and (v % 256) 0 = rw whole at (and_block 8 u 95 (v % 256) 0 r (omega arith)) in
    let m : bit_and u 95 ≡ bit_and (u / 32) 2 * 32 + bit_and (u % 32) 31 = rw high at (and_block 5 (u / 32) 2 (u % 32) 31 s (omega arith)) in
    let o : bit_and (u / 32) 2 ≡ u / 32 / 2 % 2 * 2 = and_high (u / 32) 1 1 in
    let l : bit_and (u % 32) 31 ≡ u % 32 % 32 = and_mask (u % 32) 5 in
    let z : bit_and (v % 256) 0 ≡ 0 = and_zero_r (v % 256) in
    let p : u / 32 / 2 ≡ v / 16384 = omega arith in
    let q : bit_and (u / 32) 2 ≡ v / 16384 % 2 * 2 = rw p at o in
    omega arith

-- each of the six on its own
bits : (v : ℕ) → bit_and v 24320
    ≡ 16384 * (v / 16384 % 2) + 256 * (v / 256 % 2) + 512 * (v / 512 % 2) + 1024 * (v / 1024 % 2) + 2048 * (v / 2048 % 2) + 4096 * (v / 4096 % 2)
bits v = sum (v / 16384 % 2) (v / 256 % 2) (v / 512 % 2) (v / 1024 % 2) (v / 2048 % 2) (v / 4096 % 2) (masked v) (bits_from_berr v)
  where
    sum : (t a b c d e : ℕ) {m x : ℕ} → m ≡ t * 16384 + x * 256 → x ≡ a + 2 * b + 4 * c + 8 * d + 16 * e
        → m ≡ 16384 * t + 256 * a + 512 * b + 1024 * c + 2048 * d + 4096 * e
    sum t a b c d e p q = omega arith

-- so the test says that no error flag is set
pub flags_tested : (v : ℕ) → eqb (bit_and v 24320) 0 ≡ no_error_flag v
unfolding no_error_flag
flags_tested v = go (bit_and v 24320) (bits v) (has TIMEOUT v) (has PECERR v) (has OVR v) (has AF v) (has ARLO v) (has BERR v) refl refl refl refl refl refl
  where
    go : (m : ℕ)
        → m ≡ 16384 * (v / 16384 % 2) + 256 * (v / 256 % 2) + 512 * (v / 512 % 2) + 1024 * (v / 1024 % 2) + 2048 * (v / 2048 % 2) + 4096 * (v / 4096 % 2)
        → (a b c d e f : Bool) → has TIMEOUT v ≡ a → has PECERR v ≡ b → has OVR v ≡ c → has AF v ≡ d → has ARLO v ≡ e → has BERR v ≡ f
        → eqb m 0 ≡ not (a || b || c || d || e || f)
    go m s true b c d e f ha hb hc hd he hf = ne_eqb m 0 (λ (z : m ≡ 0). omega (arith, on_is_one TIMEOUT v ha))
    go m s false true c d e f ha hb hc hd he hf = ne_eqb m 0 (λ (z : m ≡ 0). omega (arith, on_is_one PECERR v hb))
    go m s false false true d e f ha hb hc hd he hf = ne_eqb m 0 (λ (z : m ≡ 0). omega (arith, on_is_one OVR v hc))
    go m s false false false true e f ha hb hc hd he hf = ne_eqb m 0 (λ (z : m ≡ 0). omega (arith, on_is_one AF v hd))
    go m s false false false false true f ha hb hc hd he hf = ne_eqb m 0 (λ (z : m ≡ 0). omega (arith, on_is_one ARLO v he))
    go m s false false false false false true ha hb hc hd he hf = ne_eqb m 0 (λ (z : m ≡ 0). omega (arith, on_is_one BERR v hf))
    go m s false false false false false false ha hb hc hd he hf =
        let zero : m ≡ 0 = s ∙ rw (off_is_zero TIMEOUT v ha, off_is_zero PECERR v hb, off_is_zero OVR v hc, off_is_zero AF v hd, off_is_zero ARLO v he, off_is_zero BERR v hf) in
        eq-eqb m 0 zero

-- what a check finds, by its flags
abbrev found : Source → (a b c d e : Bool) → Option BusError
found n a b c d e =
    cond a (Some BusError.Timeout)
    (cond b (Some BusError.Crc)
    (cond c (Some BusError.Overrun)
    (cond d (Some (BusError.NoAcknowledge n))
    (cond e (Some BusError.ArbitrationLoss)
    None))))

module _ (n : Source) (v : ℕ) where
  -- without an error flag a check finds nothing, and BERR is clear
  pub nothing_found : no_error_flag v ≡ true → (None ≡ check_word n v) × (has BERR v ≡ false)
  unfolding no_error_flag check_word
  nothing_found = go (has TIMEOUT v) (has PECERR v) (has OVR v) (has AF v) (has ARLO v) (has BERR v)
    where
      go : (a b c d e f : Bool) → not (a || b || c || d || e || f) ≡ true → (None ≡ found n a b c d e) × (f ≡ false)
      go true b c d e f h = let z : ◌≡◌ {A = ℕ} 0 1 = cc in absurd (omega arith)
      go false true c d e f h = let z : ◌≡◌ {A = ℕ} 0 1 = cc in absurd (omega arith)
      go false false true d e f h = let z : ◌≡◌ {A = ℕ} 0 1 = cc in absurd (omega arith)
      go false false false true e f h = let z : ◌≡◌ {A = ℕ} 0 1 = cc in absurd (omega arith)
      go false false false false true f h = let z : ◌≡◌ {A = ℕ} 0 1 = cc in absurd (omega arith)
      go false false false false false true h = let z : ◌≡◌ {A = ℕ} 0 1 = cc in absurd (omega arith)
      go false false false false false false h = (refl, refl)

  -- with one, and nothing found, it is BERR
  pub berr_found : no_error_flag v ≡ false → None ≡ check_word n v → has BERR v ≡ true
  unfolding no_error_flag check_word
  berr_found = go (has TIMEOUT v) (has PECERR v) (has OVR v) (has AF v) (has ARLO v) (has BERR v)
    where
      go : (a b c d e f : Bool) → not (a || b || c || d || e || f) ≡ false → None ≡ found n a b c d e → f ≡ true
      go true b c d e f h k = let z : ◌≡◌ {A = ℕ} 0 1 = cc in absurd (omega arith)
      go false true c d e f h k = let z : ◌≡◌ {A = ℕ} 0 1 = cc in absurd (omega arith)
      go false false true d e f h k = let z : ◌≡◌ {A = ℕ} 0 1 = cc in absurd (omega arith)
      go false false false true e f h k = let z : ◌≡◌ {A = ℕ} 0 1 = cc in absurd (omega arith)
      go false false false false true f h k = let z : ◌≡◌ {A = ℕ} 0 1 = cc in absurd (omega arith)
      go false false false false false true h k = refl
      go false false false false false false h k = let z : ◌≡◌ {A = ℕ} 0 1 = cc in absurd (omega arith)
