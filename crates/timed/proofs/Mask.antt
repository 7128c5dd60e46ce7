-- One test of an SR1 word, for a flag and against the error flags of a poll.
-- Assumes nothing.
use Rattle.std.proofs.Common.{◌≡◌, ℕ, ◌+◌, ◌-◌, ◌*◌, ◌/◌, ◌%◌, ◌^◌, ◌<◌, Bool, true, false, cond, ◌&&◌, ◌||◌, eqb, sym, refl, ap, ◌∙◌, arith, eq-eqb, ne_eqb, eqb-true}
use Rattle.std.specs.Prelude.{Option, Some, None}
use lib.Bits.{bit_and, and_block, and_mask, and_high, and_zero_r}
use borrow.Author.Tests.{eqb-false}
use Rattle.registers.specs.declared.Awaited.{Awaited}
use Rattle.registers.specs.declared.BusError.{BusError}
use Rattle.registers.specs.declared.Source.{Source}
use Rattle.registers.specs.Word.{has, BERR, ARLO, AF, OVR}
use Rattle.registers.specs.Machine.{poll_word, poll_error, poll_ready}
use Rattle.registers.proofs.BitLaws.{on_is_one, off_is_zero, bits_from_berr}
use Rattle.timed.specs.Poll.{waited_flag, no_error, over}

-- f is the weight of one of the low eight bits
pub record Low (f : ℕ) : Type 0 where
  number : ℕ
  weight : 2 ^ number ≡ f
  alone : 2 ^ (1 + number) - 2 ^ number ≡ f
  some : 0 < f
  pub small : f < 256

-- a mask of the four bits from BERR on, and of one below them
masked : (v : ℕ) {f : ℕ} → Low f → bit_and v (3840 + f) ≡ v / 256 % 16 * 256 + v / f % 2 * f
masked v {f} x =
    let whole : v / 256 * 256 + v % 256 ≡ v = omega arith in
    let none : 0 * 256 + f ≡ f = omega arith in
    let four : 15 * 256 + f ≡ 3840 + f = omega arith in
    let r : v % 256 < 256 = omega arith in
    let one : bit_and v f ≡ v / f % 2 * f = rw (x.alone, x.weight) at (and_high v 1 x.number) in
    let low : bit_and v f ≡ bit_and (v / 256) 0 * 256 + bit_and (v % 256) f = rw (whole, none) at (and_block 8 (v / 256) 0 (v % 256) f r x.small) in
    let all : bit_and v (3840 + f) ≡ bit_and (v / 256) 15 * 256 + bit_and (v % 256) f = rw (whole, four) at (and_block 8 (v / 256) 15 (v % 256) f r x.small) in
    let high : bit_and (v / 256) 15 ≡ v / 256 % 16 = and_mask (v / 256) 4 in
    let zero : bit_and (v / 256) 0 ≡ 0 = and_zero_r (v / 256) in
    omega arith

-- the error flags of a poll are those four bits
clean : (n : Source) (v : ℕ) → no_error (poll_word n v) ≡ eqb (v / 256 % 16) 0
unfolding poll_word
clean n v = go (v / 256 % 16) four (has BERR v) (has ARLO v) (has AF v) (has OVR v) refl refl refl refl
  where
    flagged : Bool → Bool → Bool → Bool → Option BusError
    flagged a b c d =
        cond a (Some BusError.Bus)
        (cond b (Some BusError.ArbitrationLoss)
        (cond c (Some (BusError.NoAcknowledge n))
        (cond d (Some BusError.Overrun)
        None)))

    four : v / 256 % 16 ≡ v / 256 % 2 + 2 * (v / 512 % 2) + 4 * (v / 1024 % 2) + 8 * (v / 2048 % 2)
    four = omega (arith, bits_from_berr v)

    go : (m : ℕ) → m ≡ v / 256 % 2 + 2 * (v / 512 % 2) + 4 * (v / 1024 % 2) + 8 * (v / 2048 % 2)
        → (a b c d : Bool) → has BERR v ≡ a → has ARLO v ≡ b → has AF v ≡ c → has OVR v ≡ d → no_error (flagged a b c d) ≡ eqb m 0
    go m s true b c d ha hb hc hd = sym (ne_eqb m 0 (λ (z : m ≡ 0). omega (arith, on_is_one BERR v ha)))
    go m s false true c d ha hb hc hd = sym (ne_eqb m 0 (λ (z : m ≡ 0). omega (arith, on_is_one ARLO v hb)))
    go m s false false true d ha hb hc hd = sym (ne_eqb m 0 (λ (z : m ≡ 0). omega (arith, on_is_one AF v hc)))
    go m s false false false true ha hb hc hd = sym (ne_eqb m 0 (λ (z : m ≡ 0). omega (arith, on_is_one OVR v hd)))
    go m s false false false false ha hb hc hd =
        sym (eq-eqb m 0 (s ∙ rw (off_is_zero BERR v ha, off_is_zero ARLO v hb, off_is_zero AF v hc, off_is_zero OVR v hd)))

-- so the test is that of a poll
both : {f : ℕ} → Low f → (v x b : ℕ) → b < 2 → bit_and v (3840 + f) ≡ x * 256 + b * f → eqb (bit_and v (3840 + f)) f ≡ eqb x 0 && eqb b 1
both {f} u v x b l m = go (eqb x 0) (eqb b 1) refl refl
  where
    other : (bit_and v (3840 + f) ≡ f → ⊥) → eqb (bit_and v (3840 + f)) f ≡ false
    other = ne_eqb (bit_and v (3840 + f)) f

    go : (s t : Bool) → eqb x 0 ≡ s → eqb b 1 ≡ t → eqb (bit_and v (3840 + f)) f ≡ s && t
    go true true ex eb = let y = eqb-true x 0 ex in let w = rw (eqb-true b 1 eb) at m in eq-eqb (bit_and v (3840 + f)) f (omega arith)
    go true false ex eb =
        let y : b ≡ 0 = let z : b ≡ 1 → ⊥ = eqb-false b 1 eb in omega arith in
        let w = rw y at m in
        other (λ (z : bit_and v (3840 + f) ≡ f). omega (arith, u.some, u.small))
    go false t ex eb = let y : x ≡ 0 → ⊥ = eqb-false x 0 ex in other (λ (z : bit_and v (3840 + f) ≡ f). omega (arith, u.small))

pub flag_tested : {f : ℕ} → Low f → (v : ℕ) (n : Source) → eqb (bit_and v (3840 + f)) f ≡ over (Awaited.Flag f n) v
unfolding over poll_error poll_ready has
flag_tested {f} u v n = both u v (v / 256 % 16) (v / f % 2) (omega (arith, u.some)) (masked v u) ∙ ap (λ (t : Bool). t && eqb (v / f % 2) 1) (sym (clean n v))

-- each flag that a wait waits for
pub waited_low : (f : ℕ) → waited_flag f ≡ true → Low f
waited_low f e = go (eqb f 1) (eqb f 2) (eqb f 4) (eqb f 64) (eqb f 128) refl refl refl refl refl e
  where
    low : (k w : ℕ) → 2 ^ k ≡ w → 2 ^ (1 + k) - 2 ^ k ≡ w → 0 < w → w < 256 → eqb f w ≡ true → Low f
    low k w p q o h e = rw (eqb-true f w e) (record { number = k; weight = p; alone = q; some = o; small = h })

    go : (a b c d g : Bool) → eqb f 1 ≡ a → eqb f 2 ≡ b → eqb f 4 ≡ c → eqb f 64 ≡ d → eqb f 128 ≡ g → a || b || c || d || g ≡ true → Low f
    go true b c d g ea eb ec ed eg u = low 0 1 refl refl (omega arith) (omega arith) ea
    go false true c d g ea eb ec ed eg u = low 1 2 refl refl (omega arith) (omega arith) eb
    go false false true d g ea eb ec ed eg u = low 2 4 refl refl (omega arith) (omega arith) ec
    go false false false true g ea eb ec ed eg u = low 6 64 refl refl (omega arith) (omega arith) ed
    go false false false false true ea eb ec ed eg u = low 7 128 refl refl (omega arith) (omega arith) eg
    go false false false false false ea eb ec ed eg u = absurd (let z : ◌≡◌ {A = ℕ} 0 1 = cc in omega arith)
