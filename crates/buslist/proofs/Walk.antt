-- The steps of walks over a table.
-- Assumes nothing.
use Prim.Native.Nat.{ℕ, zero, suc, ◌+◌, ◌-◌, ◌≤◌, ◌<◌}
use mathlib.Core.Path.{◌≡◌, refl, ap}
use mathlib.Core.List.{List, [], ◌∷◌}
use mathlib.Core.Bool.{Bool, true, false, cond, ◌&&◌, and-true, and-false}
use native.Mathlib.Omega.{arith}
use lib.ListN.{length, get_or-eq_default}
use lib.Dec.{eqb, eqb-suc-suc, eqb-suc-zero}
use Rattle.buslist.specs.declared.OperationEntry.{OperationEntry}
use Rattle.buslist.specs.Bytes.{byte, half, word}
use Rattle.buslist.specs.Table.{entries}
use Rattle.buslist.specs.Form.{write_direction, written, operation_right, operations_right, has_directions}

-- past the end every number is 0
pub byte_past : (l : List ℕ) (i : ℕ) → length l ≤ i → byte l i ≡ 0
byte_past l i h = get_or-eq_default l 0 {n = i} h

pub half_past : (l : List ℕ) (i : ℕ) → length l ≤ i → half l i ≡ 0
unfolding half
half_past l i h = omega (arith, byte_past l i h, byte_past l (i + 1) (omega arith))

pub word_past : (l : List ℕ) (i : ℕ) → length l ≤ i → word l i ≡ 0
unfolding word
word_past l i h = omega (arith, half_past l i h, half_past l (i + 2) (omega arith))

cond_le : (b : Bool) (n : ℕ) → cond b n 0 ≤ n
cond_le true n = omega arith
cond_le false n = omega arith

-- an operation has no more than its length
pub written_le : (o : OperationEntry) → written o ≤ o.length
unfolding written
written_le o = cond_le (write_direction o) o.length

module _ {A : Type 0} (entry : ℕ → A) (j n : ℕ) where
  pub entries_step : j < n → entries entry j (n - j) ≡ entry j ∷ entries entry (j + 1) (n - (j + 1))
  unfolding entries
  entries_step h =
      let e : n - j ≡ suc (n - (j + 1)) = omega arith in
      rw e

  pub entries_end : n ≤ j → entries entry j (n - j) ≡ []
  unfolding entries
  entries_end h =
      let e : n - j ≡ 0 = omega arith in
      rw e

pub length-entries : {A : Type 0} (entry : ℕ → A) (j n : ℕ) → length (entries entry j n) ≡ n
unfolding entries
length-entries entry j zero = refl
length-entries entry j (suc n) = ap suc (length-entries entry (j + 1) n)

-- the entries under the numbers of a range, as it gives one and when it is spent
module _ {A : Type 0} (entry : ℕ → A) where
  pub entries_taken : (j n k m : ℕ) {x : A} → 0 < n - j → k ≡ j + 1 → m ≡ n → x ≡ entry j → entries entry j (n - j) ≡ x ∷ entries entry k (m - k)
  entries_taken j n k m h i e x = rw (x, i, e) (entries_step entry j n (omega arith))

  pub entries_spent : (j n : ℕ) → n - j ≡ 0 → entries entry j (n - j) ≡ []
  entries_spent j n h = entries_end entry j n (omega arith)

pub operations_right_step : (entry : ℕ → OperationEntry) (j n : ℕ) → j < n → (total sum : ℕ)
    → operations_right total sum (entries entry j (n - j))
    ≡ (operation_right sum (entry j) && operations_right total (sum + written (entry j)) (entries entry (j + 1) (n - (j + 1))))
unfolding operations_right
operations_right_step entry j n h total sum = rw (entries_step entry j n h)

-- the directions of n operations, for one and for two
pub one-direction : (entry : ℕ → OperationEntry) (d j n : ℕ) → has_directions (d ∷ []) (entries entry j n) ≡ (eqb n 1 && eqb (entry j).direction d)
unfolding has_directions entries
one-direction entry d j zero = refl
one-direction entry d j (suc zero) = rw and-true
one-direction entry d j (suc (suc n)) = rw (and-false, eqb-suc-suc (suc n) 0, eqb-suc-zero n)

pub two_directions : (entry : ℕ → OperationEntry) (d e j n : ℕ) → has_directions (d ∷ e ∷ []) (entries entry j n) ≡ (eqb n 2 && (eqb (entry j).direction d && eqb (entry (j + 1)).direction e))
unfolding has_directions entries
two_directions entry d e j zero = refl
two_directions entry d e j (suc zero) = rw and-false
two_directions entry d e j (suc (suc zero)) = rw and-true
two_directions entry d e j (suc (suc (suc n))) = rw (and-false, and-false, eqb-suc-suc (suc (suc n)) 1, eqb-suc-suc (suc n) 0, eqb-suc-zero n)
