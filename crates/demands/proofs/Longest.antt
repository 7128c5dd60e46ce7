-- What document 02 promises of the longest operation.
-- Assumes nothing.
use Prim.Native.Nat.{ℕ, zero, suc, ◌+◌, ◌≤◌, ◌<◌}
use native.Mathlib.Omega.{arith}
use mathlib.Core.Bool.{Bool, true, false, not, cond, or-false}
use mathlib.Core.Path.{◌≡◌, refl}
use mathlib.Core.List.{List}
use borrow.Author.Tests.{ltb-false, le-ltb}
use Rattle.std.proofs.lemmas.Bool.{true_from_ne_false}
use Rattle.buslist.specs.Table.{operation_count, operation_at, entries, operations}
use Rattle.buslist.specs.Form.{of_the_form}
use Rattle.buslist.specs.Refusal.{any, longest_operation, too_long, over_limit, causes, first_cause, refusal}
use Rattle.buslist.proofs.Accept.{or_not_iff, entry_fails}
use Rattle.demands.specs.Longest.{Longest}

-- where each entry fails a test, none of them passes it
none_of : {A : Type 0} (test : A → Bool) (entry : ℕ → A) (j n : ℕ) → ((k : ℕ) → k < j + n → test (entry k) ≡ false) → any test (entries entry j n) ≡ false
unfolding any entries
none_of test entry j zero h = refl
none_of test entry j (suc n) h = rw (h j (omega arith)) (none_of test entry (j + 1) n (λ k below. h k (omega arith)))

module _ (l : List ℕ) where
  -- where no operation is longer than the longest, none is too long
  none_too_long : ((j : ℕ) → j < operation_count l → (operation_at l j).length ≤ longest_operation) → any too_long (operations l) ≡ false
  none_too_long h = none_of too_long (operation_at l) 0 (operation_count l) (λ k below. le-ltb longest_operation _ (h k (omega arith)))

  -- where one is, the list is over a limit
  one_too_long : (j : ℕ) → j < operation_count l → longest_operation < (operation_at l j).length → over_limit l ≡ true
  unfolding over_limit
  one_too_long j below h =
      true_from_ne_false _ (λ e. let f = simp or_not_iff at e in
      let short = ltb-false _ _ (entry_fails too_long (operation_at l) (operation_count l) j f.1 below) in omega (arith, h, short))

  -- then it is refused with 21, or with 20 before
  over_refused : (rx : ℕ) → over_limit l ≡ true → refusal l rx ≡ cond (of_the_form l) 21 20
  unfolding refusal causes first_cause
  over_refused rx e = rw e (by (of_the_form l))
    where
      by : (b : Bool) → ◌≡◌ {A = ℕ} (cond (not b) 20 21) (cond b 21 20)
      by true = refl
      by false = refl

pub longest : Longest
unfolding refusal causes first_cause over_limit
longest =
    record {
      within = λ l rx h. rw (none_too_long l (λ j below. omega (arith, h j below)), or-false) refl;
      refused = λ l rx j below h. over_refused l rx (one_too_long l j below (omega (arith, h)));
    }
