-- What document 02 promises of the longest operation (C-17).
use Rattle.std.specs.Prelude.{ℕ, ◌≤◌, ◌<◌, ◌≡◌, Bool, ◌||◌, List, ◌∷◌, ◌++◌, take, drop, length, cond, ltb}
use Rattle.buslist.specs.Table.{call_count, operation_count, operation_at}
use Rattle.buslist.specs.Form.{of_the_form}
use Rattle.buslist.specs.Refusal.{Cause, causes, first_cause, refusal}

-- what else cause 21 asks: list over 32,768 bytes, calls over 256, operations over 1,024
abbrev pub over_other_limit : List ℕ → Bool
over_other_limit l = ltb 32768 (length l) || ltb 256 (call_count l) || ltb 1024 (operation_count l)

-- the causes, with that alone in the place of 21
abbrev pub causes_without_length : List ℕ → ℕ → List Cause
causes_without_length l rx = take 1 (causes l rx) ++ record { number = 21; applies = over_other_limit l } ∷ drop 2 (causes l rx)

pub record Longest : Type 0 where
  -- an operation of 258 bytes is within the limit: where none is longer, 21 asks nothing of their lengths
  pub within : (l : List ℕ) (rx : ℕ) → ((j : ℕ) → j < operation_count l → (operation_at l j).length ≤ 258) → refusal l rx ≡ first_cause (causes_without_length l rx)
  -- a list with one of 259 or more is refused, also when it is a read: with 21 where the list is of the form, else with 20
  pub refused : (l : List ℕ) (rx j : ℕ) → j < operation_count l → 259 ≤ (operation_at l j).length → refusal l rx ≡ cond (of_the_form l) 21 20
