-- Where the word of a clock and a speed stands in the table. Assumes nothing.
use Prim.Native.Nat.{ℕ, zero, suc, ◌+◌, ◌-◌, ◌*◌, ◌<◌, ◌≤◌}
use native.Mathlib.Omega.{arith}
use mathlib.Core.Path.{◌≡◌, refl, ap, ◌∙◌}
use mathlib.Core.List.{List, [], ◌∷◌}
use Rattle.std.specs.Prelude.{length, get_or, slice_get, Some}
use Rattle.std.specs.List.{flat_map}
use Rattle.std.proofs.Math.Nat.{mul-suc}
use Rattle.std.proofs.lemmas.Option.{slice_get-get_or, slice_get_within, get_or_from_slice_get}
use Rattle.std.proofs.lemmas.List.{get_or_append_left, get_or-append-add, get_or-map}
use Rattle.std.proofs.lemmas.List.FromFn.{get_or-map-range_with_len}
use Rattle.speed_words.specs.Table.{megahertz, Speed, speeds, clocks, word_of, words_of, speed_words, index_of}

-- in a list of rows of one length, the j-th of the i-th row
row_at : {X A : Type 0} (row : X → List A) (n : ℕ) → ((x : X) → length (row x) ≡ n) → (xs : List X) (i j : ℕ) (x : X) (d : A)
    → i < length xs → j < n → get_or (flat_map row xs) (n * i + j) d ≡ get_or (row (get_or xs i x)) j d
row_at row n long [] i j x d inside h = absurd (omega (arith, inside))
row_at row n long (y ∷ ys) zero j x d inside h =
    let place : n * 0 + j ≡ j = omega arith in
    rw place (get_or_append_left (row y) (flat_map row ys) d j (omega (arith, long y, h)))
row_at row n long (y ∷ ys) (suc i) j x d inside h =
    let place : n * suc i + j ≡ length (row y) + (n * i + j) = omega (arith, mul-suc n i, long y) in
    rw (place, get_or-append-add (row y) (flat_map row ys) (n * i + j) d, row_at row n long ys i j x d (omega (arith, inside)) h)

-- the rule: entry 12 × (clock − 2) + number is the CCR word of that clock and that speed
pub rule : (clock number : ℕ) (speed : Speed) → 2 ≤ clock → clock ≤ 36 → slice_get speeds number ≡ Some speed
    → slice_get speed_words (index_of clock number) ≡ Some (word_of (megahertz clock) speed)
rule clock number speed least most h =
    let below : number < 12 = slice_get_within speeds number speed h in
    let row = clock - 2 in
    let pclk1 : get_or clocks row (megahertz 0) ≡ megahertz clock = get_or-map-range_with_len megahertz 2 35 row clock (megahertz 0) (omega (arith, most)) (omega (arith, least)) in
    slice_get-get_or speed_words (index_of clock number) 0 (omega (arith, below, most))
    ∙ ap Some (row_at words_of 12 (λ x. refl) clocks row number (megahertz 0) 0 (omega (arith, most)) below
    ∙ ap (λ c. get_or (words_of c) number 0) pclk1
    ∙ get_or-map (word_of (megahertz clock)) speeds number speed 0 below
    ∙ ap (word_of (megahertz clock)) (get_or_from_slice_get speeds number speed speed h))
