-- The table has the words that it must have. Assumes nothing.
use Prim.Native.Nat.{ℕ, ◌<◌, ◌≤◌}
use mathlib.Core.Path.{◌≡◌, refl, sym, ap, ◌∙◌}
use Rattle.std.specs.Prelude.{length, get_or, slice_get, Some, None}
use Rattle.std.proofs.lemmas.Option.{slice_get-get_or, slice_get_past}
use Rattle.speed_words.specs.declared.table.TheConstants.{SPEED_WORDS}
use Rattle.speed_words.specs.Table.{megahertz, Speed, speeds, word_of, speed_words, index_of}
use Rattle.speed_words.proofs.Rule.{rule}

-- the whole table is what it must be: the checker computes both sides
pub table_right : SPEED_WORDS ≡ speed_words
table_right = refl

-- so each entry is
pub entry_right : (index d : ℕ) → index < length SPEED_WORDS → Some (get_or SPEED_WORDS index d) ≡ slice_get speed_words index
entry_right index d h = sym (slice_get-get_or SPEED_WORDS index d h) ∙ ap (λ words. slice_get words index) table_right

-- and past the end there is none
pub past_end : (index : ℕ) → length SPEED_WORDS ≤ index → None ≡ slice_get speed_words index
past_end index h = sym (slice_get_past SPEED_WORDS index h) ∙ ap (λ words. slice_get words index) table_right

-- and by the rule it is the CCR word of its clock and its speed
pub table_rule : (clock number : ℕ) (speed : Speed) → 2 ≤ clock → clock ≤ 36 → slice_get speeds number ≡ Some speed
    → slice_get SPEED_WORDS (index_of clock number) ≡ Some (word_of (megahertz clock) speed)
table_rule clock number speed least most h = ap (λ words. slice_get words (index_of clock number)) table_right ∙ rule clock number speed least most h
