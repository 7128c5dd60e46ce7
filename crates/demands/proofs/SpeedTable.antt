-- What document 02 promises of the table of usual speeds. Assumes nothing.
use Prim.Native.Nat.{ℕ, ◌≤◌}
use mathlib.Core.Path.{◌≡◌, refl, sym, ap, ◌∙◌}
use Rattle.std.specs.Prelude.{false, not, get_or, slice_get, Some}
use Rattle.std.specs.Option.{unwrap_or}
use Rattle.std.proofs.lemmas.Option.{slice_get_past, slice_get_within, get_or_from_slice_get}
use Rattle.std.proofs.lemmas.List.Sums.{AllPass-from_list_all}
use Rattle.std.proofs.lemmas.Bool.{not-true}
use Rattle.units.specs.Setup.{setup_of}
use Rattle.units.specs.declared.Hertz.{Hertz}
use Rattle.units.specs.declared.DutyCycle.TheVariants.{Ratio2to1, Ratio16to9}
use Rattle.units.specs.declared.Mode.{Mode}
use Rattle.units.specs.declared.Mode.TheVariants.{Standard, Fast}
use Rattle.units.specs.Speed.{mode_number, frequency_out, ccr_word}
use Rattle.speed_words.specs.Table.{megahertz, Speed, speeds, word_of, speed_words, index_of}
use Rattle.speed_words.proofs.Rule.{rule}
use Rattle.engine.specs.Speed.{hertz, speed_ccr, speed_table}
use Rattle.demands.specs.SpeedTable.{SpeedTable}

-- the word at an entry
word_at : (clock number : ℕ) (speed : Speed) → 2 ≤ clock → clock ≤ 36 → slice_get speeds number ≡ Some speed
    → speed_table (index_of clock number) ≡ word_of (megahertz clock) speed
word_at clock number speed least most h = ap (λ o. unwrap_or o 4294967295) (rule clock number speed least most h)

-- an exported CCR word of settings in range
exported_word : (n : ℕ) (m : Mode) (f : Hertz) → frequency_out f ≡ false → speed_ccr n (mode_number m) f.0 ≡ ccr_word (hertz n) m f
exported_word n Standard f h = rw h
exported_word n (Fast Ratio2to1) f h = rw h
exported_word n (Fast Ratio16to9) f h = rw h

-- no speed of the table is one of cause 22
in_range : (number : ℕ) (speed : Speed) → slice_get speeds number ≡ Some speed → frequency_out speed.frequency ≡ false
in_range number speed h =
    let all = AllPass-from_list_all (λ s. not (frequency_out s.frequency)) speeds refl in
    let here : get_or speeds number speed ≡ speed = get_or_from_slice_get speeds number speed speed h in
    not-true _ (ap (λ s. not (frequency_out s.frequency)) (sym here) ∙ all number speed (slice_get_within speeds number speed h))

pub speed_table_right : SpeedTable
unfolding setup_of
speed_table_right = record {
  exported = λ clock number speed least most h.
      word_at clock number speed least most h ∙ sym (exported_word (megahertz clock).0 speed.mode speed.frequency (in_range number speed h));
  brought_up = λ clock number s least most same h.
      word_at clock number _ least most h ∙ ap (λ pclk1. ccr_word pclk1 s.mode s.frequency) (sym same);
  past = λ index h. ap (λ o. unwrap_or o 4294967295) (slice_get_past speed_words index h);
}
