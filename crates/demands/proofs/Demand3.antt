-- Demand 3, for two lists of bytes.
-- Assumes nothing.
use Prim.Native.Nat.{ℕ}
use native.Mathlib.Omega.{arith}
use mathlib.Core.Path.{◌≡◌, refl, ap₂}
use mathlib.Core.List.{List, [], ◌∷◌}
use Rattle.units.specs.Setup.{setup_of}
use Rattle.buslist.specs.Table.{settings_of}
use Rattle.buslist.specs.Meaning.{calls_of}
use Rattle.registers.specs.declared.Entry.{Entry}
use Rattle.registers.specs.Access.{entries_in, record_of}
use Rattle.engine.specs.Run.{result}
use Rattle.demands.specs.Compare.{idle, polls_empty_read, settings_words, Demand3}
use Rattle.engine.proofs.Result.{accepted_is}
use Rattle.demands.proofs.Same.{same_steps}
use Rattle.demands.proofs.Reduced.{told_apart}
use Rattle.demands.proofs.Listed.{of_kind, each_fails, sound}

-- a record is of one log
record_injective : (l k : List Entry) → record_of l ≡ record_of k → l ≡ k
unfolding record_of
record_injective [] [] e = refl
record_injective [] (m ∷ k) e = let z : ◌≡◌ {A = ℕ} 0 1 = cc in absurd (omega arith)
record_injective (m ∷ l) [] e = let z : ◌≡◌ {A = ℕ} 0 1 = cc in absurd (omega arith)
record_injective (m ∷ l) (n ∷ k) e =
    let c : m.code ≡ n.code = cc in
    let v : m.value ≡ n.value = cc in
    let r : record_of l ≡ record_of k = cc in
    ap₂ ◌∷◌ (λ i. record { code = c i; value = v i }) (record_injective l k r)

-- equal settings words are equal settings
same_settings : (l m : List ℕ) → settings_words l ≡ settings_words m → settings_of l ≡ settings_of m
unfolding settings_of
same_settings l m e = cc

pub demand_3 : Demand3
unfolding result
demand_3 =
    record {
      told_apart = λ l m c readings readings' rx rx' words words' ok ok' ends ends' same.
          let s = same_settings l m c.settings in
          let r = accepted_is l readings rx words ok s in
          let r' = accepted_is m readings' rx' words' ok' refl in
          told_apart (setup_of (settings_of m)) (calls_of l) (calls_of m) (of_kind l rx ok) (of_kind m rx' ok')
          (each_fails idle (calls_of l) c.busy) (each_fails idle (calls_of m) c.busy')
          (entries_in words) (entries_in words') readings readings'
          (rw r at ends) (rw r' at ends') (record_injective _ _ (rw (r, r') at same));
      same_run = λ l m c same full full' readings rx words ok ok'.
          let s = same_settings l m c.settings in
          let hl = sound (of_kind l rx ok) (each_fails polls_empty_read (calls_of l) full) in
          let hm = sound (of_kind m rx ok') (each_fails polls_empty_read (calls_of m) full') in
          rw (accepted_is l readings rx words ok s, accepted_is m readings rx words ok' refl, same_steps (setup_of (settings_of m)) hl hm same)
          (record { counts = refl; record_words = refl; received_bytes = refl });
    }
