-- Clearing one flag keeps the others.
-- Assumes nothing.
use Prim.Native.Nat.{ℕ, zero, suc}
use native.Mathlib.Omega.{arith}
use mathlib.Core.Bool.{true, false, cond}
use mathlib.Core.Path.{◌≡◌, refl, sym, ap, ◌∙◌}
use mathlib.Core.List.{List, [], ◌∷◌, ◌++◌, append-nil, append_assoc, map, flatten}
use lib.Dec.{eqb}
use Rattle.units.specs.declared.Setup.{Setup}
use Rattle.units.specs.Setup.{setup_of}
use Rattle.buslist.specs.Table.{settings_of}
use Rattle.buslist.specs.Refusal.{refusal}
use Rattle.buslist.specs.Meaning.{calls_of}
use Rattle.registers.specs.declared.BusError.{BusError}
use Rattle.registers.specs.declared.Entry.{Entry}
use Rattle.registers.specs.Word.{has, without_bit}
use Rattle.registers.specs.Access.{wSR1, cut, Access, code_of, Ending, entries_in, flag_of, clear_word}
use Rattle.registers.specs.Machine.{Step, Act, access, next, clear, bring_up, after_check, after_poll}
use Rattle.calls.specs.Calls.{steps_of}
use Rattle.engine.specs.Run.{result}
use Rattle.demands.specs.Demand1.{accesses}
use Rattle.demands.specs.Clearing.{Shows, Clears, plain, one_flag, Clearing}
use Rattle.engine.proofs.Plan.{Weights, total, total_append, access_total, Follows, weightless, clearing, next_follows, bring_up_none, calls_none}
use Rattle.engine.proofs.Goes.{Goes, done, halted, full, lacks, wrote, took, whole_goes, all_steps}
use Rattle.engine.proofs.Result.{accepted_is, refused_is}

-- an SR1 write weighs its value
abbrev P : ℕ → ℕ → ℕ
P code value = cond (eqb code wSR1) value 0

abbrev G : ℕ → ℕ
G code = 0

abbrev sr1_weights : Weights P G
sr1_weights = record { cr1 = λ v. refl; cr2 = λ v. refl; ccr = λ v. refl; trise = λ v. refl; sr1 = refl; dr = λ v. refl; get_sr1 = refl; get_sr2 = refl; get_cr1 = refl; get_cyc = refl }

-- what these steps write to SR1, added up
abbrev sr1_writes : List Step → ℕ
sr1_writes p = total P G sr1_weights p

abbrev entry : ℕ → ℕ → Entry
entry c v = record { code = c; value = v }

-- steps that are left after these accesses: no SR1 write but of 0; or first the clear of a flag that was just shown
data Left (before : List Entry) : List Step → Type 0 where
  zeros : {p : List Step} → sr1_writes p ≡ 0 → Left before p
  clears : {p : List Step} (e : BusError) → Shows before (flag_of e) → sr1_writes p ≡ 0 → Left before (clear e ∷ p)

-- past the first step the SR1 writes that are left are of 0
rest_zeros : {before : List Entry} {i : Step} {p : List Step} → Left before (i ∷ p) → sr1_writes p ≡ 0
unfolding total
rest_zeros {i} {p} (zeros z) = omega (arith, z)
rest_zeros (clears e f z) = z

-- what is left once the access of the first step is made
left_after : (s : Setup) {before : List Entry} {i : Step} {p : List Step} {a : Access} (v : ℕ) → access i ≡ Act.make a → Left before (i ∷ p)
    → Left (before ++ entry (code_of a) v ∷ []) (next s i v ++ p)
left_after s {before} {i} {p} {a} v h left = go (rw h at (next_follows P G sr1_weights s i v))
  where
    go : {q : List Step} → Follows P G sr1_weights (code_of a) v q → Left (before ++ entry (code_of a) v ∷ []) (q ++ p)
    go {q} (weightless z) = zeros (total_append P G sr1_weights q p ∙ omega (arith, z, rest_zeros left))
    go (clearing {p = q} e k f z) =
        clears e (record { earlier = before; word = v; last = rw k; set = f }) (total_append P G sr1_weights q p ∙ omega (arith, z, rest_zeros left))

-- the SR1 write that a step makes
this_clears : {before : List Entry} {i : Step} {p : List Step} (v : ℕ) → Left before (i ∷ p) → access i ≡ Act.make (Access.write wSR1 v) → Clears before v
unfolding total
this_clears {i} v (zeros z) a = let k : v ≡ 0 = omega (arith, rw a at (access_total P G sr1_weights i), z) in rw k plain
this_clears v (clears e f z) a = let k : v ≡ clear_word e = cc in rw k (one_flag e f)

-- nothing stands in an empty log
none_in : (before rest : List Entry) (e : Entry) → [] ≡ before ++ e ∷ rest → ⊥
none_in [] rest e h = absurd cc
none_in (b ∷ bs) rest e h = absurd cc

goes_clears : {s : Setup} {p : List Step} {n : ℕ} {rs : List ℕ} {l : List Entry} {x : Ending} → Goes s p n rs l x → (so_far : List Entry) → Left so_far p
    → (before rest : List Entry) (value : ℕ) → l ≡ before ++ entry wSR1 value ∷ rest → Clears (so_far ++ before) value
goes_clears done so_far left before rest value h = absurd (none_in before rest _ h)
goes_clears (halted e a) so_far left before rest value h = absurd (none_in before rest _ h)
goes_clears (full a k) so_far left before rest value h = absurd (none_in before rest _ h)
goes_clears (lacks r a t) so_far left before rest value h = absurd (none_in before rest _ h)
goes_clears (wrote r v a t g) so_far left [] rest value h =
    let k : entry r v ≡ entry wSR1 value = cc in
    let c : r ≡ wSR1 = ap (λ e. e.code) k in
    let d : v ≡ value = ap (λ e. e.value) k in
    rw (append-nil, ← d) (this_clears v left (rw c at a))
goes_clears (wrote r v a t g) so_far left (b ∷ bs) rest value h =
    let k : entry r v ≡ b = cc in
    rw (← k) (rw append_assoc at (goes_clears g (so_far ++ entry r v ∷ []) (left_after _ v a left) bs rest value cc))
goes_clears (took r w a t g) so_far left [] rest value h =
    let k : entry r (cut r w) ≡ entry wSR1 value = cc in
    let c : r ≡ wSR1 = ap (λ e. e.code) k in
    let f : true ≡ false = sym t ∙ rw c in
    absurd cc
goes_clears (took r w a t g) so_far left (b ∷ bs) rest value h =
    let k : entry r (cut r w) ≡ b = cc in
    rw (← k) (rw append_assoc at (goes_clears g (so_far ++ entry r (cut r w) ∷ []) (left_after _ (cut r w) a left) bs rest value cc))

run_clears : (list readings : List ℕ) (rx words : ℕ) (before rest : List Entry) (value : ℕ)
    → accesses list readings rx words ≡ before ++ entry wSR1 value ∷ rest → Clears before value
unfolding result flatten
run_clears list readings rx words before rest value h = go (refusal list rx) refl
  where
    go : (n : ℕ) → refusal list rx ≡ n → Clears before value
    go zero ok =
        let s : Setup = setup_of (settings_of list) in
        let planned : sr1_writes (all_steps s (calls_of list)) ≡ 0 =
        total_append P G sr1_weights (bring_up s) (flatten (map (steps_of s) (calls_of list)))
        ∙ omega (arith, bring_up_none P G sr1_weights s, calls_none P G sr1_weights refl s (calls_of list)) in
        goes_clears (whole_goes s (calls_of list) (entries_in words) readings) [] (zeros planned) before rest value (rw (accepted_is list readings rx words ok refl) at h)
    go (suc n) e = absurd (none_in before rest _ (rw (refused_is list readings rx words (λ z. omega arith)) at h))

pub clearing_right : Clearing
unfolding clear_word flag_of without_bit has after_check after_poll next
clearing_right =
    record {
      without = λ e. refl;
      overrun = refl;
      no_acknowledge = λ n. refl;
      arbitration_loss = refl;
      bus = refl;
      crc = refl;
      timeout = refl;
      checked = λ n v e p h. rw h;
      checked_berr = λ n v p h t. rw (h, t);
      polled = λ s h n v e ready later k. rw k;
      timed_out = λ s a l h start now t. rw t;
      before_start = λ on. refl;
      writes = run_clears;
    }
