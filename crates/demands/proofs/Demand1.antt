-- Demand 1.
-- Assumes nothing.
use Prim.Native.Nat.{ℕ, zero, suc, ◌+◌, ◌≤◌}
use native.Mathlib.Omega.{arith}
use native.Mathlib.Numerals.{add-one}
use mathlib.Core.Bool.{Bool, true, false, cond, and-eq-true_iff, or-true}
use mathlib.Core.Path.{◌≡◌, refl, sym, ap, ◌∙◌}
use mathlib.Core.List.{List, [], ◌∷◌, ◌++◌, map, flatten}
use lib.ListN.{length, length-map}
use borrow.Author.Tests.{leb-true, le-leb}
use Rattle.units.specs.declared.Setup.{Setup}
use Rattle.units.specs.Setup.{setup_of}
use Rattle.buslist.specs.Table.{settings_of}
use Rattle.buslist.specs.Refusal.{refusal, causes, first_cause, Cause}
use Rattle.buslist.specs.Meaning.{calls_of}
use Rattle.registers.specs.declared.Entry.{Entry}
use Rattle.registers.specs.Access.{Access, Ending, is_read, cut, entries_in, words_in, record_of, received_of, reads, number}
use Rattle.registers.specs.Machine.{Step, perform, no_room, exec, exec_on, exec_full, bring_up, Run, after_call, after_bring_up, whole_run, run as calls}
use Rattle.calls.specs.Calls.{steps_of}
use Rattle.engine.specs.Run.{result, accepted_run, filled}
use Rattle.demands.specs.Demand1.{is_cause, answer, answered, LacksReading, LacksRoom, Demand1}
use Rattle.demands.proofs.Shape.{All, none, more}
use Rattle.engine.proofs.Goes.{Goes, done, halted, full, lacks, wrote, took, error_number, shortage_number, whole_goes, goes_room}
use Rattle.engine.proofs.Received.{received-fits}
use Rattle.engine.proofs.Result.{run_of_calls, accepted_is, refused_is}

-- a run's number is at most 10
number_small : (e : Ending) → number e ≤ 10
unfolding number
number_small Ending.well = omega arith
number_small (Ending.failed e) = omega (arith, error_number e)
number_small (Ending.cut_short c) = (shortage_number c).1

-- the first cause is one of the causes, or 0
first_is_cause : {cs : List Cause} → All (λ c. is_cause c.number ≡ true) cs → (first_cause cs ≡ 0 → ⊥) → is_cause (first_cause cs) ≡ true
unfolding first_cause
first_is_cause none h = absurd (h refl)
first_is_cause (more {a = c} {rest = cs} k ks) h = go c.applies (first_is_cause ks) h
  where
    go : (b : Bool) → ((first_cause cs ≡ 0 → ⊥) → is_cause (first_cause cs) ≡ true)
        → (cond b c.number (first_cause cs) ≡ 0 → ⊥) → is_cause (cond b c.number (first_cause cs)) ≡ true
    go true rest h = k
    go false rest h = rest h

refusal-is_cause : (l : List ℕ) (rx : ℕ) → (refusal l rx ≡ 0 → ⊥) → is_cause (refusal l rx) ≡ true
unfolding refusal causes
refusal-is_cause l rx = first_is_cause (more refl (more refl (more refl (more refl (more refl (more refl (more refl (more refl none))))))))

-- a log that these readings answer
pub record Taken (es : List Entry) (rs : List ℕ) : Type 0 where
  pub answers : answered es rs ≡ es
  pub enough : reads es ≤ length rs

taken_none : (rs : List ℕ) → Taken [] rs
unfolding answered reads
taken_none rs = record { answers = refl; enough = omega arith }

taken-read : (c w : ℕ) (es : List Entry) (ws : List ℕ) → is_read c ≡ true → Taken es ws → Taken (record { code = c; value = cut c w } ∷ es) (w ∷ ws)
unfolding answered answer reads
taken-read c w es ws t h = record { answers = rw (t, h.answers); enough = rw t (omega (arith, h.enough)) }

taken-write : (c v : ℕ) (es : List Entry) (rs : List ℕ) → is_read c ≡ false → Taken es rs → Taken (record { code = c; value = v } ∷ es) rs
unfolding answered answer reads
taken-write c v es rs t h = record { answers = rw (t, h.answers); enough = rw t (omega (arith, h.enough)) }

-- steps take their readings in turn
goes_taken : {s : Setup} {p : List Step} {n : ℕ} {rs : List ℕ} {l : List Entry} {e : Ending} → Goes s p n rs l e → Taken l rs
goes_taken done = taken_none _
goes_taken (halted e a) = taken_none _
goes_taken (full a k) = taken_none _
goes_taken (lacks r a t) = taken_none _
goes_taken (wrote r v a t g) = taken-write r v _ _ t (goes_taken g)
goes_taken (took r w a t g) = taken-read r w _ _ t (goes_taken g)

-- what steps log is what the machine logs
goes_log : {s : Setup} {p : List Step} {n : ℕ} {rs : List ℕ} {l : List Entry} {e : Ending} → Goes s p n rs l e → (exec s n p rs).log ≡ l
unfolding exec exec_on exec_full perform no_room
goes_log (done {n = zero}) = refl
goes_log (done {n = suc n}) = refl
goes_log (halted {n = zero} e a) = rw a
goes_log (halted {n = suc n} e a) = rw a
goes_log (full a k) = rw k
goes_log (lacks r a t) = rw a
goes_log (wrote r v a t g) = rw (a, goes_log g)
goes_log (took r w a t g) = rw (a, goes_log g)

-- a log lacks a reading with one more entry before it, and with the same longer logs
lacks_more : {l : List Entry} {rs rs' : List ℕ} {n : ℕ} {f g : ℕ → List Entry} (e : Entry) → LacksReading l rs n f → reads (e ∷ l) ≡ length rs'
    → ((w : ℕ) → g w ≡ e ∷ f w) → LacksReading (e ∷ l) rs' (suc n) g
lacks_more e k used first =
    record {
      all_used = used;
      fits = omega (arith, k.fits);
      code = k.code;
      of_read = k.of_read;
      next = λ w. let h = rw add-one at (k.next w) in rw (first w, add-one, h);
    }

lacks_same : {l : List Entry} {rs : List ℕ} {n : ℕ} {f g : ℕ → List Entry} → LacksReading l rs n f → ((w : ℕ) → g w ≡ f w) → LacksReading l rs n g
lacks_same k same = record { all_used = k.all_used; fits = k.fits; code = k.code; of_read = k.of_read; next = λ w. rw (same w) (k.next w) }

-- steps that lack a reading
goes_lacks : {s : Setup} {p : List Step} {n : ℕ} {rs : List ℕ} {l : List Entry} {e : Ending} → Goes s p n rs l e → number e ≡ 9
    → LacksReading l rs n (λ w. (exec s n p (rs ++ w ∷ [])).log)
unfolding number reads exec exec_on perform
goes_lacks done z = absurd (omega arith)
goes_lacks (halted e a) z = absurd (omega (arith, error_number e))
goes_lacks (full a k) z = absurd (omega arith)
goes_lacks (lacks r a t) z = record { all_used = refl; fits = omega arith; code = r; of_read = t; next = λ w. rw a }
goes_lacks (wrote r v a t g) z = let k = goes_lacks g z in lacks_more _ k (rw t (omega (arith, k.all_used))) (λ w. rw a)
goes_lacks (took r v a t g) z = let k = goes_lacks g z in lacks_more _ k (rw t (omega (arith, k.all_used))) (λ w. rw a)

-- a log lacks room with one more entry before it, and with the same longer logs
room_more : {l : List Entry} {n : ℕ} {x : Ending} {f g : ℕ → List Entry} (e : Entry) → LacksRoom l n x f → ((w : ℕ) → g w ≡ e ∷ f w) → LacksRoom (e ∷ l) (suc n) x g
room_more e k first =
    record {
      full = ap suc k.full;
      wanted = k.wanted;
      named = k.named;
      value = k.value;
      next = λ w. let h = rw add-one at (k.next w) in rw (first w, add-one, h);
    }

room_same : {l : List Entry} {n : ℕ} {x : Ending} {f g : ℕ → List Entry} → LacksRoom l n x f → ((w : ℕ) → g w ≡ f w) → LacksRoom l n x g
room_same k same = record { full = k.full; wanted = k.wanted; named = k.named; value = k.value; next = λ w. rw (same w) (k.next w) }

-- steps that lack room
goes_short : {s : Setup} {p : List Step} {n : ℕ} {rs : List ℕ} {l : List Entry} {e : Ending} → Goes s p n rs l e → number e ≡ 10
    → LacksRoom l n e (λ w. (exec s (suc n) p (rs ++ w ∷ [])).log)
unfolding number exec exec_on perform
goes_short done z = absurd (omega arith)
goes_short (halted e a) z = absurd (omega (arith, error_number e))
goes_short (full {rs = rs} (Access.write r v) k) z = record { full = refl; wanted = Access.write r v; named = refl; value = λ w. 0; next = λ w. rw k }
goes_short (full {rs = []} (Access.read r) k) z = record { full = refl; wanted = Access.read r; named = refl; value = λ w. cut r w; next = λ w. rw k }
goes_short (full {rs = x ∷ rs} (Access.read r) k) z = record { full = refl; wanted = Access.read r; named = refl; value = λ w. cut r x; next = λ w. rw k }
goes_short (lacks r a t) z = absurd (omega arith)
goes_short (wrote r v a t g) z = room_more _ (goes_short g z) (λ w. rw a)
goes_short (took r v a t g) z = room_more _ (goes_short g z) (λ w. rw a)

-- of n calls so many ended well, and these were begun
pub record Counted (n : ℕ) (e : Ending) (k : ℕ) (parts : List (List Entry)) : Type 0 where
  pub low : k ≤ length parts
  pub high : length parts ≤ k + 1
  pub all : number e ≡ 0 → k ≡ n

run_counted : (s : Setup) (cs : List (List Step)) (n : ℕ) (rs : List ℕ) → let r = calls s cs n rs in Counted (length cs) r.ending r.calls r.begun
unfolding calls after_call
run_counted s [] n rs = record { low = omega arith; high = omega arith; all = λ z. refl }
run_counted s (c ∷ cs) n rs = go (exec s n c rs).log (exec s n c rs).ending _ (run_counted s cs _ _)
  where
    go : (l : List Entry) (e : Ending) (r : Run) → Counted (length cs) r.ending r.calls r.begun
        → let r = after_call l e r in Counted (suc (length cs)) r.ending r.calls r.begun
    go l Ending.well r k = record { low = omega (arith, k.low); high = omega (arith, k.high); all = λ z. ap suc (k.all z) }
    go l (Ending.failed e) r k = record { low = omega arith; high = omega arith; all = λ z. absurd (omega (arith, error_number e)) }
    go l (Ending.cut_short c) r k = record { low = omega arith; high = omega arith; all = λ z. absurd (omega (arith, shortage_number c)) }

whole_counted : (s : Setup) (cs : List (List Step)) (n : ℕ) (rs : List ℕ) → let r = whole_run s cs n rs in Counted (length cs) r.ending r.calls r.log.begun
unfolding whole_run after_bring_up
whole_counted s cs n rs = go (exec s n (bring_up s) rs).log (exec s n (bring_up s) rs).ending _ (run_counted s cs _ _)
  where
    go : (l : List Entry) (e : Ending) (r : Run) → Counted (length cs) r.ending r.calls r.begun
        → let r = after_bring_up l e r in Counted (length cs) r.ending r.calls r.log.begun
    go l Ending.well r k = k
    go l (Ending.failed e) r k = record { low = omega arith; high = omega arith; all = λ z. absurd (omega (arith, error_number e)) }
    go l (Ending.cut_short c) r k = record { low = omega arith; high = omega arith; all = λ z. absurd (omega (arith, shortage_number c)) }

-- demand 1, of an accepted list and of a refused one
module _ (list readings : List ℕ) (rx words : ℕ) where
  of_accepted : refusal list rx ≡ 0 → Demand1 list readings rx words
  unfolding result accepted_run
  of_accepted ok =
      let s : Setup = setup_of (settings_of list) in
      let e = accepted_is list readings rx words ok refl in
      let g = whole_goes s (calls_of list) (entries_in words) readings in
      let k = whole_counted s (map (steps_of s) (calls_of list)) (entries_in words) readings in
      let small = number_small (run_of_calls (settings_of list) (calls_of list) words readings).ending in
      record {
        answer = rw (e, le-leb _ 10 small);
        accepted = λ ok. rw e small;
        refused = λ h. absurd (h ok);
        unchanged = λ h. absurd (h ok);
        well = λ z. rw e (k.all (rw e at z) ∙ length-map (calls_of list) (steps_of s));
        no_reading = λ z. rw e (lacks_same (goes_lacks g (rw e at z)) (λ w.
            rw (accepted_is list (readings ++ w ∷ []) rx words ok refl) (sym (goes_log (whole_goes s (calls_of list) (entries_in words) (readings ++ w ∷ []))))));
        no_record = λ z. rw e (room_same (goes_short g (rw e at z)) (λ w.
            let more : entries_in (words + words_in 1) ≡ suc (entries_in words) = omega arith in
            rw (accepted_is list (readings ++ w ∷ []) rx (words + words_in 1) ok refl, more)
            (sym (goes_log (whole_goes s (calls_of list) (suc (entries_in words)) (readings ++ w ∷ []))))));
        begun = rw e (k.low, k.high);
        taken = rw e (goes_taken g).answers;
        made = rw e (goes_room g);
        used = rw e (goes_taken g).enough;
        got = rw e (received-fits list rx ok s (entries_in words) readings);
      }

  of_refused : (refusal list rx ≡ 0 → ⊥) → Demand1 list readings rx words
  unfolding filled flatten record_of received_of reads answered
  of_refused h =
      let e = refused_is list readings rx words h in
      let c = refusal-is_cause list rx h in
      let high = leb-true 20 (refusal list rx) (simp and-eq-true_iff at c).0 in
      record {
        answer = rw (e, c, or-true);
        accepted = λ ok. absurd (h ok);
        refused = λ h. (rw e high, rw e, rw e, rw e);
        unchanged = λ h buffer. rw e (refl, refl);
        well = λ z. absurd (omega (arith, rw e at z));
        no_reading = λ z. absurd (omega (arith, rw e at z));
        no_record = λ z. absurd (omega (arith, rw e at z));
        begun = rw e (omega arith, omega arith);
        taken = rw e;
        made = rw e (omega arith);
        used = rw e (omega arith);
        got = rw e (omega arith);
      }

  pub demand_1 : Demand1 list readings rx words
  demand_1 = go (refusal list rx) refl
    where
      go : (n : ℕ) → refusal list rx ≡ n → Demand1 list readings rx words
      go zero e = of_accepted e
      go (suc n) e = of_refused (λ z. omega arith)
