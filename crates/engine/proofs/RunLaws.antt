-- A run's states and its log: the run that the machine makes, on the caller's buffers.
-- Assumes nothing.
use Prim.Native.Nat.{ℕ, suc, ◌+◌, ◌-◌, ◌≤◌}
use native.Mathlib.Omega.{arith}
use native.Mathlib.Numerals.{one-add, add-one}
use native.Mathlib.Nat.{add-zero, zero-add}
use mathlib.Core.Bool.{Bool, true, false, cond}
use mathlib.Core.Path.{◌≡◌, refl, sym, ◌∙◌}
use mathlib.Core.List.{List, [], ◌∷◌, ◌++◌, flatten, append-nil}
use lib.ListN.{length, set, drop}
use lib.Seq.{drop-drop, sets, sets-eq}
use Rattle.units.specs.declared.Setup.{Setup}
use Rattle.registers.specs.declared.Progress.{Progress}
use Rattle.registers.specs.declared.Entry.{Entry}
use Rattle.registers.specs.Access.{Ending, number, is_read, is_data, low_byte, words_in, store, record_of, reads, received_of}
use Rattle.registers.specs.Machine.{Step, exec, run, after_call, flat, after_bring_up, whole_run, bring_up}
use Rattle.registers.specs.State.{State, at, recorded, received, replay, room, left, after, resume}
use Rattle.registers.proofs.Laws.{room-recorded, room-received}
use Rattle.engine.specs.Run.{filled}
use Rattle.calls.specs.Whole.{Final, after_calls, calls_run}

replay-append : (a b : List Entry) (st : State) → replay (a ++ b) st ≡ replay b (replay a st)
unfolding replay
replay-append [] b st = refl
replay-append (e ∷ a) b st = replay-append a b (received e (recorded e st))

room-one : (e : Entry) (st : State) → room (received e (recorded e st)) ≡ room st - 1
room-one e st = room-received e (recorded e st) ∙ room-recorded e st

room-replay : (es : List Entry) (st : State) → room (replay es st) ≡ room st - length es
unfolding replay
room-replay [] st = omega arith
room-replay (e ∷ es) st = omega (arith, room-replay es (received e (recorded e st)), room-one e st)

left_one : (e : Entry) (st : State) → left (received e (recorded e st)) ≡ drop (cond (is_read e.code) 1 0) (left st)
unfolding left recorded received
left_one e (at rs lg rx b) = go (is_read e.code)
  where
    go : (t : Bool) → drop (cond t (b.used + 1) b.used) rs ≡ drop (cond t 1 0) (drop b.used rs)
    go true = sym (drop-drop 1 b.used rs)
    go false = refl

left-replay : (es : List Entry) (st : State) → left (replay es st) ≡ drop (reads es) (left st)
unfolding replay reads
left-replay [] st = refl
left-replay (e ∷ es) st =
    let n : ℕ = cond (is_read e.code) 1 0 in
    left-replay es (received e (recorded e st)) ∙ rw (left_one e st) (drop-drop (reads es) n (left st))

-- a run that ends so, after so many calls, on a state that its log is replayed on
abbrev pub final_of : State → Ending → ℕ → List Entry → Final
final_of st e k log = record { answer = number e; calls = k; state = replay log st }

pub calls_run_is : (s : Setup) (cs : List (List Step)) (st : State)
    → let r = run s cs (room st) (left st) in calls_run s cs st ≡ final_of st r.ending r.calls (flatten r.begun)
unfolding calls_run run replay resume after after_call flatten number
calls_run_is s [] st = refl
calls_run_is s (c ∷ cs) st = go (exec s (room st) c (left st)).log (exec s (room st) c (left st)).ending (calls_run_is s cs)
  where
    go : (l : List Entry) (e : Ending)
        → ((st : State) → let r = run s cs (room st) (left st) in calls_run s cs st ≡ final_of st r.ending r.calls (flatten r.begun))
        → let r = after_call l e (run s cs (room st - length l) (drop (reads l) (left st))) in
        after_calls 1 (after e (replay l st)) (calls_run s cs) ≡ final_of st r.ending r.calls (flatten r.begun)
    go l Ending.well ih = rw (ih (replay l st), room-replay l st, left-replay l st, replay-append, one-add)
    go l (Ending.failed a) ih = rw append-nil
    go l (Ending.cut_short a) ih = rw append-nil

-- the bring-up, then the calls
pub whole_run_is : (s : Setup) (cs : List (List Step)) (st : State) → let r = whole_run s cs (room st) (left st) in
    after_calls 0 (resume s (bring_up s) st) (calls_run s cs) ≡ final_of st r.ending r.calls (flat r.log)
unfolding whole_run replay resume after after_bring_up flatten number
whole_run_is s cs st = go (exec s (room st) (bring_up s) (left st)).log (exec s (room st) (bring_up s) (left st)).ending
  where
    go : (l : List Entry) (e : Ending) → let r = after_bring_up l e (run s cs (room st - length l) (drop (reads l) (left st))) in
        after_calls 0 (after e (replay l st)) (calls_run s cs) ≡ final_of st r.ending r.calls (flat r.log)
    go l Ending.well = rw (calls_run_is s cs (replay l st), room-replay l st, left-replay l st, replay-append, zero-add)
    go l (Ending.failed a) = rw (append-nil l)
    go l (Ending.cut_short a) = rw (append-nil l)

-- what a replayed log leaves in the buffers and the counts
pub replay_is : (es : List Entry) (rs lg rx : List ℕ) (b : Progress)
    → replay es (at rs lg rx b)
    ≡ at rs (sets lg (words_in b.made) (record_of es)) (sets rx b.got (received_of es))
    (record { used = b.used + reads es; made = b.made + length es; got = b.got + length (received_of es) })
unfolding replay record_of received_of reads recorded received store
replay_is [] rs lg rx b = simp add-zero
replay_is (e ∷ es) rs lg rx b = replay_is es rs _ _ _ ∙ go (is_data e.code) (is_read e.code)
  where
    n1 : words_in b.made + 1 ≡ suc (words_in b.made)
    n1 = omega arith

    n2 : words_in (b.made + 1) ≡ suc (suc (words_in b.made))
    n2 = omega arith

    n3 : (x y : ℕ) → x + 1 + y ≡ x + suc y
    n3 x y = omega arith

    n4 : (x y : ℕ) → x + 1 + y ≡ x + (1 + y)
    n4 x y = omega arith

    go : (t u : Bool)
        → at rs (sets (set (set lg (words_in b.made) e.code) (words_in b.made + 1) e.value) (words_in (b.made + 1)) (record_of es))
        (sets (cond t (set rx b.got (low_byte e.value)) rx) (cond t (b.got + 1) b.got) (received_of es))
        (record { used = cond u (b.used + 1) b.used + reads es; made = b.made + 1 + length es; got = cond t (b.got + 1) b.got + length (received_of es) })
        ≡ at rs (sets lg (words_in b.made) (e.code ∷ e.value ∷ record_of es))
        (sets rx b.got (cond t (low_byte e.value ∷ []) [] ++ received_of es))
        (record { used = b.used + (cond u 1 0 + reads es); made = b.made + suc (length es); got = b.got + length (cond t (low_byte e.value ∷ []) [] ++ received_of es) })
    go true true = rw (n1, n2, n4 b.used (reads es), n3 b.made (length es), n3 b.got (length (received_of es)), add-one b.got)
    go true false = rw (n1, n2, n3 b.made (length es), n3 b.got (length (received_of es)), add-one b.got, zero-add)
    go false true = rw (n1, n2, n4 b.used (reads es), n3 b.made (length es))
    go false false = rw (n1, n2, n3 b.made (length es), zero-add)

-- stores that fit are the words, and past them what was there
pub filled_is : (l words : List ℕ) → length words ≤ length l → sets l 0 words ≡ filled l words
unfolding filled
filled_is l words h = sets-eq words l 0 (rw zero-add h) ∙ rw zero-add

pub record_length : (es : List Entry) → length (record_of es) ≡ words_in (length es)
unfolding record_of
record_length [] = refl
record_length (e ∷ es) = omega (arith, record_length es)
