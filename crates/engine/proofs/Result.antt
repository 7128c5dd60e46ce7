-- A run that ends in a state gives the counts and the buffers that the meaning has.
-- Assumes nothing.
use Prim.Native.Nat.{ℕ, ◌≤◌}
use native.Mathlib.Omega.{arith}
use native.Mathlib.Nat.{zero-add}
use mathlib.Core.Path.{◌≡◌, refl, sym, ap, subst, ◌∙◌}
use mathlib.Core.List.{List, [], map, flatten}
use lib.ListN.{length}
use lib.Seq.{sets}
use borrow.Author.Tests.{ne_eqb}
use Rattle.std.specs.Borrow.{MutBor}
use Rattle.std.specs.Prelude.{Result, ⊤}
use Rattle.units.specs.declared.Settings.{Settings}
use Rattle.units.specs.declared.Setup.{Setup}
use Rattle.units.specs.Setup.{setup_of}
use Rattle.buslist.specs.Table.{settings_of}
use Rattle.buslist.specs.Refusal.{refusal}
use Rattle.buslist.specs.Meaning.{Call, calls_of}
use Rattle.registers.specs.declared.Progress.{Progress}
use Rattle.registers.specs.declared.Stop.{Stop}
use Rattle.registers.specs.declared.access.Bus.{Bus}
use Rattle.registers.specs.Contract.{nothing_yet, state, Same, Starts}
use Rattle.calls.specs.declared.Stopped.{Stopped}
use Rattle.registers.specs.Access.{entries_in, record_of, received_of, reads, number}
use Rattle.registers.specs.Machine.{Step, bring_up, flat, WholeRun, whole_run}
use Rattle.registers.specs.State.{State, at, room, left, resume}
use Rattle.calls.specs.Calls.{steps_of}
use Rattle.calls.specs.Whole.{EndsCalls, RunsCalls, Final, after_calls, calls_run, final}
use Rattle.engine.specs.Ended.{ended_counts}
use Rattle.engine.specs.Run.{run, result, accepted_run, counts_of, filled, Meant, RunsTo}
use Rattle.engine.proofs.RunLaws.{final_of, whole_run_is, replay_is, filled_is, record_length}
use Rattle.engine.proofs.Goes.{whole_goes, goes_room}
use Rattle.engine.proofs.Received.{received-fits}

-- the run of calls with settings
abbrev pub run_of_calls : Settings → List Call → ℕ → List ℕ → WholeRun
run_of_calls settings calls words readings = whole_run (setup_of settings) (map (steps_of (setup_of settings)) calls) (entries_in words) readings

-- an accepted list is run, with settings that are its own
pub accepted_is : (l readings : List ℕ) (rx words : ℕ) → refusal l rx ≡ 0 → {settings : Settings} → settings_of l ≡ settings
    → run l readings rx words ≡ result 0 (run_of_calls settings (calls_of l) words readings)
unfolding run accepted_run
accepted_is l readings rx words ok same = rw (ok, same)

-- a refused list is not
pub refused_is : (l readings : List ℕ) (rx words : ℕ) → (refusal l rx ≡ 0 → ⊥)
    → run l readings rx words ≡ record { answer = refusal l rx; calls = 0; log = record { opening = []; begun = [] } }
unfolding run result
refused_is l readings rx words h = rw (ne_eqb _ _ h)

-- so its counts are zero and nothing is changed
pub refused_meant : (l rs rx lg : List ℕ) → (refusal l (length rx) ≡ 0 → ⊥)
    → RunsTo l rs rx lg rx lg (record { answer = refusal l (length rx); calls = 0; used = 0; made = 0; got = 0 })
unfolding counts_of filled record_of received_of reads flatten
refused_meant l rs rx lg h = let e = refused_is l rs (length rx) (length lg) h in record { counts = rw e; received = rw e; recorded = rw e }

room-start : (rs lg rx : List ℕ) → room (at rs lg rx nothing_yet) ≡ entries_in (length lg)
unfolding room
room-start rs lg rx = omega arith

left-start : (rs lg rx : List ℕ) → left (at rs lg rx nothing_yet) ≡ rs
unfolding left
left-start rs lg rx = refl

-- an accepted list, from the state that its run ends in
pub accepted_meant : (l rs rx lg : List ℕ) {rx' lg' : List ℕ} (p : Progress) (k : ℕ) (o : Result ⊤ Stop) → refusal l (length rx) ≡ 0
    → (s : Setup) → s ≡ setup_of (settings_of l)
    → after_calls 0 (resume s (bring_up s) (at rs lg rx nothing_yet)) (calls_run s (map (steps_of s) (calls_of l))) ≡ final (at rs lg' rx' p) k o
    → RunsTo l rs rx lg rx' lg' (ended_counts p o k)
unfolding result counts_of
accepted_meant l rs rx lg {rx'} {lg'} p k o ok t f e' =
    let e = rw f at e' in
    rw (accepted_is l rs (length rx) (length lg) ok refl)
    (go (whole_run s cs (entries_in (length lg)) rs) (received-fits l (length rx) ok s (entries_in (length lg)) rs)
    (goes_room (whole_goes s (calls_of l) (entries_in (length lg)) rs))
    (sym e ∙ whole_run_is s cs (at rs lg rx nothing_yet) ∙ rw (room-start rs lg rx, left-start rs lg rx)))
  where
    s : Setup
    s = setup_of (settings_of l)

    cs : List (List Step)
    cs = map (steps_of s) (calls_of l)

    go : (r : WholeRun) → length (received_of (flat r.log)) ≤ length rx → length (flat r.log) ≤ entries_in (length lg)
        → final (at rs lg' rx' p) k o ≡ final_of (at rs lg rx nothing_yet) r.ending r.calls (flat r.log)
        → Meant (record { answer = number r.ending; calls = r.calls; log = r.log }) rx lg rx' lg' (ended_counts p o k)
    go r fits room e =
        let log = flat r.log in
        let f : at rs lg' rx' p
        ≡ at rs (sets lg 0 (record_of log)) (sets rx 0 (received_of log)) (record { used = reads log; made = length log; got = length (received_of log) })
        = ap (λ (z : Final). z.state) e ∙ replay_is log rs lg rx nothing_yet ∙ simp zero-add in
        let b : p ≡ record { used = reads log; made = length log; got = length (received_of log) } = cc in
        let n = ap (λ (z : Final). z.answer) e in
        let c = ap (λ (z : Final). z.calls) e in
        let u = ap (λ (z : Progress). z.used) b in
        let m = ap (λ (z : Progress). z.made) b in
        let g = ap (λ (z : Progress). z.got) b in
        let lg-is : lg' ≡ sets lg 0 (record_of log) = cc in
        let rx-is : rx' ≡ sets rx 0 (received_of log) = cc in
        record {
          counts = cc;
          received = rx-is ∙ filled_is rx (received_of log) fits;
          recorded = lg-is ∙ filled_is lg (record_of log) (omega (arith, record_length log));
        }

-- the same of a bus that the run went over
pub run_meant : (l : List ℕ) {rs lg' rx' : List ℕ} {log rx : MutBor (List ℕ)} {b b₁ : Bus} {k : ℕ} (o : Result ⊤ Stop) → refusal l (length rx.now) ≡ 0
    → (s : Setup) → s ≡ setup_of (settings_of l) → Starts s rs log rx nothing_yet b → Same b b₁ → lg' ≡ b₁.log.now → rx' ≡ b₁.rx.now
    → after_calls 0 (resume s (bring_up s) (state b)) (calls_run s (map (steps_of s) (calls_of l))) ≡ final (state b₁) k o
    → RunsTo l rs rx.now log.now rx' lg' (ended_counts b₁.progress o k)
run_meant l {rs} {b₁ = b₁} {k} o ok s f x y g h e =
    let i : rs ≡ b₁.readings.now = sym (ap readings_of x.start) ∙ sym y.readings in
    accepted_meant l _ _ _ b₁.progress k o ok s f (rw (← x.start, i, g, h) e)
  where
    readings_of : State → List ℕ
    readings_of (at rs lg rx b) = rs

-- calls with the setup of the run
pub with_setup : {s : Setup} {l : List ℕ} {b b₁ : Bus} {x : Stopped} → b.setup ≡ s → RunsCalls l b b₁ x → EndsCalls s l (state b) (state b₁) x
with_setup {l = l} {b} {b₁} {x} e y = subst (λ (s : Setup). EndsCalls s l (state b) (state b₁) x) e y.ends
