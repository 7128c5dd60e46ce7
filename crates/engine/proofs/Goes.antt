-- How steps run, one case for each way that the first step can go; and a whole run is the run of all its steps in one.
-- Assumes nothing.
use Prim.Native.Nat.{ℕ, zero, suc, ◌-◌, ◌≤◌}
use native.Mathlib.Omega.{arith}
use native.Mathlib.Numerals.{one-add}
use native.Mathlib.Nat.{zero-add, sub-zero, suc-sub-suc}
use mathlib.Core.Bool.{Bool, true, false, cond}
use mathlib.Core.Path.{◌≡◌, refl}
use mathlib.Core.List.{List, [], ◌∷◌, ◌++◌, map, flatten, append-nil, append_assoc}
use lib.ListN.{length, drop}
use Rattle.units.specs.declared.Setup.{Setup}
use Rattle.buslist.specs.Meaning.{Call}
use Rattle.registers.specs.declared.Source.{Source}
use Rattle.registers.specs.declared.BusError.{BusError}
use Rattle.registers.specs.declared.Entry.{Entry}
use Rattle.registers.specs.Access.{Access, Shortage, Ending, is_read, cut, reads, number}
use Rattle.registers.specs.Machine.{Step, Act, access, next, perform, no_room, exec, exec_on, exec_full, bring_up, Run, run, after_call, flat, after_bring_up, whole_run}
use Rattle.calls.specs.Calls.{steps_of}
use Rattle.engine.proofs.Plan.{Weights, total, total_append, after-access, bring_up_none, calls_none}

-- steps with this room and these readings log so and end so
pub data Goes (s : Setup) : List Step → ℕ → List ℕ → List Entry → Ending → Type 0 where
  done : {n : ℕ} {rs : List ℕ} → Goes s [] n rs [] Ending.well
  halted : {i : Step} {p : List Step} {n : ℕ} {rs : List ℕ} (e : BusError) → access i ≡ Act.halt e → Goes s (i ∷ p) n rs [] (Ending.failed e)
  full : {i : Step} {p : List Step} {rs : List ℕ} (a : Access) → access i ≡ Act.make a → Goes s (i ∷ p) 0 rs [] (Ending.cut_short (Shortage.no_record a))
  lacks : {i : Step} {p : List Step} {n : ℕ} (r : ℕ) → access i ≡ Act.make (Access.read r) → is_read r ≡ true → Goes s (i ∷ p) (suc n) [] [] (Ending.cut_short Shortage.no_readings)
  wrote : {i : Step} {p : List Step} {n : ℕ} {rs : List ℕ} {l : List Entry} {e : Ending} (r v : ℕ) → access i ≡ Act.make (Access.write r v) → is_read r ≡ false
      → Goes s (next s i v ++ p) n rs l e → Goes s (i ∷ p) (suc n) rs (record { code = r; value = v } ∷ l) e
  took : {i : Step} {p : List Step} {n : ℕ} {rs : List ℕ} {l : List Entry} {e : Ending} (r w : ℕ) → access i ≡ Act.make (Access.read r) → is_read r ≡ true
      → Goes s (next s i (cut r w) ++ p) n rs l e → Goes s (i ∷ p) (suc n) (w ∷ rs) (record { code = r; value = cut r w } ∷ l) e

-- a write with a read's code, or a read with a write's, weighs 1
abbrev P : ℕ → ℕ → ℕ
P code value = cond (is_read code) 1 0

abbrev G : ℕ → ℕ
G code = cond (is_read code) 0 1

abbrev code_weights : Weights P G
code_weights = record { cr1 = λ v. refl; cr2 = λ v. refl; ccr = λ v. refl; trise = λ v. refl; sr1 = refl; dr = λ v. refl; get_sr1 = refl; get_sr2 = refl; get_cr1 = refl; get_cyc = refl }

abbrev misused : List Step → ℕ
misused p = total P G code_weights p

write-code : (t : Bool) → ◌≡◌ {A = ℕ} (cond t 1 0) 0 → t ≡ false
write-code true h = absurd (omega arith)
write-code false h = refl

read-code : (t : Bool) → ◌≡◌ {A = ℕ} (cond t 0 1) 0 → t ≡ true
read-code true h = refl
read-code false h = absurd (omega arith)

-- steps that misuse no code go as the machine runs them
exec_goes : (s : Setup) (n : ℕ) (p : List Step) (rs : List ℕ) → misused p ≡ 0 → Goes s p n rs (exec s n p rs).log (exec s n p rs).ending
unfolding exec exec_on exec_full perform no_room number
exec_goes s zero [] rs h = done
exec_goes s zero (i ∷ p) rs h = go (access i) refl
  where
    go : (a : Act) → access i ≡ a → Goes s (i ∷ p) 0 rs (no_room a).log (no_room a).ending
    go (Act.halt e) k = halted e k
    go (Act.make a) k = full a k
exec_goes s (suc n) [] rs h = done
exec_goes s (suc n) (i ∷ p) rs h = go (access i) refl rs (exec_goes s n)
  where
    go : (a : Act) → access i ≡ a → (rs : List ℕ) → ((p : List Step) (rs : List ℕ) → misused p ≡ 0 → Goes s p n rs (exec s n p rs).log (exec s n p rs).ending)
        → let r = perform a (λ v. next s i v ++ p) rs (exec s n) in Goes s (i ∷ p) (suc n) rs r.log r.ending
    go (Act.halt e) k rs ih = halted e k
    go (Act.make (Access.write r v)) k rs ih =
        let f = rw k at (after-access P G code_weights (λ e. refl) s i p v) in
        wrote r v k (write-code (is_read r) (omega arith)) (ih (next s i v ++ p) rs (omega arith))
    go (Act.make (Access.read r)) k [] ih =
        let f = rw k at (after-access P G code_weights (λ e. refl) s i p 0) in
        lacks r k (read-code (is_read r) (omega arith))
    go (Act.make (Access.read r)) k (w ∷ rs) ih =
        let f = rw k at (after-access P G code_weights (λ e. refl) s i p (cut r w)) in
        took r w k (read-code (is_read r) (omega arith)) (ih (next s i (cut r w) ++ p) rs (omega arith))

module _ {s : Setup} where
  -- steps that end well, and others after them
  goes_on : {p : List Step} {n : ℕ} {rs : List ℕ} {l : List Entry} → Goes s p n rs l Ending.well → {q : List Step} {k : List Entry} {e : Ending}
      → Goes s q (n - length l) (drop (reads l) rs) k e → Goes s (p ++ q) n rs (l ++ k) e
  unfolding reads
  goes_on done g = rw sub-zero at g
  goes_on (wrote r v a t h) g = wrote r v a t (rw append_assoc at (goes_on h (rw (t, zero-add, suc-sub-suc) at g)))
  goes_on (took r w a t h) g = took r w a t (rw append_assoc at (goes_on h (rw (t, one-add, suc-sub-suc) at g)))

  -- steps that do not end well: others after them are not begun
  stops : {p : List Step} {n : ℕ} {rs : List ℕ} {l : List Entry} {e : Ending} → Goes s p n rs l e → (number e ≡ 0 → ⊥) → (q : List Step) → Goes s (p ++ q) n rs l e
  unfolding number
  stops done bad q = absurd (bad refl)
  stops (halted e a) bad q = halted e a
  stops (full a k) bad q = full a k
  stops (lacks r a t) bad q = lacks r a t
  stops (wrote r v a t h) bad q = wrote r v a t (rw append_assoc at (stops h bad q))
  stops (took r w a t h) bad q = took r w a t (rw append_assoc at (stops h bad q))

-- the number of an error
pub error_number : (e : BusError) → (1 ≤ number (Ending.failed e)) × (number (Ending.failed e) ≤ 8)
unfolding number
error_number BusError.Overrun = (omega arith, omega arith)
error_number (BusError.NoAcknowledge Source.Address) = (omega arith, omega arith)
error_number (BusError.NoAcknowledge Source.Data) = (omega arith, omega arith)
error_number (BusError.NoAcknowledge Source.Unknown) = (omega arith, omega arith)
error_number BusError.Timeout = (omega arith, omega arith)
error_number BusError.Bus = (omega arith, omega arith)
error_number BusError.Crc = (omega arith, omega arith)
error_number BusError.ArbitrationLoss = (omega arith, omega arith)

-- the number of a shortage
pub shortage_number : (c : Shortage) → (9 ≤ number (Ending.cut_short c)) × (number (Ending.cut_short c) ≤ 10)
unfolding number
shortage_number Shortage.no_readings = (omega arith, omega arith)
shortage_number (Shortage.no_record a) = (omega arith, omega arith)

-- calls go as all their steps in one
run_goes : (s : Setup) (cs : List (List Step)) (n : ℕ) (rs : List ℕ) → misused (flatten cs) ≡ 0 → Goes s (flatten cs) n rs (flatten (run s cs n rs).begun) (run s cs n rs).ending
unfolding run after_call flatten
run_goes s [] n rs h = done
run_goes s (c ∷ cs) n rs h =
    let m = total_append P G code_weights c (flatten cs) in
    go (exec s n c rs).log (exec s n c rs).ending (exec_goes s n c rs (omega arith)) _ (run_goes s cs _ _ (omega arith))
  where
    go : (l : List Entry) (e : Ending) → Goes s c n rs l e → (r : Run) → Goes s (flatten cs) (n - length l) (drop (reads l) rs) (flatten r.begun) r.ending
        → Goes s (c ++ flatten cs) n rs (flatten (after_call l e r).begun) (after_call l e r).ending
    go l Ending.well g r k = goes_on g k
    go l (Ending.failed e) g r k = rw append-nil (stops g (λ z. omega (arith, error_number e)) (flatten cs))
    go l (Ending.cut_short c) g r k = rw append-nil (stops g (λ z. omega (arith, shortage_number c)) (flatten cs))

-- all steps of a whole run
abbrev pub all_steps : Setup → List Call → List Step
all_steps s cs = bring_up s ++ flatten (map (steps_of s) cs)

-- a whole run goes as all its steps in one
pub whole_goes : (s : Setup) (cs : List Call) (n : ℕ) (rs : List ℕ)
    → let r = whole_run s (map (steps_of s) cs) n rs in Goes s (all_steps s cs) n rs (flat r.log) r.ending
unfolding whole_run after_bring_up run after_call flatten
whole_goes s cs n rs =
    let m = total_append P G code_weights (bring_up s) (flatten (map (steps_of s) cs)) in
    go (exec s n (bring_up s) rs).log (exec s n (bring_up s) rs).ending
    (run_goes s (bring_up s ∷ map (steps_of s) cs) n rs (omega (arith, bring_up_none P G code_weights s, calls_none P G code_weights refl s cs)))
  where
    go : (l : List Entry) (e : Ending) → let r = run s (map (steps_of s) cs) (n - length l) (drop (reads l) rs) in
        Goes s (all_steps s cs) n rs (flatten (after_call l e r).begun) (after_call l e r).ending
        → Goes s (all_steps s cs) n rs (flat (after_bring_up l e r).log) (after_bring_up l e r).ending
    go l Ending.well g = g
    go l (Ending.failed e) g = g
    go l (Ending.cut_short c) g = g

-- steps make no more accesses than fit
pub goes_room : {s : Setup} {p : List Step} {n : ℕ} {rs : List ℕ} {l : List Entry} {e : Ending} → Goes s p n rs l e → length l ≤ n
goes_room done = omega arith
goes_room (halted e a) = omega arith
goes_room (full a k) = omega arith
goes_room (lacks r a t) = omega arith
goes_room (wrote r v a t g) = omega (arith, goes_room g)
goes_room (took r w a t g) = omega (arith, goes_room g)
