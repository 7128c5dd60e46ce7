-- A run call by call, and a call operation by operation, as the run's loops take them.
-- Assumes nothing.
use Prim.Native.Nat.{ℕ, zero, suc, ◌+◌, ◌-◌, ◌≤◌, ◌<◌}
use native.Mathlib.Omega.{arith}
use native.Mathlib.Nat.{add-zero, zero-add, add_assoc, sub-zero}
use mathlib.Core.Bool.{Bool, true, false, cond}
use mathlib.Core.Path.{◌≡◌, refl, sym, ap, subst, ◌∙◌}
use mathlib.Core.List.{List, [], ◌∷◌, ◌++◌, map, append-nil}
use lib.Dec.{eqb}
use borrow.Author.Tests.{eq-eqb, ne_eqb}
use Rattle.std.specs.Borrow.{MutBor}
use Rattle.std.specs.Prelude.{Result, Ok, Err, ⊤}
use Rattle.units.specs.declared.Setup.{Setup}
use Rattle.buslist.specs.declared.Address.{Address}
use Rattle.buslist.specs.declared.OperationEntry.{OperationEntry}
use Rattle.buslist.specs.declared.CallEntry.{CallEntry}
use Rattle.buslist.specs.declared.Joined.{Joined}
use Rattle.buslist.specs.Form.{write_direction}
use Rattle.buslist.specs.Meaning.{Operation, bytes_of, Engine, engine_of, address_number, operation_of, is_ten, address_of, call_of, calls_of}
use Rattle.buslist.specs.Combined.{dropped, joined, combined}
use Rattle.buslist.specs.Next.{operations_from, JoinsAt}
use Rattle.buslist.specs.Table.{call_count, call_at, operation_at, entries}
use Rattle.buslist.proofs.Walk.{entries_step, entries_end}
use Rattle.registers.specs.declared.Progress.{Progress}
use Rattle.registers.specs.declared.Stop.{Stop}
use Rattle.registers.specs.declared.access.Bus.{Bus}
use Rattle.registers.specs.Machine.{Step, bring_up}
use Rattle.registers.specs.State.{State, After, at, resume, then}
use Rattle.registers.specs.Contract.{state, Same, outcome, Does, Reaches, Starts}
use Rattle.registers.proofs.Laws.{done_law, Fewer, state_after, after_fewer}
use Rattle.registers.proofs.Steps.{NotOk, rewritten, call_step, call_fails, call_last}
use Rattle.i2c.specs.declared.Previous.{Previous}
use Rattle.i2c.specs.Polling.{polling_steps, is_last}
use Rattle.blocking_write.specs.Write.{write_without_stop}
use Rattle.blocking.specs.Blocking.{read_steps, done_last, blocking_steps, operation_steps as blocking_operation}
use Rattle.calls.specs.Calls.{early, operations_steps, performed, steps_of}
use Rattle.calls.specs.Whole.{operation_steps, entry_steps, moved, rest_steps, Takes, end_steps, more_calls, after_calls, calls_run, Final, final, Ends, EndsCalls, Left}

-- no call is done yet
pub calls-start : {s : Setup} {cs : List (List Step)} {st : State} → Left s cs st 0 cs st
calls-start = record { is = rw zero-add }

module _ {s : Setup} {cs : List (List Step)} {st : State} {k : ℕ} {c : List Step} {cs' : List (List Step)} {b b₁ : Bus}
    (x : Left s cs st k (c ∷ cs') (state b)) (e : b.setup ≡ s) {r : Result ⊤ Stop} (y : Does c b b₁ r) where
  whole_call : resume s c (state b) ≡ then (outcome (state b₁) r) (resume s [])
  whole_call = rw (append-nil, e) at (y.is [])

  -- the call that does not end well stops the run
  pub call_stops_run : NotOk r → Ends s cs st (state b₁) k r
  unfolding calls_run
  call_stops_run h = record { is = x.is ∙ rw whole_call (go r h) }
    where
      go : (r : Result ⊤ Stop) → NotOk r → more_calls k (after_calls 1 (then (outcome (state b₁) r) (resume s [])) (calls_run s cs')) ≡ final (state b₁) k r
      go (Ok t) h = absurd (h t refl)
      go (Err (Stop.Failed a)) h = rw add-zero
      go (Err (Stop.CutShort a)) h = rw add-zero

  -- the call that ends well leaves the calls after it
  pub next_call : {t : ⊤} → r ≡ Ok t → Left s cs st (k + 1) cs' (state b₁)
  unfolding calls_run
  next_call f = record { is = x.is ∙ rw (whole_call, f, done_law, add_assoc) }

-- no call is left
pub calls_end : {s : Setup} {cs : List (List Step)} {st st₁ : State} {k : ℕ} {t : ⊤} → Left s cs st k [] st₁ → Ends s cs st st₁ k (Ok t)
unfolding calls_run
calls_end x = record { is = x.is ∙ rw add-zero }

-- an operation by its direction
module _ (l : List ℕ) (o : OperationEntry) where
  pub a_write : write_direction o ≡ true → operation_of l o ≡ Operation.write (bytes_of l o)
  unfolding operation_of
  a_write h = rw h

  pub not_a_write : write_direction o ≡ false → operation_of l o ≡ Operation.read o.length
  unfolding operation_of
  not_a_write h = rw h

-- an address has the number that its entry has, whatever its width
pub number_of_address : (c : CallEntry) → address_number (address_of c) ≡ c.address
unfolding address_of
number_of_address c = go (is_ten c)
  where
    go : (ten : Bool) → address_number (cond ten (Address.Ten c.address) (Address.Seven c.address)) ≡ c.address
    go true = refl
    go false = refl

-- a call, one operation at a time
module _ (s : Setup) (early : Bool) (a : Address) (previous : Previous) where
  pub operations_cons : (e : Engine) (o : Operation) (os : List Operation)
      → operations_steps s e early a previous (o ∷ os) ≡ operation_steps s e early a previous (is_last os) o ++ operations_steps s e early a (moved e previous o) os
  unfolding operations_steps operation_steps moved polling_steps blocking_steps
  operations_cons Engine.polling o os = refl
  operations_cons Engine.blocking o os = refl

  pub operations_nil : (e : Engine) → operations_steps s e early a previous [] ≡ end_steps s e previous
  unfolding operations_steps end_steps polling_steps blocking_steps
  operations_nil Engine.polling = refl
  operations_nil Engine.blocking = refl

-- operation j of n is the last when no other follows
pub last_is : {A : Type 0} (f : A → Operation) (entry : ℕ → A) (j n : ℕ) → j < n → is_last (map f (entries entry (j + 1) (n - (j + 1)))) ≡ eqb (j + 1) n
unfolding entries
last_is f entry j n h = go (n - (j + 1)) refl
  where
    go : (m : ℕ) → n - (j + 1) ≡ m → is_last (map f (entries entry (j + 1) (n - (j + 1)))) ≡ eqb (j + 1) n
    go zero e = rw (e, eq-eqb (j + 1) n (omega arith))
    go (suc m) e = rw (e, ne_eqb (j + 1) n (λ q. omega arith))

-- the operations that a call does: of kind 7 combined, of any other kind those listed
pub performed-combined : (kind : ℕ) (os : List Operation) → kind ≡ 7 → performed kind os ≡ combined os
unfolding performed
performed-combined kind os e = rw (eq-eqb kind 7 e)

pub performed_listed : (kind : ℕ) (os : List Operation) → (kind ≡ 7 → ⊥) → performed kind os ≡ os
unfolding performed
performed_listed kind os h = rw (ne_eqb kind 7 h)

performed_none : (kind : ℕ) → performed kind [] ≡ []
unfolding performed joined dropped
performed_none kind = go (eqb kind 7)
  where
    go : (t : Bool) → cond t (combined []) [] ≡ []
    go true = refl
    go false = refl

-- an operation before combined ones, unless it is empty, is done before them
first_combined : (s : Setup) (a : ℕ) (previous : Previous) (o : Operation) (os : List Operation)
    → blocking_steps s a previous (dropped (o ∷ []) ++ os) ≡ blocking_operation s a o ++ blocking_steps s a (done_last previous o) os
unfolding blocking_steps dropped write_without_stop read_steps
first_combined s a previous (Operation.write []) os = refl
first_combined s a previous (Operation.write (b ∷ bs)) os = refl
first_combined s a previous (Operation.read zero) os = refl
first_combined s a previous (Operation.read (suc n)) os = refl

-- operation j of a call, and the operations after it
module _ (l : List ℕ) (c : CallEntry) (j end : ℕ) where
  pub takes_listed : (o : OperationEntry) → (c.kind ≡ 7 → ⊥) → j < end → o ≡ operation_at l j → Takes l c j end (record { operation = o; next = j + 1 })
  takes_listed o h below e =
      record {
        some = omega arith;
        most = omega arith;
        first = λ s previous. rw (
          performed_listed c.kind (operations_from l j end) h,
          performed_listed c.kind (operations_from l (j + 1) end) h,
          entries_step (operation_at l) j end below,
          operations_cons s (early c.kind) (address_of c) previous (engine_of c.kind),
          last_is (operation_of l) (operation_at l) j end below,
          ← e,
        );
      }

  pub takes_joined : (r : Joined) → c.kind ≡ 7 → JoinsAt l j end r → Takes l c j end r
  unfolding operations_steps operation_steps moved engine_of address_of
  takes_joined r h x =
      record {
        some = x.some;
        most = x.most;
        first = λ s previous. rw (
          performed-combined c.kind (operations_from l j end) h,
          performed-combined c.kind (operations_from l r.next end) h,
          x.first,
          h,
        ) (first_combined s (address_number (address_of c)) previous (operation_of l r.operation) (combined (operations_from l r.next end)));
      }

-- no operation is left
pub operations-done : (s : Setup) (l : List ℕ) (c : CallEntry) (previous : Previous) (j end : ℕ) → end ≤ j
    → rest_steps s c previous (operations_from l j end) ≡ end_steps s (engine_of c.kind) previous
operations-done s l c previous j end h =
    rw (entries_end (operation_at l) j end h, performed_none c.kind) (operations_nil s (early c.kind) (address_of c) previous (engine_of c.kind))

-- the calls of a list, as the outer loop takes them
module _ (s : Setup) (l : List ℕ) where
  -- the calls from number k on, of n
  abbrev pub calls_from : ℕ → ℕ → List (List Step)
  calls_from k n = map (steps_of s) (map (call_of l) (entries (call_at l) k (n - k)))

  pub calls_all : (n : ℕ) → n ≡ call_count l → map (steps_of s) (calls_of l) ≡ calls_from 0 n
  calls_all n e = rw (e, sub-zero)

  -- call k is done operation by operation, from its first to its end
  pub calls-next : (k n end : ℕ) {c : CallEntry} → k < n → c ≡ call_at l k → end ≡ c.first + c.count
      → calls_from k n ≡ rest_steps s c Previous.Nothing (operations_from l c.first end) ∷ calls_from (k + 1) n
  unfolding steps_of
  calls-next k n end {c} h e f =
      let g : end - c.first ≡ c.count = omega arith in
      rw (entries_step (call_at l) k n h, ← e, g)

  pub calls_none : (k n : ℕ) → n ≤ k → calls_from k n ≡ []
  calls_none k n h = rw (entries_end (call_at l) k n h)

-- the calls that are left, written otherwise
pub left_rewritten : {s : Setup} {cs cs₁ cs₂ : List (List Step)} {st st₁ : State} {k : ℕ} → cs₁ ≡ cs₂ → Left s cs st k cs₁ st₁ → Left s cs st k cs₂ st₁
left_rewritten e x = rw e at x

-- the bring-up, before the calls
module _ {s : Setup} (cs : List (List Step)) {b b₁ : Bus} (e : b.setup ≡ s) {r : Result ⊤ Stop} (x : Does (bring_up b.setup) b b₁ r) where
  first_steps : resume s (bring_up s) (state b) ≡ then (outcome (state b₁) r) (resume s [])
  first_steps = rw (append-nil, e) at (x.is [])

  -- it does not end well: the run ends there, before any call
  pub first_stops : NotOk r → after_calls 0 (resume s (bring_up s) (state b)) (calls_run s cs) ≡ final (state b₁) 0 r
  first_stops h = rw first_steps (go r h)
    where
      go : (r : Result ⊤ Stop) → NotOk r → after_calls 0 (then (outcome (state b₁) r) (resume s [])) (calls_run s cs) ≡ final (state b₁) 0 r
      go (Ok t) h = absurd (h t refl)
      go (Err (Stop.Failed a)) h = refl
      go (Err (Stop.CutShort a)) h = refl

  -- it is done: the run goes on with the calls
  pub first_done : {t : ⊤} → r ≡ Ok t → after_calls 0 (resume s (bring_up s) (state b)) (calls_run s cs) ≡ calls_run s cs (state b₁)
  first_done f = rw (first_steps, f, done_law, zero-add)

-- a call that is done up to its operation j, with the setup of the run
module _ {s : Setup} (l : List ℕ) (c : CallEntry) (previous : Previous) {j end : ℕ} {q : List Step} {b₀ b b₁ : Bus}
    (g : Reaches q b₀ (rest_steps s c previous (operations_from l j end)) b) (e : b.setup ≡ s) {r : Result ⊤ Stop} where
  -- the next operation
  module _ {x : Joined} (t : Takes l c j end x) (y : Does (entry_steps b.setup c previous (eqb x.next end) (operation_of l x.operation)) b b₁ r) where
    done : Does (entry_steps s c previous (eqb x.next end) (operation_of l x.operation)) b b₁ r
    done = subst (λ (s : Setup). Does (entry_steps s c previous (eqb x.next end) (operation_of l x.operation)) b b₁ r) e y

    pub next_operation : {u : ⊤} → r ≡ Ok u → Reaches q b₀ (rest_steps s c (moved (engine_of c.kind) previous (operation_of l x.operation)) (operations_from l x.next end)) b₁
    next_operation h = call_step done _ (rewritten (t.first s previous) g) h

    pub operation_stops : NotOk r → Does q b₀ b₁ r
    operation_stops h = call_fails done _ (rewritten (t.first s previous) g) h

  -- its end
  pub end_of_call : end ≤ j → Does (end_steps b.setup (engine_of c.kind) previous) b b₁ r → Does q b₀ b₁ r
  end_of_call h y =
      call_last (rewritten (operations-done s l c previous j end h) g) (subst (λ (s : Setup). Does (end_steps s (engine_of c.kind) previous) b b₁ r) e y)

-- the calls cs, from where the bus was, ended so
pub record Stops (s : Setup) (cs : List (List Step)) (b b₁ : Bus) (k : ℕ) (r : Result ⊤ Stop) : Type 0 where
  pub same : Same b b₁
  pub ends : Ends s cs (state b) (state b₁) k r

-- calls that ran over a bus on these parts left them so
pub ends_calls : {s : Setup} (l : List ℕ) {readings : List ℕ} {log rx : MutBor (List ℕ)} {progress : Progress} {lg' rx' : List ℕ} {b b₁ : Bus} {k : ℕ} {r : Result ⊤ Stop}
    → Starts s readings log rx progress b → Stops s (map (steps_of s) (calls_of l)) b b₁ k r → lg' ≡ b₁.log.now → rx' ≡ b₁.rx.now
    → EndsCalls s l (at readings log.now rx.now progress) (at readings lg' rx' b₁.progress) (record { outcome = r; calls = k })
ends_calls l {readings} y x f g =
    let e : readings ≡ _ = sym (ap readings_of y.start) ∙ sym x.same.readings in
    record { is = rw (← y.start, e, f, g) x.ends.is }
  where
    readings_of : State → List ℕ
    readings_of (at rs lg rx b) = rs

-- the bytes received are at most the readings used, after calls as before them
calls_fewer : (s : Setup) (cs : List (List Step)) (st : State) → Fewer st → Fewer (calls_run s cs st).state
unfolding calls_run
calls_fewer s [] st h = h
calls_fewer s (c ∷ cs) st h = go (resume s c st) (after_fewer s c st h) (calls_fewer s cs)
  where
    go : (a : After) → Fewer (state_after a) → ((st' : State) → Fewer st' → Fewer (calls_run s cs st').state) → Fewer (after_calls 1 a (calls_run s cs)).state
    go (After.going st') k later = later st' k
    go (After.failed e st') k later = k
    go (After.cut_short c st') k later = k

pub ends_fewer : {s : Setup} {cs : List (List Step)} {st st' : State} {k : ℕ} {r : Result ⊤ Stop} → Ends s cs st st' k r → Fewer st → Fewer st'
ends_fewer x h = subst Fewer (ap (λ (f : Final). f.state) x.is) (calls_fewer _ _ _ h)
