-- How a function's answer carries the run on: where it is a word or well, to what is left of the steps; where not, to the end.
-- Assumes nothing.
use Prim.Native.Nat.{ℕ, zero, suc, ◌+◌, ◌<◌, ◌≤◌}
use lib.ListN.{length, drop, length-drop}
use Rattle.registers.specs.declared.Progress.{Progress}
use native.Mathlib.Omega.{arith}
use mathlib.Core.Bool.{false}
use mathlib.Core.Path.{◌≡◌, refl, sym, ap, subst, ◌∙◌}
use mathlib.Core.List.{List, [], ◌∷◌, ◌++◌, append_assoc, append-nil}
use lib.Dec.{eqb}
use Rattle.std.specs.Borrow.{MutBor}
use Rattle.std.specs.Prelude.{Result, Ok, Err, IsErr, IsErrAnd, ⊤}
use Rattle.units.specs.declared.Setup.{Setup}
use Rattle.registers.specs.declared.BusError.{BusError}
use Rattle.registers.specs.declared.Cut.{Cut}
use Rattle.registers.specs.declared.Stop.{Stop}
use Rattle.registers.specs.declared.access.Bus.{Bus}
use Rattle.registers.specs.Access.{CYC, DR, cut, is_data, Access}
use Rattle.registers.specs.Machine.{Step, Handler, handle, Act, access, next}
use Rattle.registers.specs.State.{State, After, Took, Found, at, then, taking, finding, entry, received, recorded, left, room, resume, read_one, read}
use Rattle.registers.specs.Contract.{state, Same, outcome, found, found_of, handled, ReadsAt, WritesAt, Does, Reaches, Waits, Starts}
use Rattle.registers.proofs.Laws.{read_law, write_law, fail_law, done_law, received_other, read-room, Fewer, state_after, after_fewer}

-- the same run still, after nothing and after one thing and then another
pub same_bus : {b : Bus} → Same b b
same_bus = record { setup = refl; readings = refl; log = refl; rx = refl }

pub same_then : {b b₁ b₂ : Bus} → Same b b₁ → Same b₁ b₂ → Same b b₂
same_then x y =
    record {
      setup = y.setup ∙ x.setup;
      readings = y.readings ∙ x.readings;
      log = y.log ∙ x.log;
      rx = y.rx ∙ x.rx;
    }

-- steps of the setup that the run began with
pub at_setup : {b b₁ b₂ : Bus} {r : Result ⊤ Stop} → Same b b₁ → (q : Setup → List Step) → Does (q b₁.setup) b₁ b₂ r → Does (q b.setup) b₁ b₂ r
at_setup {b₁ = b₁} {b₂} {r} x q y = subst (λ (s : Setup). Does (q s) b₁ b₂ r) x.setup y

pub waits_at_setup : {h : Handler} {b b₁ b₂ : Bus} {r : Result ⊤ Stop} → Same b b₁ → (q : Setup → List Step) → Waits h (q b₁.setup) b₁ b₂ r → Waits h (q b.setup) b₁ b₂ r
waits_at_setup {h} {b₁ = b₁} {b₂} {r} x q y = subst (λ (s : Setup). Waits h (q s) b₁ b₂ r) x.setup y

pub reaches_at_setup : {b b₁ b₂ : Bus} → Same b b₁ → (q q' : Setup → List Step) → Reaches (q b₁.setup) b₁ (q' b₁.setup) b₂ → Reaches (q b.setup) b₁ (q' b.setup) b₂
reaches_at_setup {b₁ = b₁} {b₂} x q q' y = subst (λ (s : Setup). Reaches (q s) b₁ (q' s) b₂) x.setup y

-- on from where the bus is now
pub reaches_then : {q : List Step} {b : Bus} {q₁ : List Step} {b₁ : Bus} {q₂ : List Step} {b₂ : Bus} → Reaches q b q₁ b₁ → Reaches q₁ b₁ q₂ b₂ → Reaches q b q₂ b₂
reaches_then g x = record { same = same_then g.same x.same; is = λ p. g.is p ∙ rw (← g.same.setup) (x.is p) }

-- from here on
pub here : {q : List Step} {b : Bus} → Reaches q b q b
here = record { same = same_bus; is = λ p. refl }

-- the steps that are left, written otherwise
pub rewritten : {q : List Step} {b : Bus} {q₁ q₂ : List Step} {b₁ : Bus} → q₁ ≡ q₂ → Reaches q b q₁ b₁ → Reaches q b q₂ b₁
rewritten e g = rw e at g

-- an error that `?` hands on
abbrev pub HandsOn : {T : Type 0} → Stop → Result T Stop → Type 0
HandsOn stop r = IsErr r × IsErrAnd r (λ e. e ≡ stop)

pub handed_on : {T : Type 0} (r : Result T Stop) {stop : Stop} → HandsOn stop r → r ≡ Err stop
handed_on (Ok t) h = absurd h.1
handed_on (Err e) h = ap Err h.1

-- a stop is no going on
stopped : (stop : Stop) (st : State) (k k' : State → After) → then (outcome st (Err stop)) k ≡ then (outcome st (Err stop)) k'
stopped (Stop.Failed e) st k k' = refl
stopped (Stop.CutShort c) st k k' = refl

-- a read's answer says what the machine's read came to
abbrev as_took : Found → Took
as_took (Found.word v st) = Took.word v st
as_took (Found.failed e st) = Took.cut_short Cut.NoReadings st
as_took (Found.cut_short c st) = Took.cut_short c st

as_found : (t : Took) → as_took (found_of t) ≡ t
as_found (Took.word v st) = refl
as_found (Took.cut_short c st) = refl

pub read_word : {c : ℕ} {b b' : Bus} {r : Result ℕ Stop} {v : ℕ} → ReadsAt c b b' r → r ≡ Ok v → read c (state b) ≡ Took.word v (state b')
read_word {c} {b} {b'} {r} {v} x e = sym (as_found (read c (state b))) ∙ ap as_took (sym x.is) ∙ rw e

-- it is no bus error
unfailed : (t : Took) {e : BusError} {st : State} → Found.failed e st ≡ found_of t → ⊥
unfailed (Took.word v st) h = let z : ◌≡◌ {A = ℕ} 0 1 = cc in omega arith
unfailed (Took.cut_short c st) h = let z : ◌≡◌ {A = ℕ} 0 1 = cc in omega arith

pub read_unfailed : {c : ℕ} {b b' : Bus} {r : Result ℕ Stop} {e : BusError} → ReadsAt c b b' r → r ≡ Err (Stop.Failed e) → ⊥
read_unfailed {c} {b} {b'} {r} {e} x k = unfailed (read c (state b)) (ap (found (state b')) (sym k) ∙ x.is)

pub read_cut : {c : ℕ} {b b' : Bus} {r : Result ℕ Stop} {k : Cut} → ReadsAt c b b' r → r ≡ Err (Stop.CutShort k) → read c (state b) ≡ Took.cut_short k (state b')
read_cut {c} {b} {b'} {r} {k} x e = sym (as_found (read c (state b))) ∙ ap as_took (sym x.is) ∙ rw e

taking_found : (t : Took) (k : ℕ → State → After) → taking t k ≡ finding (found_of t) k
taking_found (Took.word v st) k = refl
taking_found (Took.cut_short c st) k = refl

-- a read that is no DR read, for the step i
module _ {q : List Step} {b : Bus} {i : Step} {q₁ : List Step} {b₁ : Bus} (g : Reaches q b (i ∷ q₁) b₁)
    {c : ℕ} {b₂ : Bus} {r : Result ℕ Stop} (x : ReadsAt c b₁ b₂ r) (a : access i ≡ Act.make (Access.read c)) where
  -- what is still to come after it
  abbrev onward_read : (p : List Step) → ℕ → State → After
  onward_read p v st = resume b.setup (next b.setup i v ++ (q₁ ++ p)) (received (entry c v) st)

  onward : (p : List Step) → resume b.setup (q ++ p) (state b) ≡ finding (found (state b₂) r) (onward_read p)
  onward p =
      g.is p ∙ read_law b.setup i c (q₁ ++ p) (state b₁) a x.code
      ∙ taking_found (read c (state b₁)) (onward_read p) ∙ ap (λ (f : Found). finding f (onward_read p)) (sym x.is)

  pub read_step : is_data c ≡ false → {v : ℕ} → r ≡ Ok v → {m : List Step} → next b.setup i v ≡ m → Reaches q b (m ++ q₁) b₂
  read_step u {v} e {m} n =
      record { same = same_then g.same x.same; is = λ p. onward p ∙ rw (e, received_other (entry c v) (state b₂) u, n, append_assoc m q₁ p) }

  pub read_stops : {stop : Stop} {r' : Result ⊤ Stop} → r ≡ Err stop → HandsOn stop r' → Does q b b₂ r'
  read_stops {stop} {r'} e h =
      record { same = same_then g.same x.same; is = λ p. onward p ∙ rw (e, handed_on r' h) (go stop (onward_read p) (resume b.setup p)) }
    where
      go : (stop : Stop) (k : ℕ → State → After) (k' : State → After) → finding (found (state b₂) (Err stop)) k ≡ then (outcome (state b₂) (Err stop)) k'
      go (Stop.Failed e) k k' = refl
      go (Stop.CutShort c) k k' = refl

-- a write is its step
pub write_does : {c v : ℕ} {b b' : Bus} {r : Result ⊤ Stop} → WritesAt c v b b' r → Does (Step.put c v ∷ []) b b' r
write_does {c} {v} {b} x = record { same = x.same; is = λ p. write_law b.setup c v p (state b) x.code ∙ rw (← x.is) }

-- a call of a function that does the steps q₀
module _ {q₀ : List Step} {b₁ b₂ : Bus} {r : Result ⊤ Stop} (x : Does q₀ b₁ b₂ r) (q₁ : List Step) {q : List Step} {b : Bus} (g : Reaches q b (q₀ ++ q₁) b₁) where
  onward_call : (p : List Step) → resume b.setup (q ++ p) (state b) ≡ then (outcome (state b₂) r) (resume b.setup (q₁ ++ p))
  onward_call p = g.is p ∙ rw append_assoc (rw (← g.same.setup) (x.is (q₁ ++ p)))

  pub call_step : {t : ⊤} → r ≡ Ok t → Reaches q b q₁ b₂
  call_step e = record { same = same_then g.same x.same; is = λ p. onward_call p ∙ rw e }

  pub call_stops : {stop : Stop} {r' : Result ⊤ Stop} → r ≡ Err stop → HandsOn stop r' → Does q b b₂ r'
  call_stops {stop} {r'} e h = record { same = same_then g.same x.same; is = λ p. onward_call p ∙ rw (e, handed_on r' h) (stopped stop _ _ _) }

-- an outcome that is not well
abbrev pub NotOk : Result ⊤ Stop → Type 0
NotOk r = (t : ⊤) → r ≡ Ok t → ⊥

-- a call that did not end well, whose outcome is the answer
pub call_fails : {q₀ : List Step} {b₁ b₂ : Bus} {r : Result ⊤ Stop} → Does q₀ b₁ b₂ r → (q₁ : List Step) {q : List Step} {b : Bus} → Reaches q b (q₀ ++ q₁) b₁ → NotOk r → Does q b b₂ r
call_fails {r = Ok t} x q₁ g h = absurd (h t refl)
call_fails {r = Err stop} x q₁ g h = call_stops x q₁ g refl (refl, refl)

-- the end
pub ends_well : {q : List Step} {b b₁ : Bus} {t : ⊤} → Reaches q b [] b₁ → Does q b b₁ (Ok t)
ends_well g = record { same = g.same; is = λ p. g.is p }

pub ends_failed : {q : List Step} {b b₁ : Bus} {e : BusError} {q₁ : List Step} → Reaches q b (Step.fail e ∷ q₁) b₁ → Does q b b₁ (Err (Stop.Failed e))
ends_failed {b = b} {e = e} {q₁ = q₁} g = record { same = g.same; is = λ p. g.is p ∙ fail_law b.setup e (q₁ ++ p) _ }

-- the last thing done is a call
pub call_last : {q : List Step} {b : Bus} {q₁ : List Step} {b₁ b₂ : Bus} {r : Result ⊤ Stop} → Reaches q b q₁ b₁ → Does q₁ b₁ b₂ r → Does q b b₂ r
call_last g x = record { same = same_then g.same x.same; is = λ p. g.is p ∙ rw (← g.same.setup) (x.is p) }

-- a read of DR: its low byte is received
pub data_step : {b b₁ : Bus} {v : ℕ} → ReadsAt DR b b₁ (Ok v) → {b₂ : Bus} → Same b b₂ → received (entry DR v) (state b₁) ≡ state b₂ → Does (Step.get DR ∷ []) b b₂ (Ok tt)
unfolding next
data_step {b} {b₁} {v} x y f =
    record {
      same = y;
      is = λ p. onward {q = Step.get DR ∷ []} {i = Step.get DR} {q₁ = []} here x refl p ∙ rw f;
    }

-- an answer of a read or a check, with the state that it leaves
abbrev state_of : Found → State
state_of (Found.word v st) = st
state_of (Found.failed e st) = st
state_of (Found.cut_short c st) = st

abbrev value_of : Found → ℕ
value_of (Found.word v st) = v
value_of (Found.failed e st) = 0
value_of (Found.cut_short c st) = 0

abbrev progress_of : State → Progress
progress_of (at rs lg rx b) = b

-- a word read leaves less room
pub read_less : {c : ℕ} {b b' : Bus} {r : Result ℕ Stop} {v : ℕ} → ReadsAt c b b' r → r ≡ Ok v → room (state b') < room (state b)
read_less {c} {b} {b'} {r} {v} x e = go (read c (state b)) refl
  where
    go : (t : Took) → read c (state b) ≡ t → room (state b') < room (state b)
    go (Took.word w st) f =
        let h : Found.word v (state b') ≡ Found.word w st = ap (found (state b')) (sym e) ∙ x.is ∙ ap found_of f in
        rw (ap state_of h) (read-room c (state b) (sym f))
    go (Took.cut_short k st) f =
        let h : Found.word v (state b') ≡ Found.cut_short k st = ap (found (state b')) (sym e) ∙ x.is ∙ ap found_of f in
        let z : ◌≡◌ {A = ℕ} 0 1 = cc in absurd (omega arith)

-- a register word is 16 bits wide
pub read_small : {c : ℕ} {b b' : Bus} {r : Result ℕ Stop} {v : ℕ} → ReadsAt c b b' r → eqb c CYC ≡ false → r ≡ Ok v → v < 65536
unfolding read read_one cut
read_small {c} {b} {b'} {r} {v} x t e = go (left (state b)) (room (state b)) (ap (found (state b')) (sym e) ∙ x.is)
  where
    go : (ws : List ℕ) (n : ℕ) → Found.word v (state b') ≡ found_of (read_one c (state b) ws n) → v < 65536
    go ws zero k = let z : ◌≡◌ {A = ℕ} 0 1 = cc in absurd (omega arith)
    go [] (suc n) k = let z : ◌≡◌ {A = ℕ} 0 1 = cc in absurd (omega arith)
    go (w ∷ ws) (suc n) k = omega (arith, (rw t at (ap value_of k)))

-- a read uses a reading that is there, and receives no byte by itself
pub record Counted (b b' : Bus) : Type 0 where
  pub there : b.progress.used < length b.readings.now
  pub used : b'.progress.used ≡ b.progress.used + 1
  pub got : b'.progress.got ≡ b.progress.got

pub read-counts : {c : ℕ} {b b' : Bus} {r : Result ℕ Stop} {v : ℕ} → ReadsAt c b b' r → r ≡ Ok v → Counted b b'
unfolding read read_one recorded left
read-counts {c} {b} {b'} {r} {v} x e = go (left (state b)) (room (state b)) refl (ap (found (state b')) (sym e) ∙ x.is)
  where
    go : (ws : List ℕ) (n : ℕ) → drop b.progress.used b.readings.now ≡ ws → Found.word v (state b') ≡ found_of (read_one c (state b) ws n) → Counted b b'
    go ws zero l k = let z : ◌≡◌ {A = ℕ} 0 1 = cc in absurd (omega arith)
    go [] (suc n) l k = let z : ◌≡◌ {A = ℕ} 0 1 = cc in absurd (omega arith)
    go (w ∷ ws) (suc n) l k =
        let e = ap (λ (z : Found). progress_of (state_of z)) k in
        record {
          there = omega (arith, simp length-drop at (ap length l));
          used = rw x.code at (ap (λ (z : Progress). z.used) e);
          got = ap (λ (z : Progress). z.got) e;
        }

-- the bytes received are at most the readings used where a run begins so, and stay it by a read and by steps that are done
pub starts_fewer : {s : Setup} {readings : List ℕ} {log rx : MutBor (List ℕ)} {progress : Progress} {b : Bus} → Starts s readings log rx progress b → progress.got ≤ progress.used → b.progress.got ≤ b.progress.used
starts_fewer x h = subst Fewer (sym x.start) h

pub read_fewer : {c : ℕ} {b b' : Bus} {v : ℕ} → ReadsAt c b b' (Ok v) → b.progress.got ≤ b.progress.used → b'.progress.got ≤ b'.progress.used
read_fewer x h = let n = read-counts x refl in omega arith

pub keeps_fewer : {q : List Step} {b b' : Bus} {r : Result ⊤ Stop} → Does q b b' r → b.progress.got ≤ b.progress.used → b'.progress.got ≤ b'.progress.used
keeps_fewer {q} {b} {b'} {r} x h = subst Fewer (ap state_after (rw append-nil at (x.is [])) ∙ left_by r) (after_fewer b.setup q (state b) h)
  where
    left_by : (r : Result ⊤ Stop) → state_after (then (outcome (state b') r) (resume b.setup [])) ≡ state b'
    left_by (Ok t) = rw done_law
    left_by (Err (Stop.Failed e)) = refl
    left_by (Err (Stop.CutShort c)) = refl

-- a timed wait

-- its error is handled by ending the call
pub waits_end : {q : List Step} {b b' : Bus} {r : Result ⊤ Stop} → Waits Handler.ends q b b' r → Does q b b' r
unfolding handle
waits_end {q} {b} {b'} {r} x = record { same = x.same; is = λ p. x.is p ∙ go p r }
  where
    go : (p : List Step) (r : Result ⊤ Stop) → handled b.setup Handler.ends (state b') r p ≡ then (outcome (state b') r) (resume b.setup p)
    go p (Ok t) = refl
    go p (Err (Stop.Failed e)) = fail_law b.setup e p (state b')
    go p (Err (Stop.CutShort c)) = refl

module _ {h : Handler} {q₀ : List Step} {b₁ b₂ : Bus} {r : Result ⊤ Stop} (x : Waits h q₀ b₁ b₂ r) (q₁ : List Step) {q : List Step} {b : Bus} (g : Reaches q b (q₀ ++ q₁) b₁) where
  onward_wait : (p : List Step) → resume b.setup (q ++ p) (state b) ≡ handled b.setup h (state b₂) r (q₁ ++ p)
  onward_wait p = g.is p ∙ rw append_assoc (rw (← g.same.setup) (x.is (q₁ ++ p)))

  -- it went well: on with what is left
  pub wait_step : {t : ⊤} → r ≡ Ok t → Reaches q b q₁ b₂
  wait_step e = record { same = same_then g.same x.same; is = λ p. onward_wait p ∙ rw e }

  -- it failed: to the handler
  pub wait_fails : {e : BusError} → r ≡ Err (Stop.Failed e) → Reaches q b (handle b.setup h e ++ q₁) b₂
  wait_fails {e} k = record { same = same_then g.same x.same; is = λ p. onward_wait p ∙ rw (k, append_assoc (handle b.setup h e) q₁ p) }

  -- it was cut short
  pub wait_cut : {c : Cut} → r ≡ Err (Stop.CutShort c) → Does q b b₂ (Err (Stop.CutShort c))
  wait_cut e = record { same = same_then g.same x.same; is = λ p. onward_wait p ∙ rw e }

-- the last thing done is a wait
pub waits_last : {h : Handler} {q : List Step} {b : Bus} {q₁ : List Step} {b₁ b₂ : Bus} {r : Result ⊤ Stop} → Reaches q b q₁ b₁ → Waits h q₁ b₁ b₂ r → Waits h q b b₂ r
waits_last g x = record { same = same_then g.same x.same; is = λ p. g.is p ∙ rw (← g.same.setup) (x.is p) }

-- nothing is left to wait for
pub waits_well : {h : Handler} {q : List Step} {b b₁ : Bus} {t : ⊤} → Reaches q b [] b₁ → Waits h q b b₁ (Ok t)
waits_well g = record { same = g.same; is = λ p. g.is p }
