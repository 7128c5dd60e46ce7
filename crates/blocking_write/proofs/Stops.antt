-- Steps whose waits leave an error to the handler `stops`: nothing later matters after it, so such waits compose to one.
-- Assumes nothing.
use Prim.Native.Nat.{ℕ}
use native.Mathlib.Omega.{arith}
use mathlib.Core.Bool.{true, false}
use mathlib.Core.Path.{◌≡◌, refl, sym, ◌∙◌}
use mathlib.Core.List.{List, [], ◌∷◌, ◌++◌, append_assoc, append-nil}
use Rattle.std.specs.Prelude.{Result, Ok, Err, ⊤}
use Rattle.units.specs.declared.Setup.{Setup}
use Rattle.registers.specs.declared.BusError.{BusError}
use Rattle.registers.specs.declared.Source.{Source}
use Rattle.registers.specs.declared.Stop.{Stop}
use Rattle.registers.specs.declared.access.Bus.{Bus}
use Rattle.registers.specs.Word.{with_bits, without_bits, one, none, STOP}
use Rattle.registers.specs.Access.{CR1, wCR1, is_read}
use Rattle.registers.specs.Machine.{Step, Handler, handle, stop_for, next}
use Rattle.registers.specs.State.{State, After, Took, then, taking, resume, read, write, received, entry}
use Rattle.registers.specs.Contract.{state, outcome, handled, Does, Reaches, Waits}
use Rattle.registers.proofs.Laws.{read_law, write_law, write_unfailed, fail_law, done_law}
use Rattle.registers.proofs.Steps.{HandsOn, wait_fails, wait_cut}

-- what stands after a failure does not matter, nor after STOP and a failure
failed_same : (s : Setup) (e : BusError) (p p' : List Step) (st : State) → resume s (Step.fail e ∷ p) st ≡ resume s (Step.fail e ∷ p') st
failed_same s e p p' st = fail_law s e p st ∙ sym (fail_law s e p' st)

stop_same : (s : Setup) (e : BusError) (p p' : List Step) (st : State)
    → resume s (Step.modify (one STOP) none ∷ Step.fail e ∷ p) st ≡ resume s (Step.modify (one STOP) none ∷ Step.fail e ∷ p') st
unfolding next
stop_same s e p p' st = read_law s _ CR1 _ st refl refl ∙ taken (read CR1 st) ∙ sym (read_law s _ CR1 _ st refl refl)
  where
    on : List Step → ℕ → State → After
    on p v st' = resume s (next s (Step.modify (one STOP) none) v ++ Step.fail e ∷ p) (received (entry CR1 v) st')

    written : (w : After) → then w (resume s (Step.fail e ∷ p)) ≡ then w (resume s (Step.fail e ∷ p'))
    written (After.going st') = failed_same s e p p' st'
    written (After.failed e' st') = refl
    written (After.cut_short c st') = refl

    taken : (t : Took) → taking t (on p) ≡ taking t (on p')
    taken (Took.word v st') =
        let x = without_bits none (with_bits (one STOP) v) in
        let st'' = received (entry CR1 v) st' in
        write_law s wCR1 x (Step.fail e ∷ p) st'' refl ∙ written (write wCR1 x st'') ∙ sym (write_law s wCR1 x (Step.fail e ∷ p') st'' refl)
    taken (Took.cut_short c st') = refl

stops_same : (s : Setup) (e : BusError) (p p' : List Step) (st : State) → resume s (handle s Handler.stops e ++ p) st ≡ resume s (handle s Handler.stops e ++ p') st
unfolding handle stop_for
stops_same s BusError.Overrun = failed_same s _
stops_same s (BusError.NoAcknowledge n) = stop_same s _
stops_same s BusError.Timeout = failed_same s _
stops_same s BusError.Bus = failed_same s _
stops_same s BusError.Crc = failed_same s _
stops_same s BusError.ArbitrationLoss = failed_same s _

-- a wait that did not go well ends all
pub wait_stops : {q₀ : List Step} {b₁ b₂ : Bus} {r : Result ⊤ Stop} → Waits Handler.stops q₀ b₁ b₂ r → (q₁ : List Step) {q : List Step} {b : Bus} → Reaches q b (q₀ ++ q₁) b₁
    → {stop : Stop} {r' : Result ⊤ Stop} → r ≡ Err stop → HandsOn stop r' → Waits Handler.stops q b b₂ r'
wait_stops {q₀} {b₁} {b₂} {r} x q₁ {q} {b} g {stop} {r'} = go stop r'
  where
    go : (stop : Stop) (r' : Result ⊤ Stop) → r ≡ Err stop → HandsOn stop r' → Waits Handler.stops q b b₂ r'
    go stop (Ok t) k h = absurd (let z : ◌≡◌ {A = ℕ} 0 1 = cc in omega arith)
    go (Stop.Failed e) (Err stop) k h =
        let y = wait_fails x q₁ g k in
        rw h.1 (record { same = y.same; is = λ p. y.is p ∙ rw (append_assoc (handle b.setup Handler.stops e) q₁ p) (stops_same b.setup e (q₁ ++ p) p (state b₂)) })
    go (Stop.CutShort c) (Err stop) k h = let y = wait_cut x q₁ g k in rw h.1 (record { same = y.same; is = λ p. y.is p })

-- a wait that failed, up to its handler; one that did not fail; one that its handler sets no STOP for
pub to_handler : {h : Handler} {q : List Step} {b b' : Bus} {r : Result ⊤ Stop} → Waits h q b b' r → {e : BusError} → r ≡ Err (Stop.Failed e) → Reaches q b (handle b.setup h e) b'
to_handler x k = record { same = x.same; is = λ p. x.is p ∙ rw k }

pub unfailed : {h : Handler} {q : List Step} {b b' : Bus} {r : Result ⊤ Stop} → Waits h q b b' r → ((e : BusError) → r ≡ Err (Stop.Failed e) → ⊥) → Does q b b' r
unfailed {h} {q} {b} {b'} {r} x n = record { same = x.same; is = λ p. x.is p ∙ go p r n }
  where
    go : (p : List Step) (r : Result ⊤ Stop) → ((e : BusError) → r ≡ Err (Stop.Failed e) → ⊥) → handled b.setup h (state b') r p ≡ then (outcome (state b') r) (resume b.setup p)
    go p (Ok t) n = refl
    go p (Err (Stop.Failed e)) n = absurd (n e refl)
    go p (Err (Stop.CutShort c)) n = refl

pub unhandled : {q : List Step} {b b' : Bus} {r : Result ⊤ Stop} → Waits Handler.stops q b b' r → ((n : Source) → r ≡ Err (Stop.Failed (BusError.NoAcknowledge n)) → ⊥) → Does q b b' r
unfolding handle stop_for
unhandled {q} {b} {b'} {r} x n = record { same = x.same; is = λ p. x.is p ∙ go p r n }
  where
    go : (p : List Step) (r : Result ⊤ Stop) → ((n : Source) → r ≡ Err (Stop.Failed (BusError.NoAcknowledge n)) → ⊥) → handled b.setup Handler.stops (state b') r p ≡ then (outcome (state b') r) (resume b.setup p)
    go p (Ok t) n = refl
    go p (Err (Stop.Failed BusError.Overrun)) n = fail_law b.setup _ p (state b')
    go p (Err (Stop.Failed (BusError.NoAcknowledge m))) n = absurd (n m refl)
    go p (Err (Stop.Failed BusError.Timeout)) n = fail_law b.setup _ p (state b')
    go p (Err (Stop.Failed BusError.Bus)) n = fail_law b.setup _ p (state b')
    go p (Err (Stop.Failed BusError.Crc)) n = fail_law b.setup _ p (state b')
    go p (Err (Stop.Failed BusError.ArbitrationLoss)) n = fail_law b.setup _ p (state b')
    go p (Err (Stop.CutShort c)) n = refl

-- reads and writes do not fail
pub record Unfailing (s : Setup) (q : List Step) : Type 0 where
  pub is : (st : State) (e : BusError) (st' : State) → resume s q st ≡ After.failed e st' → ⊥

pub nothing_fails : {s : Setup} → Unfailing s []
nothing_fails {s} = record { is = λ st e st' h. let k = done_law s st in let z : ◌≡◌ {A = ℕ} 0 1 = cc in omega arith }

pub get_unfailing : {s : Setup} (c : ℕ) → is_read c ≡ true → {q : List Step} → Unfailing s q → Unfailing s (Step.get c ∷ q)
unfolding next
get_unfailing {s} c t {q} u = record { is = λ st e st' h. go e st' (read c st) (sym (read_law s (Step.get c) c q st refl t) ∙ h) }
  where
    go : (e : BusError) (st' : State) (w : Took) → taking w (λ v st''. resume s q (received (entry c v) st'')) ≡ After.failed e st' → ⊥
    go e st' (Took.word v st'') h = u.is _ e st' h
    go e st' (Took.cut_short k st'') h = let z : ◌≡◌ {A = ℕ} 0 1 = cc in omega arith

pub put_unfailing : {s : Setup} (c v : ℕ) → is_read c ≡ false → {q : List Step} → Unfailing s q → Unfailing s (Step.put c v ∷ q)
put_unfailing {s} c v t {q} u = record { is = λ st e st' h. go st e st' (write c v st) refl (sym (write_law s c v q st t) ∙ h) }
  where
    go : (st : State) (e : BusError) (st' : State) (w : After) → w ≡ write c v st → then w (resume s q) ≡ After.failed e st' → ⊥
    go st e st' (After.going st'') k h = u.is _ e st' h
    go st e st' (After.failed e'' st'') k h = write_unfailed c v st k
    go st e st' (After.cut_short a st'') k h = let z : ◌≡◌ {A = ℕ} 0 1 = cc in omega arith

-- so no error of theirs is left to a handler
pub settles : {h : Handler} {q : List Step} {b b' : Bus} {r : Result ⊤ Stop} → Unfailing b.setup q → Does q b b' r → Waits h q b b' r
settles {h} {q} {b} {b'} {r} u x = record { same = x.same; is = λ p. x.is p ∙ go p r (rw append-nil at (x.is [])) }
  where
    go : (p : List Step) (r : Result ⊤ Stop) → resume b.setup q (state b) ≡ then (outcome (state b') r) (resume b.setup []) → then (outcome (state b') r) (resume b.setup p) ≡ handled b.setup h (state b') r p
    go p (Ok t) k = refl
    go p (Err (Stop.Failed e)) k = absurd (u.is (state b) e (state b') k)
    go p (Err (Stop.CutShort c)) k = refl
