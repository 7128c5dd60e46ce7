-- Timed waits: what a poll and a CYC read make of the step, and how a wait ends.
-- Assumes nothing.
use Rattle.std.proofs.Common.{◌≡◌, ℕ, ◌+◌, ◌%◌, ◌^◌, ◌<◌, Bool, true, false, cond, ◌&&◌, leb, List, [], ◌∷◌, refl, sym, ap, ◌∙◌, append-nil, arith}
use Rattle.std.specs.Prelude.{Option, Some, None, Result, Ok, Err, ⊤}
use Rattle.units.specs.declared.Setup.{Setup}
use Rattle.registers.specs.declared.Awaited.{Awaited}
use Rattle.registers.specs.declared.BusError.{BusError}
use Rattle.registers.specs.declared.ReadCode.{ReadCode}
use Rattle.registers.specs.declared.Source.{Source}
use Rattle.registers.specs.declared.WriteCode.{WriteCode}
use Rattle.registers.specs.declared.Stop.{Stop}
use Rattle.registers.specs.declared.access.Bus.{Bus}
use Rattle.registers.specs.Access.{is_data, clear_word, Access}
use Rattle.registers.specs.Machine.{Step, Handler, Act, access, next, handle, clear, since, polled_register, poll_error, poll_ready, after_poll}
use Rattle.registers.specs.State.{State, at, Took, Found, read}
use Rattle.registers.specs.Contract.{state, Same, found_of, handled, ReadsAt, Writes, Does, Reaches, Waits, word_after, ReadsNext}
use Rattle.registers.proofs.Laws.{write_unfailed}
use Rattle.registers.proofs.Steps.{same_then, HandsOn, rewritten, write_does, call_step, call_stops, read_step, read_stops}
use Rattle.timed.specs.Poll.{no_error, over, WaitsOn}

-- what the value read makes of each step of a timed wait
module _ (s : Setup) (w : Awaited) (l : ℕ) (h : Handler) where
  pub next_timed : (v : ℕ) → next s (Step.timed w l h) v ≡ Step.poll w l h v ∷ []
  unfolding next
  next_timed v = refl

  pub next_failed : (t v : ℕ) {a : BusError} → poll_error w v ≡ Some a → next s (Step.poll w l h t) v ≡ clear a ∷ handle s h a
  unfolding next after_poll
  next_failed t v e = rw e

  next_polled : (t v : ℕ) {u : Bool} → poll_error w v ≡ None → poll_ready w v ≡ u → next s (Step.poll w l h t) v ≡ cond u [] (Step.late w l h t ∷ [])
  unfolding next after_poll
  next_polled t v e f = rw (e, f)

  pub next_late : (t v : ℕ) {u : Bool} → leb l (since t v) ≡ u → next s (Step.late w l h t) v ≡ cond u (handle s h BusError.Timeout) (Step.poll w l h t ∷ [])
  unfolding next
  next_late t v e = rw e

-- the register that a poll reads is no DR
polled_other : (w : Awaited) → is_data (polled_register w) ≡ false
polled_other (Awaited.Flag f n) = refl
polled_other Awaited.Stop = refl

-- a poll, by the word that it read: over; an error; else to the next CYC read
module _ (w : Awaited) (v : ℕ) where
  over_is : {u : Bool} {f : Option BusError} → over w v ≡ u → poll_error w v ≡ f → no_error f && poll_ready w v ≡ u
  unfolding over
  over_is e f = rw f at e

  over_clean : over w v ≡ true → poll_error w v ≡ None
  over_clean e = go (poll_error w v) (over_is e refl)
    where
      go : (f : Option BusError) → no_error f && poll_ready w v ≡ true → f ≡ None
      go (Some a) k = absurd (let z : ◌≡◌ {A = ℕ} 0 1 = cc in omega arith)
      go None k = refl

next-over : (s : Setup) (w : Awaited) (l : ℕ) (h : Handler) (t v : ℕ) → over w v ≡ true → next s (Step.poll w l h t) v ≡ []
next-over s w l h t v e = next_polled s w l h t v (over_clean w v e) (over_is w v e (over_clean w v e))

module _ {q : List Step} {b b₁ : Bus} (w : Awaited) (l : ℕ) (h : Handler) (t v : ℕ) (g : Reaches q b (next b.setup (Step.poll w l h t) v) b₁) where
  pub to_end : over w v ≡ true → Reaches q b [] b₁
  to_end e = rewritten (next-over b.setup w l h t v e) g

  pub to_late : over w v ≡ false → poll_error w v ≡ None → Reaches q b (Step.late w l h t ∷ []) b₁
  to_late e n = rewritten (next_polled b.setup w l h t v n (over_is w v e n)) g

-- a wait that is cut short
cut_waits : {h : Handler} {q : List Step} {b b' : Bus} {stop : Stop} {r : Result ⊤ Stop} → HandsOn stop r → ((e : BusError) → stop ≡ Stop.Failed e → ⊥) → Does q b b' r → Waits h q b b' r
cut_waits {h} {q} {b} {b'} {stop} {r} u n x = go r stop u n x
  where
    go : (r : Result ⊤ Stop) (stop : Stop) → HandsOn stop r → ((e : BusError) → stop ≡ Stop.Failed e → ⊥) → Does q b b' r → Waits h q b b' r
    go (Ok t) stop u n x = absurd (let z : ◌≡◌ {A = ℕ} 0 1 = cc in omega arith)
    go (Err (Stop.Failed e)) stop u n x = absurd (n e (sym u.1))
    go (Err (Stop.CutShort c)) stop u n x = record { same = x.same; is = λ p. x.is p }

-- a read does not fail
read_unfailed : {c : ℕ} {b b' : Bus} {r : Result ℕ Stop} {stop : Stop} → ReadsAt c b b' r → r ≡ Err stop → (e : BusError) → stop ≡ Stop.Failed e → ⊥
read_unfailed {c} {b} {b'} x f e g = go (read c (state b)) (rw (f, g) at x.is)
  where
    go : (t : Took) → Found.failed e (state b') ≡ found_of t → ⊥
    go (Took.word v st) k = let z : ◌≡◌ {A = ℕ} 0 1 = cc in omega arith
    go (Took.cut_short c st) k = let z : ◌≡◌ {A = ℕ} 0 1 = cc in omega arith

-- a wait ends by its handler's steps
pub ends_handled : {h : Handler} {q : List Step} {b b₁ : Bus} {e : BusError} → Reaches q b (handle b.setup h e) b₁ → Waits h q b b₁ (Err (Stop.Failed e))
ends_handled g = record { same = g.same; is = λ p. g.is p }

-- a wait ends where a read has no word, and where its error flag is not cleared
module _ {h : Handler} {q : List Step} {b : Bus} {i : Step} {q₁ : List Step} {b₁ : Bus} (g : Reaches q b (i ∷ q₁) b₁)
    {c : ℕ} {b₂ : Bus} {r : Result ℕ Stop} (x : ReadsAt c b₁ b₂ r) (a : access i ≡ Act.make (Access.read c)) where
  pub wait_unread : {stop : Stop} {r' : Result ⊤ Stop} → r ≡ Err stop → HandsOn stop r' → Waits h q b b₂ r'
  wait_unread e u = cut_waits u (read_unfailed x e) (read_stops g x a e u)

module _ {h : Handler} {q : List Step} {b b₁ : Bus} (w : Awaited) (l t v : ℕ) (g : Reaches q b (next b.setup (Step.poll w l h t) v) b₁)
    {a : BusError} (n : poll_error w v ≡ Some a) {b₂ : Bus} {r : Result ⊤ Stop} (y : Writes WriteCode.Sr1 (clear_word a) b₁ b₂ r) where
  pub wait_uncleared : {stop : Stop} {r' : Result ⊤ Stop} → r ≡ Err stop → HandsOn stop r' → Waits h q b b₂ r'
  wait_uncleared e u = cut_waits u (λ d f. write_unfailed _ _ (state b₁) (rw (e, f) at y.is)) (call_stops (write_does y) _ (rewritten (next_failed b.setup w l h t v n) g) e u)

  pub wait_failed : {k : ⊤} → r ≡ Ok k → Waits h q b b₂ (Err (Stop.Failed a))
  wait_failed e = ends_handled (call_step (write_does y) (handle b.setup h a) (rewritten (next_failed b.setup w l h t v n) g) e)

-- a poll's read
pub poll_step : {q : List Step} {b : Bus} {w : Awaited} {l : ℕ} {h : Handler} {t : ℕ} {b₁ : Bus} → Reaches q b (Step.poll w l h t ∷ []) b₁
    → {c : ℕ} → c ≡ polled_register w → {b₂ : Bus} {r : Result ℕ Stop} → ReadsAt c b₁ b₂ r → {v : ℕ} → r ≡ Ok v
    → Reaches q b (next b.setup (Step.poll w l h t) v) b₂
poll_step {w = w} g f x e = rewritten (append-nil _) (read_step g x (rw f) (rw f (polled_other w)) e refl)

-- a wait for a flag that is over at once: CYC, and the poll's read of SR1
pub wait_at_once : {q : List Step} {b : Bus} {f l : ℕ} {n : Source} {h : Handler} {q₁ : List Step} {b₁ : Bus} → Reaches q b (Step.timed (Awaited.Flag f n) l h ∷ q₁) b₁
    → {t : ℕ} {b₂ : Bus} → ReadsNext ReadCode.Cyc b₁ b₂ t → {v : ℕ} {b₃ : Bus} → ReadsNext ReadCode.Sr1 b₂ b₃ v
    → over (Awaited.Flag f n) (word_after ReadCode.Sr1 1 b₁) ≡ true → Reaches q b q₁ b₃
wait_at_once {b = b} {f} {l} {n} {h} g {t} x {v} y o =
    let w = Awaited.Flag f n in
    let first = read_step g x.reads refl refl refl (next_timed b.setup w l h t) in
    read_step first y.reads refl refl refl (next-over b.setup w l h t v (rw (y.word, x.later ReadCode.Sr1 0) o))

-- the wrapped difference
pub since_is : (r t v : ℕ) → (r + t) % 2 ^ 32 ≡ v → r < 2 ^ 32 → t < 2 ^ 32 → r ≡ since t v
unfolding since
since_is r t v e h k = omega arith

-- the polls of a wait by the parts of the bus, whose buffers hold at the end what they were left with
pub by_parts : {s : Setup} {w : Awaited} {l t v : ℕ} {b b' : Bus} {r : Result ⊤ Stop} → s ≡ b.setup → ((h : Handler) → Waits h (next b.setup (Step.poll w l h t) v) b b' r) → {lg rx : List ℕ}
    → lg ≡ b'.log.now → rx ≡ b'.rx.now → WaitsOn s w l t v (state b) (at b.readings.now lg rx b'.progress) r
by_parts {b = b} {b'} {r} u x {lg} {rx} e f = record { is = λ h p. rw u ((x h).is p ∙ ap (λ (st : State). handled b.setup h st r p) (left_at (x h).same.readings)) }
  where
    left_at : b'.readings.now ≡ b.readings.now → state b' ≡ at b.readings.now lg rx b'.progress
    left_at n = rw (n, e, f)

-- and then the bus has them
pub waits_by_parts : {q : List Step} {b b₁ : Bus} {w : Awaited} {l t v : ℕ} {h : Handler} → Reaches q b (next b.setup (Step.poll w l h t) v) b₁ → {b₂ : Bus} → Same b₁ b₂
    → {r : Result ⊤ Stop} → WaitsOn b₁.setup w l t v (state b₁) (state b₂) r → Waits h q b b₂ r
waits_by_parts {h = h} g y x = record { same = same_then g.same y; is = λ p. g.is p ∙ rw (← g.same.setup) (x.is h p) }
