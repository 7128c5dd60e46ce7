-- Programs replayed on a log: what two programs that one log is a trace of have in common.
-- Assumes nothing.
use Prim.Native.Nat.{ℕ}
use native.Mathlib.Omega.{arith}
use mathlib.Core.Bool.{Bool, true, false, cond}
use mathlib.Core.Path.{◌≡◌, refl, sym, ◌∙◌}
use mathlib.Core.List.{List, [], ◌∷◌, ◌++◌, append_assoc}
use lib.Dec.{leb}
use Rattle.units.specs.declared.Setup.{Setup}
use Rattle.registers.specs.declared.Source.{Source}
use Rattle.registers.specs.declared.BusError.{BusError}
use Rattle.registers.specs.declared.Entry.{Entry}
use Rattle.registers.specs.declared.Bits.{Bits}
use Rattle.std.specs.Prelude.{Option, Some, None}
use Rattle.registers.specs.declared.Awaited.{Awaited}
use Rattle.registers.specs.Word.{has, SB, BERR, STOP}
use Rattle.registers.specs.Access.{SR1, CYC, wCR1, wSR1, Access, code_of as access_code, Ending, number}
use Rattle.registers.specs.Machine.{Step, Handler, Act, clear, access, next, check_word, after_check, poll_word, poll_error, poll_ready, after_poll, handle, stop_for, since}
use Rattle.engine.proofs.Goes.{Goes, done, halted, full, lacks, wrote, took, error_number}

-- an entry is of the access that a step makes
abbrev pub Made : Act → Entry → Type 0
Made (Act.halt e) m = ⊥
Made (Act.make (Access.read r)) m = m.code ≡ r
Made (Act.make (Access.write r v)) m = (m.code ≡ r) × (m.value ≡ v)

-- the log is a trace of the steps: with the values read taken from it, they end well and use all of it
unfoldable pub Trace : Setup → List Entry → List Step → Type 0
Trace s [] [] = Unit {0}
Trace s [] (i ∷ p) = ⊥
Trace s (m ∷ l) [] = ⊥
Trace s (m ∷ l) (i ∷ p) = Made (access i) m × Trace s l (next s i m.value ++ p)

-- the log of steps that end well is a trace of them
pub goes_trace : {s : Setup} {p : List Step} {n : ℕ} {rs : List ℕ} {l : List Entry} {e : Ending} → Goes s p n rs l e → number e ≡ 0 → Trace s l p
unfolding Trace number
goes_trace done z = tt
goes_trace (halted e a) z = absurd (omega (arith, error_number e))
goes_trace (full a k) z = absurd (omega arith)
goes_trace (lacks r a t) z = absurd (omega arith)
goes_trace (wrote r v a t g) z = (rw a (refl, refl), goes_trace g z)
goes_trace (took r w a t g) z = (rw a refl, goes_trace g z)

-- where this log is a trace of both programs, P
pub record At (s : Setup) (P : Type 0) (l : List Entry) (p q : List Step) : Type 0 where
  pub so : Trace s l p → Trace s l q → P

-- whenever one log is a trace of both programs, P
pub record Both (s : Setup) (P : Type 0) (p q : List Step) : Type 0 where
  pub at : (l : List Entry) → At s P l p q

-- the code of the first access; 0 for none
abbrev pub code_of : Act → ℕ
code_of (Act.halt e) = 0
code_of (Act.make a) = access_code a

unfoldable pub first : List Step → ℕ
first [] = 0
first (i ∷ p) = code_of (access i)

-- its code
made_code : (a : Act) (m : Entry) → Made a m → m.code ≡ code_of a
made_code (Act.halt e) m h = elim h [ ]
made_code (Act.make (Access.read r)) m h = h
made_code (Act.make (Access.write r v)) m h = h.0

-- a trace's first code is that of the first access
first_code : (s : Setup) (m : Entry) (l : List Entry) (p : List Step) → Trace s (m ∷ l) p → m.code ≡ first p
unfolding Trace first
first_code s m l [] h = elim h [ ]
first_code s m l (i ∷ p) h = made_code (access i) m h.0

module _ {s : Setup} {P : Type 0} where
  -- both records made, and one read
  pub make : {p q : List Step} → ((l : List Entry) → Trace s l p → Trace s l q → P) → Both s P p q
  make f = record { at = λ l. record { so = f l } }

  pub here : (l : List Entry) {p q : List Step} → Both s P p q → At s P l p q
  here l b = b.at l

  -- other first accesses: no common trace
  pub apart : {p q : List Step} → (first p ≡ first q → ⊥) → Both s P p q
  unfolding Trace
  apart {p} {q} never = make (go p q never)
    where
      go : (p q : List Step) → (first p ≡ first q → ⊥) → (l : List Entry) → Trace s l p → Trace s l q → P
      go [] [] n [] g h = absurd (n refl)
      go [] (_ ∷ _) n [] g h = elim h [ ]
      go (_ ∷ _) q n [] g h = elim g [ ]
      go p q n (m ∷ l) g h = absurd (n (sym (first_code s m l p g) ∙ first_code s m l q h))

  -- the other way round, and for what follows from P, and for two such
  pub flip : {p q : List Step} → Both s P p q → Both s P q p
  flip b = make (λ l g h. (b.at l).so h g)

  pub weaken : {Q : Type 0} {p q : List Step} → (P → Q) → Both s P p q → Both s Q p q
  weaken f b = record { at = λ l. record { so = λ g h. f ((b.at l).so g h) } }

  pub pair : {Q : Type 0} {p q : List Step} → Both s P p q → Both s Q p q → Both s (P × Q) p q
  pair b c = record { at = λ l. record { so = λ g h. ((b.at l).so g h, (c.at l).so g h) } }

  -- a program without a trace
  pub traceless : {p q : List Step} → Both s ⊥ p p → Both s P p q
  traceless b = make (λ l g h. absurd ((b.at l).so g g))

  -- a step that ends the call badly
  pub failing : {e : BusError} {p q : List Step} → Both s P (Step.fail e ∷ p) q
  unfolding Trace
  failing {e} {p} {q} = make go
    where
      go : (l : List Entry) → Trace s l (Step.fail e ∷ p) → Trace s l q → P
      go [] g h = elim g [ ]
      go (m ∷ l) g h = absurd g.0

  -- a common prefix
  pub prefix : (x : List Step) {p q : List Step} → Both s P p q → Both s P (x ++ p) (x ++ q)
  unfolding Trace
  prefix x {p} {q} b = make (λ l. go l x)
    where
      go : (l : List Entry) (x : List Step) → Trace s l (x ++ p) → Trace s l (x ++ q) → P
      go [] [] g h = (b.at []).so g h
      go [] (i ∷ x) g h = elim g [ ]
      go (m ∷ l) [] g h = (b.at (m ∷ l)).so g h
      go (m ∷ l) (i ∷ x) g h = go l (next s i m.value ++ x) (rw append_assoc g.1) (rw append_assoc h.1)

  -- a step that both begin with
  pub skip : {i : Step} {p q : List Step} → Both s P p q → Both s P (i ∷ p) (i ∷ q)
  skip {i} b = prefix (i ∷ []) b

  -- two writes to one register have one value
  pub puts : {r v w : ℕ} {p q : List Step} → (v ≡ w → Both s P p q) → Both s P (Step.put r v ∷ p) (Step.put r w ∷ q)
  unfolding Trace next
  puts {r} {v} {w} {p} {q} b = make go
    where
      go : (l : List Entry) → Trace s l (Step.put r v ∷ p) → Trace s l (Step.put r w ∷ q) → P
      go [] g h = elim g [ ]
      go (m ∷ l) g h = ((b (sym g.0.1 ∙ h.0.1)).at l).so g.1 h.1

  -- any two steps, by induction: what takes their places, on the value recorded
  pub on : {i j : Step} {p q : List Step}
      → ((l : List Entry) → At s P l (i ∷ p) (j ∷ q) → (v : ℕ) → At s P l (next s i v ++ p) (next s j v ++ q))
      → Both s P (i ∷ p) (j ∷ q)
  unfolding Trace
  on {i} {j} {p} {q} b = make go
    where
      go : (l : List Entry) → Trace s l (i ∷ p) → Trace s l (j ∷ q) → P
      go [] g h = elim g [ ]
      go (m ∷ l) g h = (b l (record { so = go l }) m.value).so g.1 h.1

  -- the same for two pairs of programs that lead to each other
  pub on_both : {i j i' j' : Step} {p q p' q' : List Step}
      → ((l : List Entry) → At s P l (i ∷ p) (j ∷ q) → At s P l (i' ∷ p') (j' ∷ q') → (v : ℕ) → At s P l (next s i v ++ p) (next s j v ++ q))
      → ((l : List Entry) → At s P l (i ∷ p) (j ∷ q) → At s P l (i' ∷ p') (j' ∷ q') → (v : ℕ) → At s P l (next s i' v ++ p') (next s j' v ++ q'))
      → Both s P (i ∷ p) (j ∷ q)
  unfolding Trace
  on_both {i} {j} {i'} {j'} {p} {q} {p'} {q'} b b' = record { at = λ l. (go l).0 }
    where
      go : (l : List Entry) → At s P l (i ∷ p) (j ∷ q) × At s P l (i' ∷ p') (j' ∷ q')
      go [] = (record { so = λ g. absurd g }, record { so = λ g. absurd g })
      go (m ∷ l) = (
        record { so = λ g h. (b l (go l).0 (go l).1 m.value).so g.1 h.1 },
        record { so = λ g h. (b' l (go l).0 (go l).1 m.value).so g.1 h.1 },
      )

-- a handler that ends the call
pub data Ends : Handler → Type 0 where
  ends : Ends Handler.ends
  stops : Ends Handler.stops

-- so there is no trace of what it does with an error
handled : {s : Setup} {h : Handler} → Ends h → (e : BusError) (p : List Step) → Both s ⊥ (handle s h e ++ p) (handle s h e ++ p)
unfolding handle
handled ends e p = failing
handled stops e p = rw append_assoc (prefix (stop_for e) failing)

module _ {s : Setup} {P : Type 0} where
  -- set in CR1, and wait for STOP to clear and write SR1: the second access differs
  pub modify_or_wait : {up down : Bits} {p q : List Step} → Both s P (Step.modify up down ∷ p) (Step.stop_clear ∷ Step.put wSR1 0 ∷ q)
  unfolding next first
  modify_or_wait {up} {down} {p} {q} = on (λ l rec v. here l (then (has STOP v)))
    where
      then : {w : ℕ} (b : Bool) → Both s P (Step.put wCR1 w ∷ p) (cond b (Step.stop_clear ∷ []) [] ++ Step.put wSR1 0 ∷ q)
      then true = apart (omega arith)
      then false = apart (omega arith)

  -- set in CR1, whatever bits
  pub modifies : {up down up' down' : Bits} {p q : List Step} → Both s P p q → Both s P (Step.modify up down ∷ p) (Step.modify up' down' ∷ q)
  unfolding next
  modifies b = on (λ l rec v. here l (puts (λ e. b)))

  -- check until SB and then check, and SR1 reads until SB and then an SR2 read
  pub check_or_flag : {n : Source} {p q : List Step} → Both s P (Step.check SB n ∷ Step.check_master ∷ p) (Step.flag SB ∷ Step.master ∷ q)
  unfolding next first after_check
  check_or_flag {n} {p} {q} = on (λ l rec v. then (check_word n v) (has BERR v) (has SB v) l rec)
    where
      then : (c : Option BusError) (berr b : Bool) (l : List Entry)
          → At s P l (Step.check SB n ∷ Step.check_master ∷ p) (Step.flag SB ∷ Step.master ∷ q)
          → At s P l (after_check c berr (cond b [] (Step.check SB n ∷ [])) ++ Step.check_master ∷ p) (cond b [] (Step.flag SB ∷ []) ++ Step.master ∷ q)
      then (Some e) berr b l rec = here l (traceless (skip failing))
      then None true true l rec = here l (apart (omega arith))
      then None true false l rec = here l (apart (omega arith))
      then None false true l rec = here l (apart (omega arith))
      then None false false l rec = rec

  -- checks until two flags, after which the first accesses differ and neither reads SR1
  pub checks : {f g : ℕ} {n : Source} {p q : List Step} → (first p ≡ first q → ⊥) → (first p ≡ SR1 → ⊥) → (first q ≡ SR1 → ⊥)
      → Both s P (Step.check f n ∷ p) (Step.check g n ∷ q)
  unfolding next first after_check
  checks {f} {g} {n} {p} {q} pq ps qs =
      on_both
      (λ l rec cleared v. then (check_word n v) (has BERR v) (has f v) (has g v) l rec cleared)
      (λ l rec cleared v. rec)
    where
      then : (c : Option BusError) (berr b b' : Bool) (l : List Entry) → At s P l (Step.check f n ∷ p) (Step.check g n ∷ q)
          → At s P l (clear BusError.Bus ∷ Step.check f n ∷ p) (clear BusError.Bus ∷ Step.check g n ∷ q)
          → At s P l (after_check c berr (cond b [] (Step.check f n ∷ [])) ++ p) (after_check c berr (cond b' [] (Step.check g n ∷ [])) ++ q)
      then (Some e) berr b b' l rec cleared = here l (traceless (skip failing))
      then None true true true l rec cleared = here l (skip (apart pq))
      then None true true false l rec cleared = here l (skip (apart ps))
      then None true false true l rec cleared = here l (skip (apart (λ e. qs (sym e))))
      then None true false false l rec cleared = cleared
      then None false true true l rec cleared = here l (apart pq)
      then None false true false l rec cleared = here l (apart ps)
      then None false false true l rec cleared = here l (apart (λ e. qs (sym e)))
      then None false false false l rec cleared = rec

  -- timed waits for two flags, after which the first accesses differ and neither reads the counter
  pub waits : {f g : ℕ} {n : Source} {c : ℕ} {h : Handler} {p q : List Step} → Ends h
      → (first p ≡ first q → ⊥) → (first p ≡ CYC → ⊥) → (first q ≡ CYC → ⊥)
      → Both s P (Step.timed (Awaited.Flag f n) c h ∷ p) (Step.timed (Awaited.Flag g n) c h ∷ q)
  unfolding next after_poll poll_error poll_ready first
  waits {f} {g} {n} {c} {h} {p} {q} end pq pc qc =
      on (λ l rec t. here l (on_both
      (λ l rec later v. polled t (poll_word n v) (has f v) (has g v) l later)
      (λ l rec later v. late t (leb c (since t v)) l rec)))
    where
      polled : (t : ℕ) (w : Option BusError) (b b' : Bool) (l : List Entry)
          → At s P l (Step.late (Awaited.Flag f n) c h t ∷ p) (Step.late (Awaited.Flag g n) c h t ∷ q)
          → At s P l (after_poll s h w b (Step.late (Awaited.Flag f n) c h t) ++ p) (after_poll s h w b' (Step.late (Awaited.Flag g n) c h t) ++ q)
      polled t (Some e) b b' l rec = here l (traceless (skip (handled end e p)))
      polled t None true true l rec = here l (apart pq)
      polled t None true false l rec = here l (apart pc)
      polled t None false true l rec = here l (apart (λ e. qc (sym e)))
      polled t None false false l rec = rec

      late : (t : ℕ) (b : Bool) (l : List Entry)
          → At s P l (Step.poll (Awaited.Flag f n) c h t ∷ p) (Step.poll (Awaited.Flag g n) c h t ∷ q)
          → At s P l (cond b (handle s h BusError.Timeout) (Step.poll (Awaited.Flag f n) c h t ∷ []) ++ p) (cond b (handle s h BusError.Timeout) (Step.poll (Awaited.Flag g n) c h t ∷ []) ++ q)
      late t true l rec = here l (traceless (handled end BusError.Timeout p))
      late t false l rec = rec
