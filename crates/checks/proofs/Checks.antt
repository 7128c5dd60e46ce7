-- The laws of a check: what makes up its answer, and how it carries the run on.
-- Assumes nothing.
use Prim.Native.Nat.{ℕ, ◌≤◌, ◌<◌}
use native.Mathlib.Omega.{arith}
use mathlib.Core.Bool.{Bool, true, false, cond}
use mathlib.Core.Path.{◌≡◌, refl, sym, ap, ◌∙◌}
use mathlib.Core.List.{List, [], ◌∷◌, ◌++◌, append_assoc}
use Rattle.std.specs.Result.{result_and}
use Rattle.std.specs.Prelude.{Option, Some, None, Result, Ok, Err, ⊤}
use Rattle.units.specs.declared.Setup.{Setup}
use Rattle.registers.specs.declared.BusError.{BusError}
use Rattle.registers.specs.declared.ReadCode.{ReadCode}
use Rattle.registers.specs.declared.WriteCode.{WriteCode}
use Rattle.registers.specs.declared.Source.{Source}
use Rattle.registers.specs.declared.Stop.{Stop}
use Rattle.registers.specs.declared.access.Bus.{Bus}
use Rattle.registers.specs.Word.{has, BERR}
use Rattle.registers.specs.Access.{SR1, wSR1, clear_word, Access}
use Rattle.registers.specs.Machine.{Step, Act, access, next, check_word, after_check}
use Rattle.registers.specs.State.{State, After, Took, Found, then, taking, finding, entry, received, room, resume, read, write, check, check_flags, found_then, found_word}
use Rattle.registers.specs.Contract.{state, outcome, found, Reads, Writes, Checks, Does, Reaches}
use Rattle.registers.proofs.Laws.{read_law, write_law, fail_law, received_other, read-room, write-room}
use Rattle.registers.proofs.Steps.{HandsOn, handed_on, read_word, read_cut, read_unfailed, same_then}

-- a clear that is cut short
found_stop : (stop : Stop) (st : State) (k : State → Found) → found st (Err stop) ≡ found_then (outcome st (Err stop)) k
found_stop (Stop.Failed e) st k = refl
found_stop (Stop.CutShort c) st k = refl

-- the answer of a check, from its read and its clear
module _ {n : Source} {b b₁ : Bus} {r : Result ℕ Stop} (x : Reads ReadCode.Sr1 b b₁ r) where
  none : (stop : Stop) → r ≡ Err stop → (r' : Result ℕ Stop) → HandsOn stop r' → Checks n b b₁ r'
  unfolding check
  none (Stop.Failed a) e r' h = absurd (read_unfailed x e)
  none (Stop.CutShort c) e r' h = record { same = x.same; is = rw (handed_on r' h, read_cut x e) }

  pub check_none : {stop : Stop} → r ≡ Err stop → {r' : Result ℕ Stop} → HandsOn stop r' → Checks n b b₁ r'
  check_none {stop} e {r'} h = none stop e r' h

  module _ {v : ℕ} (e : r ≡ Ok v) {f : Option BusError} (d : f ≡ check_word n v) where
    pub check_fine : f ≡ None → has BERR v ≡ false → Checks n b b₁ (Ok v)
    unfolding check
    check_fine h t = record { same = x.same; is = rw (read_word x e, ← d, h, t) }

    -- an error: its flag is cleared
    module _ {a : BusError} (h : f ≡ Some a) {b₂ : Bus} {o : Result ⊤ Stop} (y : Writes WriteCode.Sr1 (clear_word a) b₁ b₂ o) where
      pub check_error : {t : ⊤} → o ≡ Ok t → Checks n b b₂ (Err (Stop.Failed a))
      unfolding check
      check_error k = record { same = same_then x.same y.same; is = rw (read_word x e, ← d, h, ← y.is, k) }

      pub check_error_stops : {stop : Stop} → o ≡ Err stop → {r' : Result ℕ Stop} → HandsOn stop r' → Checks n b b₂ r'
      unfolding check
      check_error_stops {stop} k {r'} i =
          record {
            same = same_then x.same y.same;
            is = rw (read_word x e, ← d, h, ← y.is, k, handed_on r' i) (found_stop stop (state b₂) (λ st'. Found.failed a st'));
          }

    -- BERR alone: it is cleared, and the word is used
    module _ (h : f ≡ None) (t : has BERR v ≡ true) {b₂ : Bus} {o : Result ⊤ Stop} (y : Writes WriteCode.Sr1 (clear_word BusError.Bus) b₁ b₂ o) where
      pub check_spurious : {u : ⊤} → o ≡ Ok u → Checks n b b₂ (Ok v)
      unfolding check
      check_spurious k = record { same = same_then x.same y.same; is = rw (read_word x e, ← d, h, t, ← y.is, k) }

      pub check_spurious_stops : {stop : Stop} → o ≡ Err stop → {r' : Result ℕ Stop} → HandsOn stop r' → Checks n b b₂ r'
      unfolding check
      check_spurious_stops {stop} k {r'} i =
          record {
            same = same_then x.same y.same;
            is = rw (read_word x e, ← d, h, t, ← y.is, k, handed_on r' i) (found_stop stop (state b₂) (λ st'. Found.word v st'));
          }

-- the step i checks with the source n: on the word v, what follows it is m v
pub record Checking (s : Setup) (i : Step) (n : Source) (m : ℕ → List Step) : Type 0 where
  pub reads : access i ≡ Act.make (Access.read SR1)
  pub follows : (v : ℕ) → next s i v ≡ after_check (check_word n v) (has BERR v) (m v)

-- the three steps that check
pub check_checks : {s : Setup} {f : ℕ} {n : Source} → Checking s (Step.check f n) n (λ v. cond (has f v) [] (Step.check f n ∷ []))
unfolding next
check_checks = record { reads = refl; follows = λ v. refl }

pub check_twice_checks : {s : Setup} {f : ℕ} {n : Source} → Checking s (Step.check_twice f n) n (λ v. Step.checked_twice f n ∷ [])
unfolding next
check_twice_checks = record { reads = refl; follows = λ v. refl }

pub check_master_checks : {s : Setup} → Checking s Step.check_master Source.Unknown (λ v. Step.checked_master ∷ [])
unfolding next
check_master_checks = record { reads = refl; follows = λ v. refl }

-- what such a step comes to
pub check_law : {s : Setup} {i : Step} {n : Source} {m : ℕ → List Step} → Checking s i n m → (p : List Step) (st : State)
    → resume s (i ∷ p) st ≡ finding (check n st) (λ v st'. resume s (m v ++ p) st')
unfolding check after_check
check_law {s} {i} {n} {m} d p st = read_law s i SR1 p st d.reads refl ∙ go (read SR1 st)
  where
    on : ℕ → State → After
    on v st' = resume s (m v ++ p) st'

    error : (e : BusError) (w : After) → then w (resume s (Step.fail e ∷ p)) ≡ finding (found_then w (λ st'. Found.failed e st')) on
    error e (After.going st) = fail_law s e p st
    error e (After.failed e' st) = refl
    error e (After.cut_short c st) = refl

    spurious : (v : ℕ) (w : After) → then w (resume s (m v ++ p)) ≡ finding (found_then w (λ st'. Found.word v st')) on
    spurious v (After.going st) = refl
    spurious v (After.failed e st) = refl
    spurious v (After.cut_short c st) = refl

    flags : (f : Option BusError) (t : Bool) (v : ℕ) (st : State) → resume s (after_check f t (m v) ++ p) st ≡ finding (check_flags f t v st) on
    flags (Some e) t v st = write_law s wSR1 (clear_word e) (Step.fail e ∷ p) st refl ∙ error e (write wSR1 (clear_word e) st)
    flags None true v st = write_law s wSR1 (clear_word BusError.Bus) (m v ++ p) st refl ∙ spurious v (write wSR1 (clear_word BusError.Bus) st)
    flags None false v st = refl

    go : (t : Took) → taking t (λ v st'. resume s (next s i v ++ p) (received (entry SR1 v) st'))
        ≡ finding (found_word t (λ v st'. check_flags (check_word n v) (has BERR v) v st')) on
    go (Took.word v st) = rw (d.follows, received_other (entry SR1 v) st refl) (flags (check_word n v) (has BERR v) v st)
    go (Took.cut_short c st) = refl

-- a check for the step i
module _ {q : List Step} {b : Bus} {i : Step} {q₁ : List Step} {b₁ : Bus} (g : Reaches q b (i ∷ q₁) b₁)
    {n : Source} {b₂ : Bus} {r : Result ℕ Stop} (x : Checks n b₁ b₂ r)
    {m : ℕ → List Step} (d : Checking b.setup i n m) where
  onward_check : (p : List Step) → resume b.setup (q ++ p) (state b) ≡ finding (found (state b₂) r) (λ v st'. resume b.setup (m v ++ (q₁ ++ p)) st')
  onward_check p = g.is p ∙ check_law d (q₁ ++ p) (state b₁) ∙ rw (← x.is)

  pub check_step : {v : ℕ} → r ≡ Ok v → {m' : List Step} → m v ≡ m' → Reaches q b (m' ++ q₁) b₂
  check_step e {m'} h = record { same = same_then g.same x.same; is = λ p. onward_check p ∙ rw (e, h, append_assoc m' q₁ p) }

  -- with no word the call ends as the check did
  pub check_stops : {t : ⊤} → ((v : ℕ) → r ≡ Ok v → ⊥) → Does q b b₂ (result_and r (Ok t))
  check_stops {t} h = record { same = same_then g.same x.same; is = λ p. onward_check p ∙ go r h p _ }
    where
      go : (r : Result ℕ Stop) → ((v : ℕ) → r ≡ Ok v → ⊥) → (p : List Step) (k : ℕ → State → After)
          → finding (found (state b₂) r) k ≡ then (outcome (state b₂) (result_and r (Ok t))) (resume b.setup p)
      go (Ok v) h p k = absurd (h v refl)
      go (Err (Stop.Failed e)) h p k = refl
      go (Err (Stop.CutShort c)) h p k = refl

-- a check that answers a word leaves less room
pub check_less : {n : Source} {b b' : Bus} {r : Result ℕ Stop} {v : ℕ} → Checks n b b' r → r ≡ Ok v → room (state b') < room (state b)
unfolding check
check_less {n} {b} {b'} {r} {v} x e = go (read SR1 (state b)) refl (ap (found (state b')) (sym e) ∙ x.is)
  where
    answer : Found
    answer = Found.word v (state b')

    -- the clear of an error ends in no word; that of BERR leaves no more room than before
    error : (a : BusError) (w : After) → answer ≡ found_then w (λ st'. Found.failed a st') → ⊥
    error a (After.going st') h = let z : ◌≡◌ {A = ℕ} 0 1 = cc in omega arith
    error a (After.failed e' st') h = let z : ◌≡◌ {A = ℕ} 0 1 = cc in omega arith
    error a (After.cut_short c st') h = let z : ◌≡◌ {A = ℕ} 0 1 = cc in omega arith

    spurious : (st₁ : State) (w : ℕ) (o : After) → o ≡ write wSR1 (clear_word BusError.Bus) st₁ → answer ≡ found_then o (λ st'. Found.word w st')
        → room (state b') ≤ room st₁
    spurious st₁ w (After.going st') k h =
        let y : state b' ≡ st' = cc in
        omega (arith, ap room y, write-room wSR1 (clear_word BusError.Bus) st₁ k)
    spurious st₁ w (After.failed e' st') k h = let z : ◌≡◌ {A = ℕ} 0 1 = cc in absurd (omega arith)
    spurious st₁ w (After.cut_short c st') k h = let z : ◌≡◌ {A = ℕ} 0 1 = cc in absurd (omega arith)

    flags : (f : Option BusError) (t : Bool) (w : ℕ) (st₁ : State) → answer ≡ check_flags f t w st₁ → room (state b') ≤ room st₁
    flags (Some a) t w st₁ h = absurd (error a (write wSR1 (clear_word a) st₁) h)
    flags None true w st₁ h = spurious st₁ w (write wSR1 (clear_word BusError.Bus) st₁) refl h
    flags None false w st₁ h = let y : state b' ≡ st₁ = cc in omega (arith, ap room y)

    go : (t : Took) → read SR1 (state b) ≡ t → answer ≡ found_word t (λ w st'. check_flags (check_word n w) (has BERR w) w st') → room (state b') < room (state b)
    go (Took.word w st₁) k h = omega (arith, read-room SR1 (state b) (sym k), flags (check_word n w) (has BERR w) w st₁ h)
    go (Took.cut_short c st₁) k h = let z : ◌≡◌ {A = ℕ} 0 1 = cc in absurd (omega arith)

-- a test that came out, in a choice
pub cond_true : {A : Type 0} {t : Bool} (x y : A) → t ≡ true → cond t x y ≡ x
cond_true x y e = rw e

pub cond_false : {A : Type 0} {t : Bool} (x y : A) → t ≡ false → cond t x y ≡ y
cond_false x y e = rw e
