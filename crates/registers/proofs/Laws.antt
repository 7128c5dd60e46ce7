-- The laws of one access: what it does to what is still to come of a run. Only here are lists taken apart.
-- Assumes nothing.
use Prim.Native.Nat.{ℕ, zero, suc, ◌+◌, ◌-◌, ◌%◌, ◌^◌, ◌≤◌, ◌<◌}
use native.Mathlib.Omega.{arith}
use mathlib.Core.Bool.{Bool, true, false, cond}
use mathlib.Core.Path.{◌≡◌, refl, ap, ◌∙◌}
use mathlib.Core.List.{List, [], ◌∷◌, ◌++◌}
use lib.ListN.{length, get_or, length-set, drop_of_length-le}
use lib.Seq.{drop-drop, drop-cons}
use borrow.Author.Tests.{eq-eqb, ne_eqb, eqb-true, leb-false}
use Rattle.units.specs.declared.Setup.{Setup}
use Rattle.registers.specs.declared.Progress.{Progress}
use Rattle.registers.specs.declared.ReadCode.{ReadCode}
use Rattle.registers.specs.declared.WriteCode.{WriteCode}
use Rattle.registers.specs.declared.BusError.{BusError}
use Rattle.registers.specs.declared.Cut.{Cut}
use Rattle.registers.specs.declared.Entry.{Entry}
use Rattle.registers.specs.Access.{is_read, is_data, cut, CYC, DR, store, entries_in, Ending, Access}
use Rattle.registers.specs.Machine.{Step, Act, access, next, exec, exec_on, exec_full, perform, no_room}
use Rattle.registers.specs.Contract.{read_code, write_code}
use Rattle.registers.specs.State.{State, After, Took, at, going, word, then, taking, entry, recorded, received, replay, room, left, after, resume, read_one, read, write_one, write}

pub length-store : (lg : List ℕ) (k : ℕ) (e : Entry) → length (store lg k e) ≡ length lg
unfolding store
length-store lg k e = simp length-set

pub room-recorded : (e : Entry) (st : State) → room (recorded e st) ≡ room st - 1
unfolding room recorded
room-recorded e (at rs lg rx b) = rw length-store (omega arith)

left-read : (e : Entry) (st : State) (w : ℕ) (ws : List ℕ) → is_read e.code ≡ true → left st ≡ w ∷ ws → left (recorded e st) ≡ ws
unfolding left recorded
left-read e (at rs lg rx b) w ws t h = rw (t, ← drop-drop 1 b.used rs, h)

left-write : (e : Entry) (st : State) → is_read e.code ≡ false → left (recorded e st) ≡ left st
unfolding left recorded
left-write e (at rs lg rx b) t = rw t

-- receiving a byte touches neither the record nor the readings
pub room-received : (e : Entry) (st : State) → room (received e st) ≡ room st
unfolding room received
room-received e (at rs lg rx b) = refl

left-received : (e : Entry) (st : State) → left (received e st) ≡ left st
unfolding left received
left-received e (at rs lg rx b) = refl

pub received_other : (e : Entry) (st : State) → is_data e.code ≡ false → received e st ≡ st
unfolding received
received_other e (at rs lg rx b) t = rw t

-- a step that reads
pub read_law : (s : Setup) (i : Step) (c : ℕ) (p : List Step) (st : State) → access i ≡ Act.make (Access.read c) → is_read c ≡ true
    → resume s (i ∷ p) st ≡ taking (read c st) (λ v st'. resume s (next s i v ++ p) (received (entry c v) st'))
unfolding resume read exec exec_on exec_full no_room perform after replay read_one
read_law s i c p st e t = go (room st) (left st) refl refl
  where
    on : ℕ → State → After
    on v st' = resume s (next s i v ++ p) (received (entry c v) st')

    go : (n : ℕ) (rs : List ℕ) → room st ≡ n → left st ≡ rs
        → after (exec s n (i ∷ p) rs).ending (replay (exec s n (i ∷ p) rs).log st) ≡ taking (read_one c st rs n) on
    go zero rs h k = rw e
    go (suc n) [] h k = rw e
    go (suc n) (w ∷ rs) h k =
        let x = entry c (cut c w) in
        let r : room (received x (recorded x st)) ≡ n = omega (arith, room-received x (recorded x st), room-recorded x st) in
        let l : left (received x (recorded x st)) ≡ rs = left-received x (recorded x st) ∙ left-read x st w rs t k in
        rw (e, r, l)

-- a step that writes
pub write_law : (s : Setup) (c v : ℕ) (p : List Step) (st : State) → is_read c ≡ false
    → resume s (Step.put c v ∷ p) st ≡ then (write c v st) (resume s p)
unfolding resume write exec exec_on exec_full no_room perform after replay write_one next
write_law s c v p st t = go (room st) refl
  where
    other : is_data c ≡ false
    other = ne_eqb c DR (λ q. omega (arith, leb-false c CYC t))

    go : (n : ℕ) → room st ≡ n
        → after (exec s n (Step.put c v ∷ p) (left st)).ending (replay (exec s n (Step.put c v ∷ p) (left st)).log st) ≡ then (write_one c v st n) (resume s p)
    go zero h = refl
    go (suc n) h =
        let r : room (recorded (entry c v) st) ≡ n = omega (arith, room-recorded (entry c v) st) in
        let e = exec s n p (left st) in
        ap (λ (st' : State). after e.ending (replay e.log st')) (received_other (entry c v) (recorded (entry c v) st) other)
        ∙ rw (r, left-write (entry c v) st t)

-- a step that ends the call
pub fail_law : (s : Setup) (e : BusError) (p : List Step) (st : State) → resume s (Step.fail e ∷ p) st ≡ After.failed e st
unfolding resume exec exec_on exec_full no_room perform after replay
fail_law s e p st = go (room st)
  where
    go : (n : ℕ) → after (exec s n (Step.fail e ∷ p) (left st)).ending (replay (exec s n (Step.fail e ∷ p) (left st)).log st) ≡ After.failed e st
    go zero = refl
    go (suc n) = refl

-- no step
pub done_law : (s : Setup) (st : State) → resume s [] st ≡ going st
unfolding resume exec exec_on exec_full after replay
done_law s st = go (room st)
  where
    go : (n : ℕ) → after (exec s n [] (left st)).ending (replay (exec s n [] (left st)).log st) ≡ going st
    go zero = refl
    go (suc n) = refl

-- an access leaves less room
pub read-room : (c : ℕ) (st : State) {v : ℕ} {st' : State} → word v st' ≡ read c st → room st' < room st
unfolding read read_one
read-room c st {v} {st'} = go (left st) (room st) refl
  where
    go : (ws : List ℕ) (n : ℕ) → room st ≡ n → word v st' ≡ read_one c st ws n → room st' < room st
    go ws zero h k = let z : ◌≡◌ {A = ℕ} 0 1 = cc in absurd (omega arith)
    go [] (suc n) h k = let z : ◌≡◌ {A = ℕ} 0 1 = cc in absurd (omega arith)
    go (w ∷ ws) (suc n) h k =
        let x = entry c (cut c w) in
        let e : st' ≡ recorded x st = cc in
        omega (arith, ap room e, room-recorded x st)

pub write-room : (c v : ℕ) (st : State) {st' : State} → going st' ≡ write c v st → room st' < room st
unfolding write write_one
write-room c v st {st'} = go (room st) refl
  where
    go : (n : ℕ) → room st ≡ n → going st' ≡ write_one c v st n → room st' < room st
    go zero h k = let z : ◌≡◌ {A = ℕ} 0 1 = cc in absurd (omega arith)
    go (suc n) h k =
        let e : st' ≡ recorded (entry c v) st = cc in
        omega (arith, ap room e, room-recorded (entry c v) st)

-- a write meets no bus error
pub write_unfailed : (c v : ℕ) (st : State) {e : BusError} {st' : State} → After.failed e st' ≡ write c v st → ⊥
unfolding write write_one
write_unfailed c v st {e} {st'} = go (room st)
  where
    go : (n : ℕ) → After.failed e st' ≡ write_one c v st n → ⊥
    go zero k = let z : ◌≡◌ {A = ℕ} 0 1 = cc in omega arith
    go (suc n) k = let z : ◌≡◌ {A = ℕ} 0 1 = cc in omega arith

-- one access at a state written out
module _ (rs lg rx : List ℕ) (b : Progress) where
  pub read-full : (c : ℕ) → entries_in (length lg) ≤ b.made → read c (at rs lg rx b) ≡ Took.cut_short (Cut.NoRecord c) (at rs lg rx b)
  unfolding read read_one room left
  read-full c h =
      let e : entries_in (length lg) - b.made ≡ 0 = omega arith in
      rw e

  pub read_empty : (c : ℕ) → b.made < entries_in (length lg) → length rs ≤ b.used → read c (at rs lg rx b) ≡ Took.cut_short Cut.NoReadings (at rs lg rx b)
  unfolding read read_one room left
  read_empty c h k =
      let e : entries_in (length lg) - b.made ≡ suc (entries_in (length lg) - b.made - 1) = omega arith in
      rw (e, drop_of_length-le rs k)

  -- a read in full: what the leaf function leaves
  pub read_done : (c v : ℕ) (lg' : List ℕ) → is_read c ≡ true → b.made < entries_in (length lg) → b.used < length rs
      → v ≡ cut c (get_or rs b.used 0) → lg' ≡ store lg b.made (entry c v)
      → Took.word v (at rs lg' rx (record { used = b.used + 1; made = b.made + 1; got = b.got })) ≡ read c (at rs lg rx b)
  unfolding read read_one room left recorded
  read_done c v lg' t h k e f =
      let n : entries_in (length lg) - b.made ≡ suc (entries_in (length lg) - b.made - 1) = omega arith in
      rw (n, drop-cons rs b.used 0 k, ← e, t, f)

  pub write-full : (c v : ℕ) → entries_in (length lg) ≤ b.made → write c v (at rs lg rx b) ≡ After.cut_short (Cut.NoRecord c) (at rs lg rx b)
  unfolding write write_one room
  write-full c v h =
      let e : entries_in (length lg) - b.made ≡ 0 = omega arith in
      rw e

  pub write_done : (c v : ℕ) (lg' : List ℕ) → is_read c ≡ false → b.made < entries_in (length lg) → lg' ≡ store lg b.made (entry c v)
      → going (at rs lg' rx (record { used = b.used; made = b.made + 1; got = b.got })) ≡ write c v (at rs lg rx b)
  unfolding write write_one room recorded
  write_done c v lg' t h f =
      let n : entries_in (length lg) - b.made ≡ suc (entries_in (length lg) - b.made - 1) = omega arith in
      rw (n, t, f)

-- the codes, and the cut of a reading
pub reads_code : (c : ReadCode) → is_read (read_code c) ≡ true
reads_code ReadCode.Sr1 = refl
reads_code ReadCode.Sr2 = refl
reads_code ReadCode.Cr1 = refl
reads_code ReadCode.Dr = refl
reads_code ReadCode.Cyc = refl

pub writes_code : (c : WriteCode) → is_read (write_code c) ≡ false
writes_code WriteCode.Cr1 = refl
writes_code WriteCode.Cr2 = refl
writes_code WriteCode.Ccr = refl
writes_code WriteCode.Trise = refl
writes_code WriteCode.Sr1 = refl
writes_code WriteCode.Dr = refl

pub cut_cycles : (c w : ℕ) → c ≡ CYC → w < 2 ^ 32 → w ≡ cut c w
unfolding cut
cut_cycles c w e h = rw (eq-eqb c CYC e) (omega arith)

pub cut_register : (c w : ℕ) → (c ≡ CYC → ⊥) → w % 65536 ≡ cut c w
unfolding cut
cut_register c w e = rw (ne_eqb c CYC e)

-- the bytes received are at most the readings used
abbrev pub Fewer : State → Type 0
Fewer (at rs lg rx b) = b.got ≤ b.used

fewer_replayed : (e : Entry) (st : State) → Fewer st → Fewer (received e (recorded e st))
unfolding recorded received
fewer_replayed e (at rs lg rx b) h = go (is_data e.code) (is_read e.code) refl refl
  where
    go : (t u : Bool) → is_data e.code ≡ t → is_read e.code ≡ u → cond t (b.got + 1) b.got ≤ cond u (b.used + 1) b.used
    go true true p q = omega arith
    go true false p q = absurd (omega (arith, eqb-true e.code DR p, leb-false e.code CYC q))
    go false true p q = omega arith
    go false false p q = omega arith

replay_fewer : (es : List Entry) (st : State) → Fewer st → Fewer (replay es st)
unfolding replay
replay_fewer [] st h = h
replay_fewer (e ∷ es) st h = replay_fewer es (received e (recorded e st)) (fewer_replayed e st h)

-- the state that steps leave, however they end
abbrev pub state_after : After → State
state_after (going st) = st
state_after (After.failed e st) = st
state_after (After.cut_short c st) = st

pub after_fewer : (s : Setup) (q : List Step) (st : State) → Fewer st → Fewer (state_after (resume s q st))
unfolding resume after
after_fewer s q st h = go (exec s (room st) q (left st)).ending
  where
    go : (n : Ending) → Fewer (state_after (after n (replay (exec s (room st) q (left st)).log st)))
    go Ending.well = replay_fewer _ st h
    go (Ending.failed a) = replay_fewer _ st h
    go (Ending.cut_short c) = replay_fewer _ st h

pub resume_fewer : (s : Setup) (q : List Step) (st st' : State) → resume s q st ≡ going st' → Fewer st → Fewer st'
resume_fewer s q st st' e h = rw e at (after_fewer s q st h)
