-- The steps of two reduced calls told apart by a common trace.
-- Assumes nothing.
use Prim.Native.Nat.{ℕ, zero, suc}
use native.Mathlib.Omega.{arith}
use mathlib.Core.Bool.{Bool, true, false}
use mathlib.Core.Path.{◌≡◌, refl, ap, ap₂, sym}
use mathlib.Core.List.{List, [], ◌∷◌, ◌++◌, append_assoc}
use Rattle.units.specs.declared.Setup.{Setup}
use Rattle.buslist.specs.declared.Address.{Address}
use Rattle.buslist.specs.Meaning.{Operation, write, read}
use Rattle.registers.specs.Word.{BTF}
use Rattle.registers.specs.Access.{SR1, CR1, CYC, wSR1, wDR}
use Rattle.registers.specs.Machine.{Step, start}
use Rattle.i2c.specs.declared.Previous.{Previous}
use Rattle.i2c.specs.Polling.{address_byte, first_byte, send_low_byte, request_write, prepare_write, start_read, repeat_start, address_read, prepare_read, write_bytes, read_bytes, last_read, turn_write, turn_read, turn, transfer, direction, is_last, polling_steps}
use Rattle.blocking_write.specs.Write.{send_start_and_wait, send_addr_and_wait, write_wait, later_bytes, write_bytes_and_wait, write_without_stop}
use Rattle.blocking.specs.Blocking.{close, read_wait, receive_bytes, read_one, read_two, read_arm, read_steps, close_after, blocking_steps}
use Rattle.demands.specs.Compare.{ends_empty}
use Rattle.demands.proofs.Shape.{Full}
use Rattle.demands.proofs.Trace.{Both, ends, stops, first, apart, flip, prefix, skip, puts, modifies, modify_or_wait, check_or_flag, checks, waits}

-- operations that each turn the direction, after this one before them
abbrev pub Turns : Previous → List Operation → Type 0
Turns previous [] = Unit {0}
Turns Previous.Nothing (o ∷ os) = Turns (direction o) os
Turns Previous.Write (write bs ∷ os) = ⊥
Turns Previous.Write (read n ∷ os) = Turns Previous.Read os
Turns Previous.Read (write bs ∷ os) = Turns Previous.Write os
Turns Previous.Read (read n ∷ os) = ⊥

module _ {s : Setup} {P : Type 0} {p q : List Step} where
  -- bytes sent, where a CR1 read follows
  same_bytes : (bs cs : List ℕ) → first p ≡ CR1 → first q ≡ CR1 → (bs ≡ cs → Both s P p q) → Both s P (write_bytes bs ++ p) (write_bytes cs ++ q)
  unfolding write_bytes first
  same_bytes [] [] hp hq k = k refl
  same_bytes [] (c ∷ cs) hp hq k = apart (omega arith)
  same_bytes (b ∷ bs) [] hp hq k = apart (omega arith)
  same_bytes (b ∷ bs) (c ∷ cs) hp hq k = skip (puts (λ e. skip (same_bytes bs cs hp hq (λ es. k (ap₂ ◌∷◌ e es)))))

  -- bytes received, where a CR1 read follows
  same_reads : (m n : ℕ) → first p ≡ CR1 → first q ≡ CR1 → (m ≡ n → Both s P p q) → Both s P (read_bytes m ++ p) (read_bytes n ++ q)
  unfolding read_bytes first
  same_reads zero zero hp hq k = k refl
  same_reads zero (suc n) hp hq k = apart (omega arith)
  same_reads (suc m) zero hp hq k = apart (omega arith)
  same_reads (suc m) (suc n) hp hq k = skip (skip (same_reads m n hp hq (λ e. k (ap suc e))))

-- an operation once prepared, those after it, and what follows
abbrev opened : Address → Operation → List Operation → List Step → List Step
opened a o os p = transfer (is_last os) o ++ (polling_steps false a (direction o) os ++ p)

module _ {s : Setup} {P : Type 0} {p q : List Step} (a : Address) where
  mutual
    unfolding polling_steps transfer last_read turn turn_read turn_write first ends_empty

    -- two writes, prepared, and what follows each
    writes : (bs cs : List ℕ) (os ps : List Operation) → Turns Previous.Write os → Turns Previous.Write ps
        → Full (write bs ∷ os) → Full (write cs ∷ ps)
        → (◌≡◌ {A = List Operation} (write bs ∷ os) (write cs ∷ ps) → Both s P p q)
        → Both s P (opened a (write bs) os p) (opened a (write cs) ps q)
    writes bs cs [] [] t u f g k = simp append_assoc (same_bytes bs cs refl refl (λ e. skip (skip (k (ap (λ x. write x ∷ []) e)))))
    writes bs cs [] (read n ∷ ps) t u f g k = simp append_assoc (same_bytes bs cs refl refl (λ e. modify_or_wait))
    writes bs cs (read m ∷ os) [] t u f g k = simp append_assoc (same_bytes bs cs refl refl (λ e. flip modify_or_wait))
    writes bs cs (read m ∷ os) (read n ∷ ps) t u f g k =
        simp append_assoc (same_bytes bs cs refl refl (λ e. prefix (prepare_read a false) (reads m n os ps t u f g (λ es. k (ap₂ (λ x xs. write x ∷ xs) e es)))))
    writes bs cs [] (write _ ∷ ps) t u f g k = elim u [ ]
    writes bs cs (write _ ∷ os) ps t u f g k = elim t [ ]
    writes bs cs (read m ∷ os) (write _ ∷ ps) t u f g k = elim u [ ]

    -- two reads, prepared, and what follows each
    reads : (m n : ℕ) (os ps : List Operation) → Turns Previous.Read os → Turns Previous.Read ps
        → Full (read m ∷ os) → Full (read n ∷ ps)
        → (◌≡◌ {A = List Operation} (read m ∷ os) (read n ∷ ps) → Both s P p q)
        → Both s P (opened a (read m) os p) (opened a (read n) ps q)
    reads zero n [] ps t u f g k = absurd f
    reads (suc m) zero [] [] t u f g k = absurd g
    reads (suc m) (suc n) [] [] t u f g k =
        simp append_assoc (same_reads m n refl refl (λ e. skip (skip (skip (skip (k (ap (λ x. read (suc x) ∷ []) e)))))))
    reads (suc m) n [] (write cs ∷ ps) t u f g k = simp append_assoc (same_reads m n refl refl (λ e. modify_or_wait))
    reads m zero (write bs ∷ os) [] t u f g k = absurd g
    reads m (suc n) (write bs ∷ os) [] t u f g k = simp append_assoc (same_reads m n refl refl (λ e. flip modify_or_wait))
    reads m n (write bs ∷ os) (write cs ∷ ps) t u f g k =
        simp append_assoc (same_reads m n refl refl (λ e. prefix request_write (skip (prefix (send_low_byte a) (skip (skip
        (writes bs cs os ps t u f g (λ es. k (ap₂ (λ x xs. read x ∷ xs) e es)))))))))
    reads (suc m) n [] (read _ ∷ ps) t u f g k = elim u [ ]
    reads m n (write bs ∷ os) (read _ ∷ ps) t u f g k = elim u [ ]
    reads m n (read _ ∷ os) ps t u f g k = elim t [ ]

-- what reduced operations of a polling call are: some, each turning the direction, the last no empty read
abbrev pub PollingForm : List Operation → Type 0
PollingForm [] = ⊥
PollingForm (o ∷ os) = Turns (direction o) os × Full (o ∷ os)

-- a polling call begins with the prepare for its first operation
begins : (a : Address) (o : Operation) (os : List Operation) (p : List Step)
    → polling_steps false a Previous.Nothing (o ∷ os) ++ p ≡ turn false a Previous.Nothing o ++ opened a o os p
unfolding polling_steps
begins a o os p = simp append_assoc

module _ {s : Setup} {P : Type 0} where
  -- prepares for a write to addresses of two widths: an SR2 read follows the one, and the low byte the other
  widths_apart : (a c : ℕ) {p q : List Step} → Both s P (prepare_write (Address.Seven a) ++ p) (prepare_write (Address.Ten c) ++ q)
  unfolding first
  widths_apart a c = prefix request_write (puts (λ e. checks (omega arith) (omega arith) (omega arith)))

  -- prepares for a write with a common trace have one address
  same_prepare : (a c : Address) {p q : List Step} → (a ≡ c → Both s P p q) → Both s P (prepare_write a ++ p) (prepare_write c ++ q)
  same_prepare (Address.Seven a) (Address.Seven c) k = prefix request_write (puts (λ e. skip (skip (k (ap Address.Seven (omega arith))))))
  same_prepare (Address.Seven a) (Address.Ten c) k = widths_apart a c
  same_prepare (Address.Ten a) (Address.Seven c) k = flip (widths_apart c a)
  same_prepare (Address.Ten a) (Address.Ten c) k =
      prefix request_write (puts (λ high. skip (puts (λ low. skip (skip (k (ap Address.Ten (omega arith))))))))

  -- a prepare for a write, and one for a read that begins a seven-bit call
  write_or_seven : (a : Address) (c : ℕ) (p q : List Step) → Both s P (prepare_write a ++ p) (prepare_read (Address.Seven c) false ++ q)
  write_or_seven a c p q = skip (skip (modifies check_or_flag))

  -- a write once prepared, and the second START of a ten-bit call that begins with a read
  write_or_repeat : (a : Address) (bs : List ℕ) (os : List Operation) (p q : List Step) → Turns Previous.Write os → Both s P (opened a (write bs) os p) (repeat_start ++ q)
  unfolding polling_steps transfer write_bytes turn turn_read first
  write_or_repeat a [] [] p q t = modifies (apart (omega arith))
  write_or_repeat a [] (read n ∷ os) p q t = flip modify_or_wait
  write_or_repeat a [] (write _ ∷ os) p q t = elim t [ ]
  write_or_repeat a (b ∷ bs) [] p q t = apart (omega arith)
  write_or_repeat a (b ∷ bs) (read n ∷ os) p q t = apart (omega arith)
  write_or_repeat a (b ∷ bs) (write _ ∷ os) p q t = elim t [ ]

  -- so a write and a read that begins a ten-bit call are told apart
  write_or_ten : (a : Address) (c : ℕ) (bs : List ℕ) (os : List Operation) (p q : List Step) → Turns Previous.Write os
      → Both s P (prepare_write a ++ opened a (write bs) os p) (turn_read (Address.Ten c) Previous.Nothing ++ q)
  unfolding turn_read
  write_or_ten a c bs os p q t = same_prepare a (Address.Ten c) (λ e. write_or_repeat a bs os p _ t)

module _ {s : Setup} {P : Type 0} {p q : List Step} where
  -- the address phases of two reads, and what follows each
  same_reading : (a c : Address) (m n : ℕ) (os ps : List Operation) → PollingForm (read m ∷ os) → PollingForm (read n ∷ ps)
      → (first_byte a true ≡ first_byte c true → a ≡ c) → (a ≡ c → ◌≡◌ {A = List Operation} (read m ∷ os) (read n ∷ ps) → Both s P p q)
      → Both s P (address_read a ++ opened a (read m) os p) (address_read c ++ opened c (read n) ps q)
  same_reading a c m n os ps f g one k =
      puts (λ e. let same = one e in skip (skip (rw same (reads c m n os ps f.0 g.0 f.1 g.1 (k same)))))

  -- the first operations of two polling calls, by their directions and the widths of the addresses, and what follows each
  same_first : (a c : Address) (o o' : Operation) (os ps : List Operation) → PollingForm (o ∷ os) → PollingForm (o' ∷ ps)
      → (a ≡ c → ◌≡◌ {A = List Operation} (o ∷ os) (o' ∷ ps) → Both s P p q)
      → Both s P (turn false a Previous.Nothing o ++ opened a o os p) (turn false c Previous.Nothing o' ++ opened c o' ps q)
  unfolding turn turn_write turn_read
  same_first a c (write bs) (write cs) os ps f g k = same_prepare a c (λ same. rw same (writes c bs cs os ps f.0 g.0 f.1 g.1 (k same)))
  same_first a (Address.Seven c) (write bs) (read n) os ps f g k = write_or_seven a c _ _
  same_first a (Address.Ten c) (write bs) (read n) os ps f g k = write_or_ten a c bs os _ _ f.0
  same_first (Address.Seven a) c (read m) (write cs) os ps f g k = flip (write_or_seven c a _ _)
  same_first (Address.Ten a) c (read m) (write cs) os ps f g k = flip (write_or_ten c a cs ps _ _ g.0)
  same_first (Address.Seven a) (Address.Ten c) (read m) (read n) os ps f g k = flip (write_or_seven (Address.Ten c) a _ _)
  same_first (Address.Ten a) (Address.Seven c) (read m) (read n) os ps f g k = write_or_seven (Address.Ten a) c _ _
  same_first (Address.Seven a) (Address.Seven c) (read m) (read n) os ps f g k =
      prefix start_read (same_reading (Address.Seven a) (Address.Seven c) m n os ps f g (λ e. ap Address.Seven (omega arith)) k)
  same_first (Address.Ten a) (Address.Ten c) (read m) (read n) os ps f g k =
      same_prepare (Address.Ten a) (Address.Ten c) (λ same.
      prefix repeat_start (same_reading (Address.Ten a) (Address.Ten c) m n os ps f g (λ e. same) k))

  -- two polling calls with a common trace have one address and the same reduced operations
  pub same_polling : (a c : Address) (os ps : List Operation) → PollingForm os → PollingForm ps → (a ≡ c → os ≡ ps → Both s P p q)
      → Both s P (polling_steps false a Previous.Nothing os ++ p) (polling_steps false c Previous.Nothing ps ++ q)
  same_polling a c [] ps f g k = elim f [ ]
  same_polling a c (o ∷ os) [] f g k = elim g [ ]
  same_polling a c (o ∷ os) (o' ∷ ps) f g k = rw (begins a o os p, begins c o' ps q) (same_first a c o o' os ps f g k)

-- Blocking

module _ {s : Setup} {P : Type 0} {p q : List Step} where
  -- later bytes, where neither a DR write nor a counter read follows the last wait
  same_later : (bs cs : List ℕ) → (first p ≡ wDR → ⊥) → (first q ≡ wDR → ⊥) → (first p ≡ CYC → ⊥) → (first q ≡ CYC → ⊥)
      → (bs ≡ cs → Both s P p q) → Both s P (later_bytes s bs ++ write_wait s BTF ∷ p) (later_bytes s cs ++ write_wait s BTF ∷ q)
  unfolding later_bytes first
  same_later [] [] hp hq jp jq k = skip (k refl)
  same_later [] (c ∷ cs) hp hq jp jq k = waits stops hp jp (omega arith)
  same_later (b ∷ bs) [] hp hq jp jq k = waits stops (λ e. hq (sym e)) (omega arith) jq
  same_later (b ∷ bs) (c ∷ cs) hp hq jp jq k = skip (puts (λ e. same_later bs cs hp hq jp jq (λ es. k (ap₂ ◌∷◌ e es))))

  -- first bytes received, where a CR1 read follows the wait for BTF
  same_firsts : (m n : ℕ) → first p ≡ CR1 → first q ≡ CR1 → (m ≡ n → Both s P p q)
      → Both s P (receive_bytes s m ++ read_wait s BTF ∷ p) (receive_bytes s n ++ read_wait s BTF ∷ q)
  unfolding receive_bytes first
  same_firsts zero zero hp hq k = skip (k refl)
  same_firsts zero (suc n) hp hq k = waits ends (omega arith) (omega arith) (omega arith)
  same_firsts (suc m) zero hp hq k = waits ends (omega arith) (omega arith) (omega arith)
  same_firsts (suc m) (suc n) hp hq k = skip (skip (same_firsts m n hp hq (λ e. k (ap suc e))))

-- the first bytes, or the wait after them, begin with a counter read
first_counter : (s : Setup) (n : ℕ) (p : List Step) → first (receive_bytes s n ++ read_wait s BTF ∷ p) ≡ CYC
unfolding receive_bytes first
first_counter s zero p = refl
first_counter s (suc n) p = refl

module _ {s : Setup} {P : Type 0} {p q : List Step} where
  -- the arms of a read
  same_arms : (m n : ℕ) → (m ≡ n → Both s P p q) → Both s P (read_arm s (suc m) ++ p) (read_arm s (suc n) ++ q)
  unfolding read_arm first
  same_arms zero zero k = prefix (read_one s) (k refl)
  same_arms zero (suc zero) k = modifies (skip (skip (modifies (waits ends (omega arith) (omega arith) (omega arith)))))
  same_arms zero (suc (suc n)) k = simp append_assoc (modifies (skip (skip (apart (simp first_counter (omega arith))))))
  same_arms (suc zero) zero k = modifies (skip (skip (modifies (waits ends (omega arith) (omega arith) (omega arith)))))
  same_arms (suc zero) (suc zero) k = prefix (read_two s) (k refl)
  same_arms (suc zero) (suc (suc n)) k = simp append_assoc (modifies (skip (skip (apart (simp first_counter (omega arith))))))
  same_arms (suc (suc m)) zero k = simp append_assoc (modifies (skip (skip (apart (simp first_counter (omega arith))))))
  same_arms (suc (suc m)) (suc zero) k = simp append_assoc (modifies (skip (skip (apart (simp first_counter (omega arith))))))
  same_arms (suc (suc m)) (suc (suc n)) k =
      simp append_assoc (skip (skip (skip (same_firsts m n refl refl
      (λ e. skip (skip (skip (skip (skip (skip (skip (skip (k (ap (λ x. suc (suc x)) e))))))))))))))

-- what may follow the write of a reduced blocking call
pub data Tail : List Operation → Type 0 where
  alone : Tail []
  read-after : {n : ℕ} → Tail (read (suc n) ∷ [])

-- what reduced operations of a blocking call are: a write, a read, or both, none of them empty
pub data Halves : List Operation → Type 0 where
  write_first : {b : ℕ} {bs : List ℕ} {os : List Operation} → Tail os → Halves (write (b ∷ bs) ∷ os)
  read_alone : {n : ℕ} → Halves (read (suc n) ∷ [])

-- the first code of a half: SR1 is cleared for a start, or read where there are no tries
pub data Opening : ℕ → Type 0 where
  clears : Opening wSR1
  looks : Opening SR1

-- a start, or the address where there are no tries, opens a half
opens : (s : Setup) (n : ℕ) (p : List Step) → Opening (first (start s n ++ Step.get SR1 ∷ p))
unfolding start first
opens s zero p = looks
opens s (suc n) p = clears

-- neither a counter read nor a DR write
record Other (n : ℕ) : Type 0 where
  counter : n ≡ CYC → ⊥
  data_write : n ≡ wDR → ⊥

-- a half makes an access, and its first is no CR1 read
pub not_none : {n : ℕ} → Opening n → 0 ≡ n → ⊥
not_none clears = omega arith
not_none looks = omega arith

pub not_control : {n : ℕ} → Opening n → CR1 ≡ n → ⊥
not_control clears = omega arith
not_control looks = omega arith

-- nor a counter read or a DR write
other : {n : ℕ} → Opening n → Other n
other clears = omega arith
other looks = omega arith

module _ (s : Setup) where
  -- so do the steps of a blocking call
  pub opens_half : (a : ℕ) (previous : Previous) {os : List Operation} (p : List Step) → Halves os → Opening (first (blocking_steps s a previous os ++ p))
  unfolding blocking_steps write_without_stop read_steps
  opens_half a previous p (write_first t) = simp append_assoc (opens s s.start_retries _)
  opens_half a previous p read_alone = simp append_assoc (opens s s.start_retries _)

  -- after the write comes no counter read and no DR write
  tail_other : (a : ℕ) {os : List Operation} (p : List Step) → Tail os → Other (first (blocking_steps s a Previous.Write os ++ p))
  unfolding blocking_steps close_after first
  tail_other a p alone = omega arith
  tail_other a p read-after = other (opens_half a Previous.Write p read_alone)

module _ {s : Setup} {P : Type 0} {p q : List Step} where
  -- a start and an address
  sends : (a c : ℕ) (r w : Bool) → (address_byte a r ≡ address_byte c w → Both s P p q)
      → Both s P (send_start_and_wait s ++ (send_addr_and_wait s a r ++ p)) (send_start_and_wait s ++ (send_addr_and_wait s c w ++ q))
  sends a c r w k = prefix (send_start_and_wait s) (skip (puts (λ e. skip (k e))))

  -- the bytes of a write
  same_writes : (b c : ℕ) (bs cs : List ℕ) → Other (first p) → Other (first q) → (◌≡◌ {A = List ℕ} (b ∷ bs) (c ∷ cs) → Both s P p q)
      → Both s P (write_bytes_and_wait s (b ∷ bs) ++ p) (write_bytes_and_wait s (c ∷ cs) ++ q)
  unfolding write_bytes_and_wait
  same_writes b c bs cs hp hq k =
      simp append_assoc (skip (skip (puts (λ e.
      same_later bs cs hp.data_write hq.data_write hp.counter hq.counter (λ es. k (ap₂ ◌∷◌ e es))))))

module _ {s : Setup} {P : Type 0} {p q : List Step} where
  -- two reads
  read-half : (a c : ℕ) (previous : Previous) (m n : ℕ) → (a ≡ c → m ≡ n → Both s P p q)
      → Both s P (blocking_steps s a previous (read (suc m) ∷ []) ++ p) (blocking_steps s c previous (read (suc n) ∷ []) ++ q)
  unfolding blocking_steps read_steps close_after
  read-half a c previous m n k = simp append_assoc (sends a c true true (λ e. same_arms m n (k (omega arith))))

  -- what follows the write in each
  tails : (a : ℕ) {os ps : List Operation} → Tail os → Tail ps → (os ≡ ps → Both s P p q)
      → Both s P (blocking_steps s a Previous.Write os ++ p) (blocking_steps s a Previous.Write ps ++ q)
  unfolding close_after first blocking_steps
  tails a alone alone k = prefix (close s) (k refl)
  tails a alone read-after k = apart (not_control (opens_half s a Previous.Write q read_alone))
  tails a read-after alone k = flip (apart (not_control (opens_half s a Previous.Write p read_alone)))
  tails a (read-after {n = m}) (read-after {n}) k = read-half a a Previous.Write m n (λ e es. k (ap (λ x. read (suc x) ∷ []) es))

module _ {s : Setup} {P : Type 0} {p q : List Step} where
  -- two blocking calls with a common trace have one address and the same reduced operations
  pub same_blocking : (a c : ℕ) {os ps : List Operation} → Halves os → Halves ps → (a ≡ c → os ≡ ps → Both s P p q)
      → Both s P (blocking_steps s a Previous.Nothing os ++ p) (blocking_steps s c Previous.Nothing ps ++ q)
  unfolding blocking_steps write_without_stop read_steps
  same_blocking a c (write_first {b} {bs} {os} t) (write_first {b = d} {bs = ds} {os = ps} u) k =
      simp append_assoc (sends a c false false (λ e. let same : a ≡ c = omega arith in
      same_writes b d bs ds (tail_other s a p t) (tail_other s c q u)
      (λ es. rw same (tails c t u (λ et. k same (ap₂ (λ x xs. write x ∷ xs) es et))))))
  same_blocking a c (write_first t) read_alone k = simp append_assoc (sends a c false true (λ e. absurd (omega arith)))
  same_blocking a c read_alone (write_first u) k = simp append_assoc (sends a c true false (λ e. absurd (omega arith)))
  same_blocking a c (read_alone {n = m}) (read_alone {n}) k = read-half a c Previous.Nothing m n (λ e es. k e (ap (λ x. read (suc x) ∷ []) es))
