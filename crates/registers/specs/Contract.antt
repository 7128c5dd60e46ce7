-- The forms of the contracts: what a function's answer means, by the bus that it leaves and what comes of the rest of the run from there.
use Rattle.std.specs.Prelude.{ℕ, ◌+◌, ◌-◌, ◌≤◌, ◌≡◌, true, false, ◌&&◌, leb, List, [], ◌∷◌, ◌++◌, length, get_or, Result, Ok, Err, MatchResult, ⊤}
use Rattle.std.specs.Borrow.{Bor, MutBor}
use denote.Triple.Both.{Both}
use Rattle.units.specs.declared.Setup.{Setup}
use Rattle.registers.specs.declared.ReadCode.{ReadCode}
use Rattle.registers.specs.declared.WriteCode.{WriteCode}
use Rattle.registers.specs.declared.UnknownCode.{UnknownCode}
use Rattle.registers.specs.declared.Source.{Source}
use Rattle.registers.specs.declared.BusError.{BusError}
use Rattle.registers.specs.declared.Stop.{Stop}
use Rattle.registers.specs.declared.Progress.{Progress}
use Rattle.registers.specs.declared.access.Bus.{Bus}
use Rattle.registers.specs.Access.{SR1, SR2, CR1, DR, CYC, wCR1, wCR2, wCCR, wTRISE, wSR1, wDR, is_read, cut, entries_in, well, failed, cut_number, number}
use Rattle.registers.specs.Machine.{Step, Handler, handle}
use Rattle.registers.specs.State.{State, at, After, Took, Found, then, entry, received, resume, read, write, check}

-- the code of a register that is read, and of one that is written
abbrev pub read_code : ReadCode → ℕ
read_code ReadCode.Sr1 = SR1
read_code ReadCode.Sr2 = SR2
read_code ReadCode.Cr1 = CR1
read_code ReadCode.Dr = DR
read_code ReadCode.Cyc = CYC

abbrev pub write_code : WriteCode → ℕ
write_code WriteCode.Cr1 = wCR1
write_code WriteCode.Cr2 = wCR2
write_code WriteCode.Ccr = wCCR
write_code WriteCode.Trise = wTRISE
write_code WriteCode.Sr1 = wSR1
write_code WriteCode.Dr = wDR

-- the register of a code, or the code as an error where no register that is read, or written, has it
abbrev pub DecodesRead : ℕ → Result ReadCode UnknownCode → Type 0
DecodesRead code r = MatchResult r (λ c. read_code c ≡ code) (λ e. (e.0 ≡ code) × (leb SR1 code && leb code CYC ≡ false))

abbrev pub DecodesWrite : ℕ → Result WriteCode UnknownCode → Type 0
DecodesWrite code r = MatchResult r (λ c. write_code c ≡ code) (λ e. (e.0 ≡ code) × (leb wCR1 code && leb code wDR ≡ false))

-- the state of a run that a bus stands for
abbrev pub state : Bus → State
state b = at b.readings.now b.log.now b.rx.now b.progress

-- the run goes on with the same setup and readings, and with the record and the received buffer that were lent to it
pub record Same (b b' : Bus) : Type 0 where
  pub setup : b'.setup ≡ b.setup
  pub readings : b'.readings.now ≡ b.readings.now
  pub log : b'.log.ghost_name ≡ b.log.ghost_name
  pub rx : b'.rx.ghost_name ≡ b.rx.ghost_name

-- an outcome with the state that it leaves
abbrev pub outcome : State → Result ⊤ Stop → After
outcome st (Ok t) = After.going st
outcome st (Err (Stop.Failed e)) = After.failed e st
outcome st (Err (Stop.CutShort c)) = After.cut_short c st

-- the same of a read, and of a check
abbrev pub found : State → Result ℕ Stop → Found
found st (Ok v) = Found.word v st
found st (Err (Stop.Failed e)) = Found.failed e st
found st (Err (Stop.CutShort c)) = Found.cut_short c st

-- a read finds no error
abbrev pub found_of : Took → Found
found_of (Took.word v st) = Found.word v st
found_of (Took.cut_short c st) = Found.cut_short c st

-- the number of an outcome: that of the ending which it stands for
abbrev pub error_number : BusError → ℕ
error_number e = number (failed e)

abbrev pub stop_number : Stop → ℕ
stop_number (Stop.Failed e) = number (failed e)
stop_number (Stop.CutShort c) = cut_number c

abbrev pub outcome_number : Result ⊤ Stop → ℕ
outcome_number (Ok t) = number well
outcome_number (Err stop) = stop_number stop

-- one read, by a code of a read; and of a register that is named
pub record ReadsAt (c : ℕ) (b b' : Bus) (r : Result ℕ Stop) : Type 0 where
  pub code : is_read c ≡ true
  pub same : Same b b'
  pub is : found (state b') r ≡ found_of (read c (state b))

abbrev pub Reads : ReadCode → Bus → Bus → Result ℕ Stop → Type 0
Reads c b b' r = ReadsAt (read_code c) b b' r

-- one write of v, by a code that is not of a read; and to a register that is named
pub record WritesAt (c v : ℕ) (b b' : Bus) (r : Result ⊤ Stop) : Type 0 where
  pub code : is_read c ≡ false
  pub same : Same b b'
  pub is : outcome (state b') r ≡ write c v (state b)

abbrev pub Writes : WriteCode → ℕ → Bus → Bus → Result ⊤ Stop → Type 0
Writes c v b b' r = WritesAt (write_code c) v b b' r

-- one check
pub record Checks (n : Source) (b b' : Bus) (r : Result ℕ Stop) : Type 0 where
  pub same : Same b b'
  pub is : found (state b') r ≡ check n (state b)

-- the steps q are done: whatever steps p come after them, the run goes on with p from the state left, or has ended there
pub record Does (q : List Step) (b b' : Bus) (r : Result ⊤ Stop) : Type 0 where
  pub same : Same b b'
  pub is : (p : List Step) → resume b.setup (q ++ p) (state b) ≡ then (outcome (state b') r) (resume b.setup p)

-- the steps q come to the same as what is left of them, q', from where the bus is now
pub record Reaches (q : List Step) (b : Bus) (q' : List Step) (b' : Bus) : Type 0 where
  pub same : Same b b'
  pub is : (p : List Step) → resume b.setup (q ++ p) (state b) ≡ resume b.setup (q' ++ p) (state b')

-- a timed wait, whose error is left to the handler
abbrev pub handled : Setup → Handler → State → Result ⊤ Stop → List Step → After
handled s h st (Ok t) p = resume s p st
handled s h st (Err (Stop.Failed e)) p = resume s (handle s h e ++ p) st
handled s h st (Err (Stop.CutShort c)) p = After.cut_short c st

pub record Waits (h : Handler) (q : List Step) (b b' : Bus) (r : Result ⊤ Stop) : Type 0 where
  pub same : Same b b'
  pub is : (p : List Step) → resume b.setup (q ++ p) (state b) ≡ handled b.setup h (state b') r p

-- so many accesses fit, whatever they are: there are a reading and an entry for each
abbrev pub Fits : Bus → ℕ → Type 0
Fits b n = (n ≤ length b.readings.now - b.progress.used) × (n ≤ entries_in (length b.log.now) - b.progress.made)

-- the word of a read by this code after so many other reads; and of a register that is named
abbrev pub word_at : ℕ → ℕ → Bus → ℕ
word_at c k b = cut c (get_or b.readings.now (b.progress.used + k) 0)

abbrev pub word_after : ReadCode → ℕ → Bus → ℕ
word_after c k b = word_at (read_code c) k b

-- a read that fits: each later word is one read nearer, and one access fewer fits
pub record ReadsNextAt (c : ℕ) (b b' : Bus) (v : ℕ) : Type 0 where
  pub reads : ReadsAt c b b' (Ok v)
  pub word : v ≡ word_at c 0 b
  pub later : (c' : ReadCode) (k : ℕ) → word_after c' k b' ≡ word_after c' (k + 1) b
  pub fits : (n : ℕ) → Fits b n → Fits b' (n - 1)

abbrev pub ReadsNext : ReadCode → Bus → Bus → ℕ → Type 0
ReadsNext c b b' v = ReadsNextAt (read_code c) b b' v

-- a write that fits: no later word comes nearer, and one access fewer fits
pub record WritesNextAt (c v : ℕ) (b b' : Bus) : Type 0 where
  pub writes : WritesAt c v b b' (Ok tt)
  pub later : (c' : ReadCode) (k : ℕ) → word_after c' k b' ≡ word_after c' k b
  pub fits : (n : ℕ) → Fits b n → Fits b' (n - 1)

abbrev pub WritesNext : WriteCode → ℕ → Bus → Bus → Type 0
WritesNext c v b b' = WritesNextAt (write_code c) v b b'

-- the low byte of a word that was read from DR is received
pub record TakesByte (v : ℕ) (b b' : Bus) : Type 0 where
  pub same : Same b b'
  pub is : state b' ≡ received (entry DR v) (state b)

-- a read of DR that fits: one access fewer fits
pub record ReceivesNext (b b' : Bus) : Type 0 where
  pub does : Does (Step.get DR ∷ []) b b' (Ok tt)
  pub fits : (n : ℕ) → Fits b n → Fits b' (n - 1)

-- A slice that a function is given, and one that it writes to: what it holds at the call (`entry`) and at the return (`exit`).

abbrev pub Slice : Type 0
Slice = Both (Bor (List ℕ)) (Bor (List ℕ))

abbrev pub MutSlice : Type 0
MutSlice = Both (MutBor (List ℕ)) (MutBor (List ℕ))

-- nothing read, made or received as yet
abbrev pub nothing_yet : Progress
nothing_yet = record { used = 0; made = 0; got = 0 }

-- a bus with this setup, on these readings and buffers, that has come so far
pub record Starts (s : Setup) (readings : List ℕ) (log rx : MutBor (List ℕ)) (progress : Progress) (b : Bus) : Type 0 where
  pub with_setup : b.setup ≡ s
  pub record_lent : b.log.ghost_name ≡ log.ghost_name
  pub received_lent : b.rx.ghost_name ≡ rx.ghost_name
  pub start : state b ≡ at readings log.now rx.now progress
