-- The bus machine: what the engine does, one register access at a time.
-- A program is a list of steps. The first step names an access; the value read decides which steps take its place.
use Rattle.std.specs.Prelude.{Option, Some, None, ℕ, zero, suc, ◌+◌, ◌-◌, ◌%◌, ◌^◌, Bool, true, false, not, cond, length, drop, leb}
use mathlib.Core.List.{List, [], ◌∷◌, ◌++◌, flatten}
use Rattle.units.specs.declared.Setup.{Setup}
use Rattle.registers.specs.declared.Source.{Source}
use Rattle.registers.specs.declared.BusError.{BusError}
use Rattle.registers.specs.declared.Entry.{Entry}
use Rattle.registers.specs.declared.Bits.{Bits}
use Rattle.registers.specs.declared.Awaited.{Awaited}
use Rattle.registers.specs.Word.{has, with_bits, without_bits, none, one, SB, BERR, ARLO, AF, OVR, PECERR, TIMEOUT, MSL, BUSY, PE, START, STOP, SWRST}
use Rattle.registers.specs.Access.{SR1, SR2, CR1, CYC, wCR1, wCR2, wCCR, wTRISE, wSR1, cut, clear_word, reads, Access, read, write, no_readings, no_record, Ending, well, failed, cut_short}

-- what a timed wait does with an error: end the call; set STOP where it is a NoAcknowledge, and end the call; or reset, with that many tries left
pub data Handler : Type 0 where
  ends : Handler
  stops : Handler
  resets : ℕ → Handler

pub data Step : Type 0 where
  fail : BusError → Step  -- the call ends with this error: no access
  put : ℕ → ℕ → Step  -- write this value to this register
  get : ℕ → Step  -- read this register
  modify : Bits → Bits → Step  -- set in CR1: read it, then write it with only these bits altered: the first set, the second clear
  stop_clear : Step  -- read CR1 until STOP is clear
  check : ℕ → Source → Step  -- check until this SR1 flag is set
  check_master : Step  -- check and read SR2 until MSL or BUSY
  checked_master : Step  --   its SR2 read
  check_twice : ℕ → Source → Step  -- check, and read SR1 again, until the second read has this flag
  checked_twice : ℕ → Source → Step  --   its second read
  flag : ℕ → Step  -- plain SR1 reads until this flag is set
  master : Step  -- SR2 reads alone until MSL or BUSY
  timed : Awaited → ℕ → Handler → Step  -- timed wait with this limit: read CYC
  poll : Awaited → ℕ → Handler → ℕ → Step  --   its poll, with the start
  late : Awaited → ℕ → Handler → ℕ → Step  --   its later CYC reads

-- the clear of the SR1 flag that reports this error
abbrev pub clear : BusError → Step
clear e = put wSR1 (clear_word e)

-- bring-up (`init`): CR2, TRISE and CCR, then PE in CR1
abbrev pub bring_up : Setup → List Step
bring_up s = put wCR2 s.cr2 ∷ put wTRISE s.trise ∷ put wCCR s.ccr ∷ modify (one PE) none ∷ []

-- `reset`: CR1 8001 hex, then 0, then bring-up
abbrev pub reset : Setup → List Step
reset s = put wCR1 (SWRST + PE) ∷ put wCR1 0 ∷ bring_up s

-- `send_start`: SR1 0, then set START
abbrev pub send_start : Bits → List Step
send_start on = put wSR1 0 ∷ modify on none ∷ []

-- check: the first set of TIMEOUT, PECERR (Crc), OVR, AF, ARLO
unfoldable pub check_word : Source → ℕ → Option BusError
check_word n v =
    cond (has TIMEOUT v) (Some BusError.Timeout)
    (cond (has PECERR v) (Some BusError.Crc)
    (cond (has OVR v) (Some BusError.Overrun)
    (cond (has AF v) (Some (BusError.NoAcknowledge n))
    (cond (has ARLO v) (Some BusError.ArbitrationLoss)
    None))))

-- after a check: an error clears and ends the call; else BERR clears, and the same word is used
unfoldable pub after_check : Option BusError → Bool → List Step → List Step
after_check (Some e) berr next = clear e ∷ fail e ∷ []
after_check None true next = clear BusError.Bus ∷ next
after_check None false next = next

-- poll: the first of BERR (Bus), ARLO, AF, OVR; the awaited flag plays no part
unfoldable pub poll_word : Source → ℕ → Option BusError
poll_word n v =
    cond (has BERR v) (Some BusError.Bus)
    (cond (has ARLO v) (Some BusError.ArbitrationLoss)
    (cond (has AF v) (Some (BusError.NoAcknowledge n))
    (cond (has OVR v) (Some BusError.Overrun)
    None)))

-- blocking start, with so many tries left: SR1 0, START, timed SB; with no tries, well
unfoldable pub start : Setup → ℕ → List Step
start s zero = []
start s (suc n) = send_start (one START) ++ timed (Awaited.Flag SB Source.Unknown) s.start_limit.0 (resets n) ∷ []

-- after a reset: the last answer holds
unfoldable pub start_again : Setup → ℕ → BusError → List Step
start_again s zero e = fail e ∷ []
start_again s (suc n) e = start s (suc n)

-- a NoAcknowledge sets STOP
unfoldable pub stop_for : BusError → List Step
stop_for BusError.Overrun = []
stop_for (BusError.NoAcknowledge n) = modify (one STOP) none ∷ []
stop_for BusError.Timeout = []
stop_for BusError.Bus = []
stop_for BusError.Crc = []
stop_for BusError.ArbitrationLoss = []

-- what a timed wait does with an error
unfoldable pub handle : Setup → Handler → BusError → List Step
handle s ends e = fail e ∷ []
handle s stops e = stop_for e ++ fail e ∷ []
handle s (resets n) e = reset s ++ start_again s n e

-- now minus start, modulo 2^32
unfoldable pub since : ℕ → ℕ → ℕ
since from now = (now + (2 ^ 32 - from)) % 2 ^ 32

-- a poll reads SR1 for a flag; a wait for STOP polls CR1 alone
abbrev pub polled_register : Awaited → ℕ
polled_register (Awaited.Flag f n) = SR1
polled_register Awaited.Stop = CR1

-- the error that a poll finds; a wait for STOP meets no bus error
unfoldable pub poll_error : Awaited → ℕ → Option BusError
poll_error (Awaited.Flag f n) v = poll_word n v
poll_error Awaited.Stop v = None

-- ready if the flag is set, or if STOP is clear
unfoldable pub poll_ready : Awaited → ℕ → Bool
poll_ready (Awaited.Flag f n) v = has f v
poll_ready Awaited.Stop v = not (has STOP v)

-- after a poll: an error clears, and the handler ends or retries; else the wait is over if it is ready, and goes on with the next CYC read if not
unfoldable pub after_poll : Setup → Handler → Option BusError → Bool → Step → List Step
after_poll s h (Some e) ready later = clear e ∷ handle s h e
after_poll s h None ready later = cond ready [] (later ∷ [])

-- what a step does: it fails the call and makes no access, or it makes this access
pub data Act : Type 0 where
  halt : BusError → Act
  make : Access → Act

abbrev pub access : Step → Act
access (fail e) = halt e
access (put r v) = make (write r v)
access (get r) = make (read r)
access (modify on off) = make (read CR1)
access stop_clear = make (read CR1)
access (check f n) = make (read SR1)
access check_master = make (read SR1)
access checked_master = make (read SR2)
access (check_twice f n) = make (read SR1)
access (checked_twice f n) = make (read SR1)
access (flag f) = make (read SR1)
access master = make (read SR2)
access (timed w l h) = make (read CYC)
access (poll w l h t) = make (read (polled_register w))
access (late w l h t) = make (read CYC)

-- what takes the step's place once its access is made, with the value read
unfoldable pub next : Setup → Step → ℕ → List Step
next s (fail e) v = []
next s (put r w) v = []
next s (get r) v = []
next s (modify on off) v = put wCR1 (without_bits off (with_bits on v)) ∷ []
next s stop_clear v = cond (has STOP v) (stop_clear ∷ []) []
next s (check f n) v = after_check (check_word n v) (has BERR v) (cond (has f v) [] (check f n ∷ []))
next s check_master v = after_check (check_word Source.Unknown v) (has BERR v) (checked_master ∷ [])
next s checked_master v = cond (has MSL v) [] (cond (has BUSY v) [] (check_master ∷ []))
next s (check_twice f n) v = after_check (check_word n v) (has BERR v) (checked_twice f n ∷ [])
next s (checked_twice f n) v = cond (has f v) [] (check_twice f n ∷ [])
next s (flag f) v = cond (has f v) [] (flag f ∷ [])
next s master v = cond (has MSL v) [] (cond (has BUSY v) [] (master ∷ []))
next s (timed w l h) v = poll w l h v ∷ []
next s (poll w l h t) v = after_poll s h (poll_error w v) (poll_ready w v) (late w l h t)
next s (late w l h t) v = cond (leb l (since t v)) (handle s h BusError.Timeout) (poll w l h t ∷ [])

-- what steps come to: the log of their accesses, and how they end
pub record Ran : Type 0 where
  pub log : List Entry
  pub ending : Ending

abbrev pub ended : Ending → Ran
ended e = record { log = []; ending = e }

abbrev pub logged : ℕ → ℕ → Ran → Ran
logged c v r = record { log = record { code = c; value = v } ∷ r.log; ending = r.ending }

-- too few words remain for an entry: a step that makes no access fails the call, any other is cut short
unfoldable pub no_room : Act → Ran
no_room (halt e) = ended (failed e)
no_room (make a) = ended (cut_short (no_record a))

-- one access with room for it; `on` runs the rest, given what takes the step's place and the readings left
unfoldable pub perform : Act → (ℕ → List Step) → List ℕ → (List Step → List ℕ → Ran) → Ran
perform (halt e) to rs on = ended (failed e)
perform (make (write r v)) to rs on = logged r v (on (to v) rs)
perform (make (read r)) to [] on = ended (cut_short no_readings)
perform (make (read r)) to (w ∷ rs) on = logged r (cut r w) (on (to (cut r w)) rs)

-- with no room for another access
unfoldable pub exec_full : List Step → List ℕ → Ran
exec_full [] rs = ended well
exec_full (i ∷ p) rs = no_room (access i)

-- with room for one access and more, where `on` runs steps with what is left of the room
unfoldable pub exec_on : Setup → (List Step → List ℕ → Ran) → List Step → List ℕ → Ran
exec_on s on [] rs = ended well
exec_on s on (i ∷ p) rs = perform (access i) (λ v. next s i v ++ p) rs on

-- run steps with room for so many accesses on these readings
unfoldable pub exec : Setup → ℕ → List Step → List ℕ → Ran
exec s zero = exec_full
exec s (suc room) = exec_on s (exec s room)

-- the calls in order, each its steps, until one does not end well: how they end, calls ended well, and the accesses of each call begun
pub record Run : Type 0 where
  pub ending : Ending
  pub calls : ℕ
  pub begun : List (List Entry)

-- a call that ended well, and the calls after it; or the call that stops the run
unfoldable pub after_call : List Entry → Ending → Run → Run
after_call log well k = record { ending = k.ending; calls = suc k.calls; begun = log ∷ k.begun }
after_call log (failed e) k = record { ending = failed e; calls = 0; begun = log ∷ [] }
after_call log (cut_short c) k = record { ending = cut_short c; calls = 0; begun = log ∷ [] }

-- each call goes on in readings and record where the call before it left them
unfoldable pub run : Setup → List (List Step) → ℕ → List ℕ → Run
run s [] room rs = record { ending = well; calls = 0; begun = [] }
run s (c ∷ cs) room rs =
    let r = exec s room c rs in
    after_call r.log r.ending (run s cs (room - length r.log) (drop (reads r.log) rs))

-- the log of a whole run: the accesses of its opening, which is the bring-up, and those of each call begun
pub record Log : Type 0 where
  pub opening : List Entry
  pub begun : List (List Entry)

-- every access of a log, in order
abbrev pub flat : Log → List Entry
flat log = flatten (log.opening ∷ log.begun)

-- a whole run: how it ends, calls ended well, and its log
pub record WholeRun : Type 0 where
  pub ending : Ending
  pub calls : ℕ
  pub log : Log

-- the bring-up runs before the calls and is no call
unfoldable pub after_bring_up : List Entry → Ending → Run → WholeRun
after_bring_up opening well k = record { ending = k.ending; calls = k.calls; log = record { opening = opening; begun = k.begun } }
after_bring_up opening (failed e) k = record { ending = failed e; calls = 0; log = record { opening = opening; begun = [] } }
after_bring_up opening (cut_short c) k = record { ending = cut_short c; calls = 0; log = record { opening = opening; begun = [] } }

-- a whole run: the bring-up, then the calls
unfoldable pub whole_run : Setup → List (List Step) → ℕ → List ℕ → WholeRun
whole_run s cs room rs =
    let r = exec s room (bring_up s) rs in
    after_bring_up r.log r.ending (run s cs (room - length r.log) (drop (reads r.log) rs))
