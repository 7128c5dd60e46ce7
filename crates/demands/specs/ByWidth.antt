-- What document 02 promises of ten-bit addresses (C-13), and that seven-bit ones are what they were.
use Rattle.std.specs.Prelude.{ℕ, zero, suc, ◌+◌, ◌*◌, ◌≤◌, ◌<◌, ◌≡◌, Bool, true, false, ◌||◌, List, [], ◌∷◌, ◌++◌, map, take, drop, ltb}
use Rattle.units.specs.declared.Setup.{Setup}
use Rattle.buslist.specs.declared.Address.{Address}
use Rattle.buslist.specs.declared.CallEntry.{CallEntry}
use Rattle.buslist.specs.Table.{call_count, call_at, calls}
use Rattle.buslist.specs.Meaning.{Operation, write, read, polling, blocking, engine_of, is_ten, Call, call_of}
use Rattle.buslist.specs.Refusal.{any, Cause, causes, first_cause, refusal}
use Rattle.registers.specs.declared.Source.{Source}
use Rattle.registers.specs.declared.BusError.{BusError}
use Rattle.registers.specs.Word.{none, one, both, SB, ADDR, START, ACK}
use Rattle.registers.specs.Access.{SR2, wSR1, wDR, record_of}
use Rattle.registers.specs.Machine.{Step, flat}
use Rattle.i2c.specs.declared.Previous.{Previous}
use Rattle.i2c.specs.Polling.{transfer, direction, is_last}
use Rattle.blocking.specs.Blocking.{blocking_steps}
use Rattle.calls.specs.Calls.{early, performed, steps_of}
use Rattle.engine.specs.Run.{run}
use Rattle.demands.specs.Compare.{Accepted, Comparable}

-- document 01's `prepare_write`: read CR1 until STOP is clear; write SR1 0; set START in CR1; check until SB; check and read SR2 until MSL or BUSY;
-- write DR 2 × address; check until ADDR (AF: Address); read SR2
abbrev pub seven_write : ℕ → List Step
seven_write a =
    Step.stop_clear ∷ Step.put wSR1 0 ∷ Step.modify (one START) none ∷ Step.check SB Source.Unknown ∷ Step.check_master
    ∷ Step.put wDR (2 * a) ∷ Step.check ADDR Source.Address ∷ Step.get SR2 ∷ []

-- document 01's `prepare_read`: the same, but set START and ACK; plain SR1 reads until SB; SR2 reads alone until MSL or BUSY;
-- DR 2 × address + 1; then check (AF: Address) and a second SR1 read until the second has ADDR; read SR2
abbrev pub seven_read : ℕ → List Step
seven_read a =
    Step.stop_clear ∷ Step.put wSR1 0 ∷ Step.modify (both START ACK) none ∷ Step.flag SB ∷ Step.master
    ∷ Step.put wDR (2 * a + 1) ∷ Step.check_twice ADDR Source.Address ∷ Step.get SR2 ∷ []

-- prepare for the first operation and at each change of direction
abbrev pub seven_prepare : ℕ → Previous → Operation → List Step
seven_prepare a Previous.Nothing (write bytes) = seven_write a
seven_prepare a Previous.Write (write bytes) = []
seven_prepare a Previous.Read (write bytes) = seven_write a
seven_prepare a Previous.Nothing (read n) = seven_read a
seven_prepare a Previous.Write (read n) = seven_read a
seven_prepare a Previous.Read (read n) = []

-- `read` and the read half of `write_read` (early) answer Overrun for an empty buffer before preparing that read
abbrev pub seven_turn : Bool → ℕ → Previous → Operation → List Step
seven_turn true a previous (read zero) = Step.fail BusError.Overrun ∷ []
seven_turn true a previous (read (suc n)) = seven_prepare a previous (read (suc n))
seven_turn true a previous (write bytes) = seven_prepare a previous (write bytes)
seven_turn false a previous o = seven_prepare a previous o

-- the operations of a polling call to a seven-bit address, in order
unfoldable pub seven_steps : Bool → ℕ → Previous → List Operation → List Step
seven_steps early a previous [] = []
seven_steps early a previous (o ∷ os) = seven_turn early a previous o ++ (transfer (is_last os) o ++ seven_steps early a (direction o) os)

-- document 01's cause 24: ten-bit address, or seven-bit above 127
abbrev pub address_out_before : CallEntry → Bool
address_out_before c = is_ten c || ltb 127 c.address

-- the causes, with document 01's 24 in its place
abbrev pub causes_before : List ℕ → ℕ → List Cause
causes_before l rx = take 4 (causes l rx) ++ record { number = 24; applies = any address_out_before (calls l) } ∷ drop 5 (causes l rx)

-- the widths of a list's calls, as they stand in its call table
abbrev pub widths : List ℕ → List ℕ
widths l = map (λ c. c.width) (calls l)

pub record ByWidth : Type 0 where
  -- a polling call to a seven-bit address does what document 01 says, and a blocking one what it did
  pub seven_polling : (s : Setup) (c : Call) (a : ℕ) → engine_of c.kind ≡ polling → c.address ≡ Address.Seven a
      → steps_of s c ≡ seven_steps (early c.kind) a Previous.Nothing c.operations
  pub seven_blocking : (s : Setup) (c : Call) (a : ℕ) → engine_of c.kind ≡ blocking → c.address ≡ Address.Seven a
      → steps_of s c ≡ blocking_steps s a Previous.Nothing (performed c.kind c.operations)
  -- in an accepted list a call of width 10 is polling and its address is at most 1023; that of a call of width 7 is at most 127
  pub ten_accepted : (l : List ℕ) (rx : ℕ) → Accepted l rx → (k : ℕ) → k < call_count l → (call_at l k).width ≡ 10
      → (engine_of (call_at l k).kind ≡ polling) × ((call_at l k).address ≤ 1023)
  pub seven_accepted : (l : List ℕ) (rx : ℕ) → Accepted l rx → (k : ℕ) → k < call_count l → (call_at l k).width ≡ 7 → (call_at l k).address ≤ 127
  -- a list without a ten-bit call is refused as before
  pub seven_refused : (l : List ℕ) (rx : ℕ) → any is_ten (calls l) ≡ false → refusal l rx ≡ first_cause (causes_before l rx)
  -- a list accepted before is accepted, and every call of it has a seven-bit address: it does what it did, by the first two
  pub accepted_before : (l : List ℕ) (rx : ℕ) → first_cause (causes_before l rx) ≡ 0 → Accepted l rx
  pub before_seven : (l : List ℕ) (rx : ℕ) → first_cause (causes_before l rx) ≡ 0 → (k : ℕ) → k < call_count l
      → (call_of l (call_at l k)).address ≡ Address.Seven (call_at l k).address
  -- calls of different widths are told apart by their records: runs that answer 0 with equal records have the same widths, call by call;
  -- also where a ten-bit header is the address byte of a seven-bit address from 78 to 7B hex, and the low byte a byte written to it
  pub widths_told : (l m : List ℕ) → Comparable l m
      → (readings readings' : List ℕ) (rx rx' words words' : ℕ) → Accepted l rx → Accepted m rx'
      → (run l readings rx words).answer ≡ 0 → (run m readings' rx' words').answer ≡ 0
      → record_of (flat (run l readings rx words).log) ≡ record_of (flat (run m readings' rx' words').log)
      → widths l ≡ widths m
