-- What document 02 promises of the words that clear a flag (C-15).
use Rattle.std.specs.Prelude.{Some, None, ℕ, ◌≡◌, Bool, true, List, [], ◌∷◌, ◌++◌, leb}
use Rattle.units.specs.declared.Setup.{Setup}
use Rattle.registers.specs.declared.Source.{Source}
use Rattle.registers.specs.declared.BusError.{BusError}
use Rattle.registers.specs.declared.Entry.{Entry}
use Rattle.registers.specs.declared.Bits.{Bits}
use Rattle.registers.specs.declared.Awaited.{Awaited}
use Rattle.registers.specs.Word.{has, without_bit, none, BERR}
use Rattle.registers.specs.Access.{SR1, wSR1, flag_of, clear_word}
use Rattle.registers.specs.Machine.{Step, Handler, send_start, check_word, after_check, poll_word, after_poll, handle, next, since}
use Rattle.demands.specs.Demand1.{accesses}

-- the last of these accesses is an SR1 read that shows this flag
pub record Shows (before : List Entry) (flag : ℕ) : Type 0 where
  pub earlier : List Entry
  pub word : ℕ
  pub last : before ≡ earlier ++ record { code = SR1; value = word } ∷ []
  pub set : has flag word ≡ true

-- what may be written to SR1 after these accesses: 0, or the word that clears one flag that was just shown
pub data Clears (before : List Entry) : ℕ → Type 0 where
  plain : Clears before 0
  one_flag : (e : BusError) → Shows before (flag_of e) → Clears before (clear_word e)

pub record Clearing : Type 0 where
  -- clearing one flag writes DF00 hexadecimal without that flag's bit
  pub without : (e : BusError) → clear_word e ≡ without_bit (flag_of e) 0xdf00
  -- Overrun's clear writes D700; and the others
  pub overrun : clear_word BusError.Overrun ≡ 0xd700
  pub no_acknowledge : (n : Source) → clear_word (BusError.NoAcknowledge n) ≡ 0xdb00
  pub arbitration_loss : clear_word BusError.ArbitrationLoss ≡ 0xdd00
  pub bus : clear_word BusError.Bus ≡ 0xde00
  pub crc : clear_word BusError.Crc ≡ 0xcf00
  pub timeout : clear_word BusError.Timeout ≡ 0x9f00
  -- a check writes this word for the error that it finds, or for BERR alone; a poll for the error that it finds
  pub checked : (n : Source) (v : ℕ) (e : BusError) (p : List Step) → check_word n v ≡ Some e
      → after_check (check_word n v) (has BERR v) p ≡ Step.put wSR1 (clear_word e) ∷ Step.fail e ∷ []
  pub checked_berr : (n : Source) (v : ℕ) (p : List Step) → check_word n v ≡ None → has BERR v ≡ true
      → after_check (check_word n v) (has BERR v) p ≡ Step.put wSR1 (clear_word BusError.Bus) ∷ p
  pub polled : (s : Setup) (h : Handler) (n : Source) (v : ℕ) (e : BusError) (ready : Bool) (later : Step) → poll_word n v ≡ Some e
      → after_poll s h (poll_word n v) ready later ≡ Step.put wSR1 (clear_word e) ∷ handle s h e
  -- a Timeout that the cycle counter gives clears nothing
  pub timed_out : (s : Setup) (a : Awaited) (l : ℕ) (h : Handler) (start now : ℕ) → leb l (since start now) ≡ true
      → next s (Step.late a l h start) now ≡ handle s h BusError.Timeout
  -- the plain write of 0 before START remains 0
  pub before_start : (on : Bits) → send_start on ≡ Step.put wSR1 0 ∷ Step.modify on none ∷ []
  -- in every run an SR1 write is 0, or clears one flag that the SR1 read right before it shows
  pub writes : (list readings : List ℕ) (rx words : ℕ) (before rest : List Entry) (value : ℕ)
      → accesses list readings rx words ≡ before ++ record { code = wSR1; value = value } ∷ rest → Clears before value
