-- The causes that refuse a list before any access (document 01, "How a run can end", and document 02), in rising order.
use Rattle.std.specs.Prelude.{ℕ, ◌+◌, List, [], ◌∷◌, Bool, false, not, cond, ◌&&◌, ◌||◌, length, eqb, ltb}
use Rattle.units.specs.declared.Hertz.{Hertz}
use Rattle.units.specs.declared.Micros.{Micros}
use Rattle.units.specs.declared.Settings.{Settings}
use Rattle.units.specs.Time.{to_cycles}
use Rattle.units.specs.Speed.{frequency_out}
use Rattle.buslist.specs.declared.CallEntry.{CallEntry}
use Rattle.buslist.specs.declared.OperationEntry.{OperationEntry}
use Rattle.buslist.specs.Table.{call_count, operation_count, settings_of, calls, operations, operation_at}
use Rattle.buslist.specs.Form.{read_direction, of_the_form}
use Rattle.buslist.specs.Meaning.{engine_of, is_polling, is_ten, call_of}
use Rattle.buslist.specs.Combined.{combined, read_then_write}

-- one of them passes the test
unfoldable pub any : {A : Type 0} → (A → Bool) → List A → Bool
any test [] = false
any test (x ∷ xs) = test x || any test xs

-- the longest operation, in bytes: a memory address of two and a page of 256 (document 02)
abbrev pub longest_operation : ℕ
longest_operation = 258

abbrev pub too_long : OperationEntry → Bool
too_long o = ltb longest_operation o.length

-- 21: list over 32,768 bytes, calls over 256, operations over 1,024, an operation over 258 bytes
unfoldable pub over_limit : List ℕ → Bool
over_limit l =
    ltb 32768 (length l) || ltb 256 (call_count l) || ltb 1024 (operation_count l) || any too_long (operations l)

-- a timeout times whole sysclk MHz is above 4,294,967,295
abbrev pub too_many_cycles : Micros → Hertz → Bool
too_many_cycles timeout sysclk = ltb 4294967295 (to_cycles timeout sysclk).0

-- 23: that holds of one of the three timeouts
unfoldable pub timeout_out : Settings → Bool
timeout_out s =
    too_many_cycles s.start_timeout s.sysclk
    || too_many_cycles s.addr_timeout s.sysclk
    || too_many_cycles s.data_timeout s.sysclk

-- 24: a seven-bit address above 127; a ten-bit one above 1023, or a ten-bit blocking call
abbrev pub address_out : CallEntry → Bool
address_out c = cond (is_ten c) (ltb 1023 c.address || not (is_polling (engine_of c.kind))) (ltb 127 c.address)

-- 25: blocking write (kind 4) or blocking read (kind 5) of length 0; a list of the form has one operation there
abbrev pub empty_blocking : List ℕ → CallEntry → Bool
empty_blocking l c = (eqb c.kind 4 || eqb c.kind 5) && eqb (operation_at l c.first).length 0

-- how many bytes an operation receives: a read its length, a write none
unfoldable pub received : OperationEntry → ℕ
received o = cond (read_direction o) o.length 0

-- all reads together
unfoldable pub all_received : List OperationEntry → ℕ
all_received [] = 0
all_received (o ∷ os) = received o + all_received os

-- 27: a kind 7 call in which a read is followed by a write after joining
abbrev pub write_after_read : List ℕ → CallEntry → Bool
write_after_read l c = eqb c.kind 7 && read_then_write (combined (call_of l c).operations)

-- a cause: its number, and whether it applies
pub record Cause : Type 0 where
  pub number : ℕ
  pub applies : Bool

abbrev cause : ℕ → Bool → Cause
cause n b = record { number = n; applies = b }

-- the causes of a list with a received buffer of rx bytes
unfoldable pub causes : List ℕ → ℕ → List Cause
causes l rx =
    cause 20 (not (of_the_form l))
    ∷ cause 21 (over_limit l)
    ∷ cause 22 (frequency_out (settings_of l).frequency)
    ∷ cause 23 (timeout_out (settings_of l))
    ∷ cause 24 (any address_out (calls l))
    ∷ cause 25 (any (empty_blocking l) (calls l))
    ∷ cause 26 (ltb rx (all_received (operations l)))
    ∷ cause 27 (any (write_after_read l) (calls l))
    ∷ []

-- the number of the first that applies, or 0
unfoldable pub first_cause : List Cause → ℕ
first_cause [] = 0
first_cause (c ∷ cs) = cond c.applies c.number (first_cause cs)

-- why a list is refused with a received buffer of rx bytes; 0: it is accepted
unfoldable pub refusal : List ℕ → ℕ → ℕ
refusal l rx = first_cause (causes l rx)
