-- The state of a run, and what is still to come of it: how the machine's log fills the caller's buffers.
use Rattle.std.specs.Prelude.{Option, Some, None, ℕ, zero, suc, ◌+◌, ◌-◌, Bool, true, false, cond, List, [], ◌∷◌, length, set, drop}
use Rattle.units.specs.declared.Setup.{Setup}
use Rattle.registers.specs.declared.Source.{Source}
use Rattle.registers.specs.declared.BusError.{BusError}
use Rattle.registers.specs.declared.Cut.{Cut}
use Rattle.registers.specs.declared.Entry.{Entry}
use Rattle.registers.specs.declared.Progress.{Progress}
use Rattle.registers.specs.Word.{has, BERR}
use Rattle.registers.specs.Access.{SR1, wSR1, is_read, is_data, cut, low_byte, clear_word, entries_in, store, cut_of, Ending}
use Rattle.registers.specs.Machine.{Step, exec, check_word}

-- the readings, the record, the received buffer, and how far the run has come
pub data State : Type 0 where
  at : List ℕ → List ℕ → List ℕ → Progress → State

abbrev pub entry : ℕ → ℕ → Entry
entry c v = record { code = c; value = v }

-- an access recorded: its entry stored, and a reading used where it is a read
unfoldable pub recorded : Entry → State → State
recorded e (at rs lg rx b) =
    at rs (store lg b.made e) rx
    (record { used = cond (is_read e.code) (b.used + 1) b.used; made = b.made + 1; got = b.got })

-- a byte received where it is a DR read
unfoldable pub received : Entry → State → State
received e (at rs lg rx b) =
    at rs lg (cond (is_data e.code) (set rx b.got (low_byte e.value)) rx)
    (record { used = b.used; made = b.made; got = cond (is_data e.code) (b.got + 1) b.got })

-- a log replayed on a state
unfoldable pub replay : List Entry → State → State
replay [] st = st
replay (e ∷ es) st = replay es (received e (recorded e st))

-- the accesses that the record still has room for
unfoldable pub room : State → ℕ
room (at rs lg rx b) = entries_in (length lg) - b.made

-- the readings that are left
unfoldable pub left : State → List ℕ
left (at rs lg rx b) = drop b.used rs

-- what steps come to: the run goes on from a state, or has ended there
pub data After : Type 0 where
  going : State → After
  failed : BusError → State → After
  cut_short : Cut → State → After

abbrev pub then : After → (State → After) → After
then (going st) k = k st
then (failed e st) k = failed e st
then (cut_short c st) k = cut_short c st

unfoldable pub after : Ending → State → After
after Ending.well st = going st
after (Ending.failed e) st = failed e st
after (Ending.cut_short c) st = cut_short (cut_of c) st

-- what is still to come of a run that has these steps to do
unfoldable pub resume : Setup → List Step → State → After
resume s p st = let r = exec s (room st) p (left st) in after r.ending (replay r.log st)

-- what a read comes to
pub data Took : Type 0 where
  word : ℕ → State → Took
  cut_short : Cut → State → Took

abbrev pub taking : Took → (ℕ → State → After) → After
taking (word v st) k = k v st
taking (cut_short c st) k = cut_short c st

-- one read
unfoldable pub read_one : ℕ → State → List ℕ → ℕ → Took
read_one c st rs zero = cut_short (Cut.NoRecord c) st
read_one c st [] (suc n) = cut_short Cut.NoReadings st
read_one c st (v ∷ rs) (suc n) = word (cut c v) (recorded (entry c (cut c v)) st)

unfoldable pub read : ℕ → State → Took
read c st = read_one c st (left st) (room st)

-- one write
unfoldable pub write_one : ℕ → ℕ → State → ℕ → After
write_one c v st zero = cut_short (Cut.NoRecord c) st
write_one c v st (suc n) = going (recorded (entry c v) st)

unfoldable pub write : ℕ → ℕ → State → After
write c v st = write_one c v st (room st)

-- what a check comes to
pub data Found : Type 0 where
  word : ℕ → State → Found
  failed : BusError → State → Found
  cut_short : Cut → State → Found

abbrev pub finding : Found → (ℕ → State → After) → After
finding (word v st) k = k v st
finding (failed e st) k = failed e st
finding (cut_short c st) k = cut_short c st

-- one check: SR1 read, and the flag that it finds cleared
abbrev pub found_then : After → (State → Found) → Found
found_then (going st) k = k st
found_then (failed e st) k = Found.failed e st
found_then (cut_short c st) k = Found.cut_short c st

abbrev pub found_word : Took → (ℕ → State → Found) → Found
found_word (word v st) k = k v st
found_word (cut_short c st) k = Found.cut_short c st

abbrev pub check_flags : Option BusError → Bool → ℕ → State → Found
check_flags (Some e) berr v st = found_then (write wSR1 (clear_word e) st) (λ st'. Found.failed e st')
check_flags None true v st = found_then (write wSR1 (clear_word BusError.Bus) st) (λ st'. Found.word v st')
check_flags None false v st = Found.word v st

unfoldable pub check : Source → State → Found
check n st = found_word (read SR1 st) (λ v st'. check_flags (check_word n v) (has BERR v) v st')
