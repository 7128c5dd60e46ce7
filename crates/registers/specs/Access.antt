-- One register access and its record entry (document 01, "Registers (RM0008) and the record"), and how a run can end.
use Rattle.std.specs.Prelude.{ℕ, ◌+◌, ◌*◌, ◌/◌, ◌%◌, ◌^◌, Bool, cond, List, [], ◌∷◌, ◌++◌, set, eqb, leb}
use Rattle.registers.specs.declared.Source.{Source}
use Rattle.registers.specs.declared.BusError.{BusError}
use Rattle.registers.specs.declared.Cut.{Cut}
use Rattle.registers.specs.declared.Entry.{Entry}
use Rattle.registers.specs.Word.{without_bit, BERR, ARLO, AF, OVR, PECERR, TIMEOUT, WRITE_ZERO_TO_CLEAR}

-- the codes of reads
abbrev pub SR1 : ℕ
SR1 = 1

abbrev pub SR2 : ℕ
SR2 = 2

abbrev pub CR1 : ℕ
CR1 = 3

abbrev pub DR : ℕ
DR = 4

abbrev pub CYC : ℕ
CYC = 5

-- the codes of writes
abbrev pub wCR1 : ℕ
wCR1 = 11

abbrev pub wCR2 : ℕ
wCR2 = 12

abbrev pub wCCR : ℕ
wCCR = 13

abbrev pub wTRISE : ℕ
wTRISE = 14

abbrev pub wSR1 : ℕ
wSR1 = 15

abbrev pub wDR : ℕ
wDR = 16

-- a code of a read
abbrev pub is_read : ℕ → Bool
is_read code = leb code CYC

-- a code of a DR read
abbrev pub is_data : ℕ → Bool
is_data code = eqb code DR

-- the cut of a reading: a CYC read takes all 32 bits, any other the low 16
unfoldable pub cut : ℕ → ℕ → ℕ
cut code reading = cond (eqb code CYC) (reading % 2 ^ 32) (reading % 2 ^ 16)

-- the byte received: DR's low 8
abbrev pub low_byte : ℕ → ℕ
low_byte value = value % 256

-- the SR1 flag that reports an error
unfoldable pub flag_of : BusError → ℕ
flag_of BusError.Overrun = OVR
flag_of (BusError.NoAcknowledge n) = AF
flag_of BusError.Timeout = TIMEOUT
flag_of BusError.Bus = BERR
flag_of BusError.Crc = PECERR
flag_of BusError.ArbitrationLoss = ARLO

-- the word that clears the flag of an error: a field write of SR1 starts with every write-zero-to-clear bit set (document 02, C-15)
unfoldable pub clear_word : BusError → ℕ
clear_word e = without_bit (flag_of e) WRITE_ZERO_TO_CLEAR

-- the words of a record entry
abbrev pub entry_words : Entry → List ℕ
entry_words e = e.code ∷ e.value ∷ []

-- how many entries a record of so many words holds
abbrev pub entries_in : ℕ → ℕ
entries_in words = words / 2

-- how many words so many entries take
abbrev pub words_in : ℕ → ℕ
words_in entries = 2 * entries

-- entry number k stored in a record
unfoldable pub store : List ℕ → ℕ → Entry → List ℕ
store lg k e = set (set lg (words_in k) e.code) (words_in k + 1) e.value

-- the record of a log: the words of its entries
unfoldable pub record_of : List Entry → List ℕ
record_of [] = []
record_of (e ∷ es) = entry_words e ++ record_of es

-- readings used: the read accesses
unfoldable pub reads : List Entry → ℕ
reads [] = 0
reads (e ∷ es) = cond (is_read e.code) 1 0 + reads es

-- bytes received: those of the DR reads
unfoldable pub received_of : List Entry → List ℕ
received_of [] = []
received_of (e ∷ es) = cond (is_data e.code) (low_byte e.value ∷ []) [] ++ received_of es

-- an access: a read of this register, or a write to this register of this value
pub data Access : Type 0 where
  read : ℕ → Access
  write : ℕ → ℕ → Access

-- its code
abbrev pub code_of : Access → ℕ
code_of (read r) = r
code_of (write r v) = r

-- why a run is cut short: every reading is used, or too few record words remain for this access
pub data Shortage : Type 0 where
  no_readings : Shortage
  no_record : Access → Shortage

-- how a call or a run ends: well; failed, by a bus error; cut short, for want of a reading or of record words
pub data Ending : Type 0 where
  well : Ending
  failed : BusError → Ending
  cut_short : Shortage → Ending

-- a shortage as the code's answers have it: of the access that had no room, its code
abbrev pub cut_of : Shortage → Cut
cut_of no_readings = Cut.NoReadings
cut_of (no_record a) = Cut.NoRecord (code_of a)

-- the number of each ending (document 01, "How a run can end")
abbrev pub cut_number : Cut → ℕ
cut_number Cut.NoReadings = 9
cut_number (Cut.NoRecord r) = 10

unfoldable pub number : Ending → ℕ
number well = 0
number (failed BusError.Overrun) = 1
number (failed (BusError.NoAcknowledge Source.Address)) = 2
number (failed (BusError.NoAcknowledge Source.Data)) = 3
number (failed (BusError.NoAcknowledge Source.Unknown)) = 4
number (failed BusError.Timeout) = 5
number (failed BusError.Bus) = 6
number (failed BusError.Crc) = 7
number (failed BusError.ArbitrationLoss) = 8
number (cut_short c) = cut_number (cut_of c)
