-- Demand 1 over the meaning of a run.
use Rattle.std.specs.Prelude.{ℕ, ◌+◌, ◌≤◌, ◌<◌, ◌≡◌, List, [], ◌∷◌, ◌++◌, Bool, true, false, ◌&&◌, ◌||◌, length, take, leb}
use Rattle.buslist.specs.Refusal.{refusal}
use Rattle.buslist.specs.Meaning.{calls_of}
use Rattle.registers.specs.declared.Entry.{Entry}
use Rattle.registers.specs.Access.{is_read, cut, entries_in, words_in, record_of, received_of, reads, Access, read, write, no_record, Ending, cut_short}
use Rattle.registers.specs.Machine.{flat}
use Rattle.engine.specs.Run.{Result, accepted_run, run, filled}

-- the numbers that a run can answer: 0 to 10, and the causes, 20 to 26 of document 01 and 27 of document 02
abbrev pub is_cause : ℕ → Bool
is_cause n = leb 20 n && leb n 27

abbrev pub known : ℕ → Bool
known n = leb n 10 || is_cause n

-- an entry with the next reading as its value where it is a read, then the rest on the readings left
unfoldable pub answer : Bool → Entry → (List ℕ → List Entry) → List ℕ → List Entry
answer true e rest [] = e ∷ rest []
answer true e rest (w ∷ ws) = record { code = e.code; value = cut e.code w } ∷ rest ws
answer false e rest ws = e ∷ rest ws

-- a log with the k-th reading, cut to its register, as the value of its k-th read access
unfoldable pub answered : List Entry → List ℕ → List Entry
answered [] rs = []
answered (e ∷ es) rs = answer (is_read e.code) e (answered es) rs

-- a log lacks a reading: all are used, there is room for an entry, and the next access is a read of one register
-- `longer` is the log with a further reading: it goes on with that read, whatever the reading is
pub record LacksReading (log : List Entry) (readings : List ℕ) (room : ℕ) (longer : ℕ → List Entry) : Type 0 where
  pub all_used : reads log ≡ length readings
  pub fits : length log < room
  pub code : ℕ
  pub of_read : is_read code ≡ true
  pub next : (reading : ℕ) → take (length log + 1) (longer reading) ≡ log ++ record { code = code; value = cut code reading } ∷ []

-- the entry of an access: a read with this value, a write with its own
abbrev pub entry_of : Access → ℕ → Entry
entry_of (read r) v = record { code = r; value = v }
entry_of (write r w) v = record { code = r; value = w }

-- a log lacks room: no entry fits the rest of the record, and the ending names the next access
-- `longer` is the log with room for one entry more, and a further reading: it goes on with that access
pub record LacksRoom (log : List Entry) (room : ℕ) (ending : Ending) (longer : ℕ → List Entry) : Type 0 where
  pub full : length log ≡ room
  pub wanted : Access
  pub named : ending ≡ cut_short (no_record wanted)
  pub value : ℕ → ℕ
  pub next : (reading : ℕ) → take (length log + 1) (longer reading) ≡ log ++ entry_of wanted (value reading) ∷ []

-- the accesses of the run of a list on readings, with a received buffer of rx bytes and a record of so many words
abbrev pub accesses : (list readings : List ℕ) (rx words : ℕ) → List Entry
accesses list readings rx words = flat (run list readings rx words).log

module _ (list readings : List ℕ) (rx words : ℕ) where
  -- that run, and its accesses
  abbrev pub ran : Result
  ran = run list readings rx words

  abbrev pub log : List Entry
  log = accesses list readings rx words

  -- what holds of it
  pub record Demand1 : Type 0 where
    -- the answer is one of the known numbers: at most 10 where the list is accepted, and from 20 on where it is refused
    pub answer : known ran.answer ≡ true
    pub accepted : refusal list rx ≡ 0 → ran.answer ≤ 10
    -- a refused list gets its cause, begins no call, makes no access, has zero counts and changes no buffer
    pub refused : (refusal list rx ≡ 0 → ⊥) → (20 ≤ ran.answer) × (ran.answer ≡ refusal list rx) × (ran.calls ≡ 0) × (ran.log ≡ record { opening = []; begun = [] })
    pub unchanged : (refusal list rx ≡ 0 → ⊥) → (buffer : List ℕ) → (filled buffer (record_of log) ≡ buffer) × (filled buffer (received_of log) ≡ buffer)
    -- 0: every call of the list ended well
    pub well : ran.answer ≡ 0 → ran.calls ≡ length (calls_of list)
    -- 9: the next access is a read and every reading is used
    pub no_reading : ran.answer ≡ 9 → LacksReading log readings (entries_in words) (λ reading. accesses list (readings ++ reading ∷ []) rx words)
    -- 10: no entry fits the rest of the record, for the next access
    pub no_record : ran.answer ≡ 10
        → LacksRoom log (entries_in words) (accepted_run list readings words).ending (λ reading. accesses list (readings ++ reading ∷ []) rx (words + words_in 1))
    -- every call that ended well was begun, and at most one more
    pub begun : (ran.calls ≤ length ran.log.begun) × (length ran.log.begun ≤ ran.calls + 1)
    -- the readings used are the ones taken
    pub taken : answered log readings ≡ log
    -- every run ends: with no more accesses than fit the record, no more readings than given, no more bytes than the buffer
    pub made : length log ≤ entries_in words
    pub used : reads log ≤ length readings
    pub got : length (received_of log) ≤ rx
