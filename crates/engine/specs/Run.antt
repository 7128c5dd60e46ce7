-- What a run of a list comes to: list bytes, readings and buffer lengths to answer, counts, record and received bytes.
use Rattle.std.specs.Prelude.{ℕ, ◌≡◌, List, [], ◌∷◌, ◌++◌, map, Bool, true, false, length, drop, eqb}
use Rattle.units.specs.declared.Setup.{Setup}
use Rattle.units.specs.Setup.{setup_of}
use Rattle.buslist.specs.Table.{settings_of}
use Rattle.buslist.specs.Refusal.{refusal}
use Rattle.buslist.specs.Meaning.{calls_of}
use Rattle.registers.specs.Access.{entries_in, record_of, reads, received_of, number}
use Rattle.registers.specs.Machine.{Log, flat, WholeRun, whole_run}
use Rattle.registers.specs.Contract.{Slice, MutSlice}
use Rattle.engine.specs.declared.Counts.{Counts}
use Rattle.calls.specs.Calls.{steps_of}

-- a run: its answer, calls ended well before it stopped, and its log of accesses
pub record Result : Type 0 where
  pub answer : ℕ
  pub calls : ℕ
  pub log : Log

-- an accepted list: the bring-up, then the calls in order, with this many record words
unfoldable pub accepted_run : List ℕ → List ℕ → ℕ → WholeRun
accepted_run list readings record_words =
    let s : Setup = setup_of (settings_of list) in
    whole_run s (map (steps_of s) (calls_of list)) (entries_in record_words) readings

-- a refused list makes no access
unfoldable pub result : ℕ → WholeRun → Result
result refusal r = go (eqb refusal 0)
  where
    go : Bool → Result
    go true = record { answer = number r.ending; calls = r.calls; log = r.log }
    go false = record { answer = refusal; calls = 0; log = record { opening = []; begun = [] } }

-- the run of a list with a received buffer of so many bytes and a record of so many words
unfoldable pub run : List ℕ → List ℕ → ℕ → ℕ → Result
run list readings rx-bytes record_words = result (refusal list rx-bytes) (accepted_run list readings record_words)

-- the answer and the four counts: calls ended well; readings used, the read accesses; accesses made; bytes received, the DR reads
unfoldable pub counts_of : Result → Counts
counts_of r =
    record {
      answer = r.answer;
      calls = r.calls;
      used = reads (flat r.log);
      made = length (flat r.log);
      got = length (received_of (flat r.log));
    }

-- a buffer with these words from its start, and the rest as it was
unfoldable pub filled : List ℕ → List ℕ → List ℕ
filled buffer words = words ++ drop (length words) buffer

-- a run's contract: the answer and the counts are the meaning's; the received buffer and the record hold its bytes and words, and past them what they held
pub record Meant (r : Result) (rx lg rx' lg' : List ℕ) (c : Counts) : Type 0 where
  pub counts : c ≡ counts_of r
  pub received : rx' ≡ filled rx (received_of (flat r.log))
  pub recorded : lg' ≡ filled lg (record_of (flat r.log))

-- the run of this list on these readings: what the buffers held before and hold after, and what it counted
abbrev pub RunsTo : (list readings rx lg rx' lg' : List ℕ) → Counts → Type 0
RunsTo list readings rx lg rx' lg' c = Meant (run list readings (length rx) (length lg)) rx lg rx' lg' c

-- the answer and the four counts in the order returned
abbrev pub in_order : Counts → List ℕ
in_order c = c.answer ∷ c.calls ∷ c.used ∷ c.made ∷ c.got ∷ []

-- the same for hosts, with the answer and the counts in an array
pub record HostRunsTo (list readings rx lg rx' lg' array : List ℕ) : Type 0 where
  pub counts : Counts
  pub runs : RunsTo list readings rx lg rx' lg' counts
  pub told : array ≡ in_order counts

-- both, said of a function's own parameters: a slice as it is at the call (`entry`) and at the return (`exit`)
abbrev pub Runs : (list readings : Slice) (rx log : MutSlice) → Counts → Type 0
Runs list readings rx log c = RunsTo list.entry.now readings.entry.now rx.entry.now log.entry.now rx.exit.now log.exit.now c

abbrev pub HostRuns : (list readings : Slice) (rx log counts : MutSlice) → Type 0
HostRuns list readings rx log counts = HostRunsTo list.entry.now readings.entry.now rx.entry.now log.entry.now rx.exit.now log.exit.now counts.exit.now
