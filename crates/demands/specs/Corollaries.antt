-- Demands 1 and 3 of what the code itself gives: its counts, and what its buffers hold.
use Rattle.std.specs.Prelude.{ℕ, ◌≤◌, ◌≡◌, List, true, false, length, take, get_or}
use Rattle.buslist.specs.Refusal.{refusal, any}
use Rattle.buslist.specs.Meaning.{calls_of}
use Rattle.registers.specs.Access.{entries_in, words_in}
use Rattle.engine.specs.declared.Counts.{Counts}
use Rattle.engine.specs.Run.{RunsTo}
use Rattle.demands.specs.Demand1.{known}
use Rattle.demands.specs.Compare.{polls_empty_read, Accepted, Comparable, reduced_calls}

-- a run of a list by the code: the readings, what the received buffer and the record held before and hold after, and the counts
pub record RunOf (list : List ℕ) : Type 0 where
  pub readings : List ℕ
  pub rx : List ℕ
  pub lg : List ℕ
  pub rx' : List ℕ
  pub lg' : List ℕ
  pub counts : Counts
  pub runs : RunsTo list readings rx lg rx' lg' counts

-- the counts that stand in a host's array
abbrev pub counts_in : List ℕ → Counts
counts_in array = record { answer = get_or array 0 0; calls = get_or array 1 0; used = get_or array 2 0; made = get_or array 3 0; got = get_or array 4 0 }

-- the record words of the accesses made, as they stand in the record
abbrev pub words_made : {list : List ℕ} → RunOf list → List ℕ
words_made r = take (words_in r.counts.made) r.lg'

-- the bytes received, as they stand in the received buffer
abbrev pub bytes_got : {list : List ℕ} → RunOf list → List ℕ
bytes_got r = take r.counts.got r.rx'

-- demand 1 of a run
pub record Results1 {list : List ℕ} (r : RunOf list) : Type 0 where
  -- the answer is one of the known numbers: at most 10 where the list is accepted
  pub answer : known r.counts.answer ≡ true
  pub accepted : Accepted list (length r.rx) → r.counts.answer ≤ 10
  -- a refused list gets its cause, and zero counts; both buffers are what they were
  pub refused : (Accepted list (length r.rx) → ⊥)
      → (r.counts ≡ record { answer = refusal list (length r.rx); calls = 0; used = 0; made = 0; got = 0 }) × (r.rx' ≡ r.rx) × (r.lg' ≡ r.lg)
  -- 0: every call of the list ended well; 9: every reading is used; 10: no entry fits the rest of the record
  pub well : r.counts.answer ≡ 0 → r.counts.calls ≡ length (calls_of list)
  pub no_reading : r.counts.answer ≡ 9 → r.counts.used ≡ length r.readings
  pub no_record : r.counts.answer ≡ 10 → r.counts.made ≡ entries_in (length r.lg)

-- two runs that are compared: of lists with equal settings and no idle call, each accepted with its received buffer
pub record Compared {l m : List ℕ} (r : RunOf l) (q : RunOf m) : Type 0 where
  pub comparable : Comparable l m
  pub accepted : Accepted l (length r.rx)
  pub accepted' : Accepted m (length q.rx)

-- what is compared of them: the answer and the counts, the record words of the accesses made, and the bytes received
pub record SameResults {l m : List ℕ} (r : RunOf l) (q : RunOf m) : Type 0 where
  pub counts : r.counts ≡ q.counts
  pub words : words_made r ≡ words_made q
  pub bytes : bytes_got r ≡ bytes_got q

-- demand 3 of two runs
pub record Results3 {l m : List ℕ} (r : RunOf l) (q : RunOf m) : Type 0 where
  -- equal record words where both answer 0 mean equal reduced calls one by one
  pub told_apart : Compared r q → r.counts.answer ≡ 0 → q.counts.answer ≡ 0 → words_made r ≡ words_made q → reduced_calls l ≡ reduced_calls m
  -- equal reduced calls, no polling call ending in an empty read, mean equal results on equal readings and buffers of equal length, wherever the runs stop
  pub same_run : Compared r q → reduced_calls l ≡ reduced_calls m → any polls_empty_read (calls_of l) ≡ false → any polls_empty_read (calls_of m) ≡ false
      → r.readings ≡ q.readings → length r.rx ≡ length q.rx → length r.lg ≡ length q.lg → SameResults r q
