-- What demand 3 supposes is met: unlike lists of bytes with equal reduced calls, and runs that end well.
-- And that no call may be idle, and none may end in an empty read, is needed: lists that break this alone, of which the claim is false.
-- Assumes nothing.
use Prim.Native.Nat.{ℕ}
use native.Mathlib.Omega.{arith}
use mathlib.Core.Bool.{true, false, cond}
use mathlib.Core.Path.{◌≡◌, refl, ap}
use mathlib.Core.List.{List, [], ◌∷◌, ◌++◌}
use lib.ListN.{length}
use lib.Dec.{eqb}
use Rattle.buslist.specs.declared.Address.{Address}
use Rattle.buslist.specs.Bytes.{byte}
use Rattle.buslist.specs.Refusal.{any}
use Rattle.buslist.specs.Meaning.{Operation, write, read, address_width, Call, calls_of}
use Rattle.buslist.specs.Encode.{encode}
use Rattle.registers.specs.declared.Entry.{Entry}
use Rattle.registers.specs.Access.{wDR, record_of, received_of}
use Rattle.registers.specs.Machine.{poll_word, start, poll_error, poll_ready, after_poll, flat}
use Rattle.i2c.specs.Polling.{read_bytes}
use Rattle.blocking_write.specs.Write.{later_bytes, write_bytes_and_wait, write_without_stop}
use Rattle.blocking.specs.Blocking.{receive_bytes, read_arm, read_steps, close_after, blocking_steps}
use Rattle.engine.specs.Run.{run}
use Rattle.demands.specs.Compare.{reduced_operations, reduced, idle, ends_empty, polls_empty_read, settings_words, Accepted, Comparable, Reduced, reduced_calls, SameRun}
use Rattle.demands.specs.Examples.{settings, call_to, computed, ran}
use Rattle.demands.proofs.Demand3.{demand_3}

-- the list of these calls: 36 MHz, sysclk 72 MHz, Standard 100,000, timeouts 1,000 µs, two tries
abbrev list_of : List Call → List ℕ
list_of cs = encode (settings 72000000 100000 1000 2 1000 1000) cs

-- the list of this call alone
abbrev alone : Call → List ℕ
alone c = list_of (c ∷ [])

-- a transaction of the writes 1 and 2, and a write of both
abbrev two_writes : Call
two_writes = call_to 3 (write (1 ∷ []) ∷ write (2 ∷ []) ∷ [])

abbrev one_write : Call
one_write = call_to 0 (write (1 ∷ 2 ∷ []) ∷ [])

-- a blocking write_read with an empty read, and a blocking write
abbrev empty_half : Call
empty_half = call_to 6 (write (1 ∷ 2 ∷ []) ∷ read 0 ∷ [])

abbrev blocking_one : Call
blocking_one = call_to 4 (write (1 ∷ 2 ∷ []) ∷ [])

-- both with another byte
abbrev other_write : Call
other_write = call_to 0 (write (1 ∷ 3 ∷ []) ∷ [])

abbrev blocking_other : Call
blocking_other = call_to 4 (write (1 ∷ 3 ∷ []) ∷ [])

-- a write_read, and a transaction with the read in two
abbrev one-read : Call
one-read = call_to 2 (write (1 ∷ []) ∷ read 2 ∷ [])

abbrev two_reads : Call
two_reads = call_to 3 (write (1 ∷ []) ∷ read 1 ∷ read 1 ∷ [])

-- a transaction that reads one byte and then none, and a read of one byte
abbrev empty_read : Call
empty_read = call_to 3 (read 1 ∷ read 0 ∷ [])

abbrev full_read : Call
full_read = call_to 1 (read 1 ∷ [])

-- calls of kind 7 in several parts, empty ones among them: a write, one with another byte, a read, and both
abbrev combined_write : Call
combined_write = call_to 7 (write (1 ∷ []) ∷ read 0 ∷ write (2 ∷ []) ∷ [])

abbrev combined_other : Call
combined_other = call_to 7 (write (1 ∷ []) ∷ write (3 ∷ []) ∷ write [] ∷ [])

abbrev combined-read : Call
combined-read = call_to 7 (write [] ∷ read 1 ∷ read 1 ∷ [])

abbrev combined-both : Call
combined-both = call_to 7 (read 0 ∷ write (1 ∷ []) ∷ write (2 ∷ []) ∷ read 1 ∷ write [] ∷ [])

-- the blocking read and the write_read that the last two are
abbrev blocking_two : Call
blocking_two = call_to 5 (read 2 ∷ [])

abbrev blocking_both : Call
blocking_both = call_to 6 (write (1 ∷ 2 ∷ []) ∷ read 1 ∷ [])

-- a call to a ten-bit address: a transaction of the writes 1 and 2, and a write of both
abbrev ten_to : ℕ → List Operation → Call
ten_to kind os = record { kind = kind; address = Address.Ten 0x150; operations = os }

abbrev ten_writes : Call
ten_writes = ten_to 3 (write (1 ∷ []) ∷ write (2 ∷ []) ∷ [])

abbrev ten_write : Call
ten_write = ten_to 0 (write (1 ∷ 2 ∷ []) ∷ [])

-- a transaction that begins with a read, in two, and a read of both bytes
abbrev ten_reads : Call
ten_reads = ten_to 3 (read 1 ∷ read 1 ∷ [])

abbrev ten_read : Call
ten_read = ten_to 1 (read 2 ∷ [])

-- a write of 05 to the seven-bit 78 hex, an empty write to the ten-bit 005, whose header is the same byte F0, and a write of 05 to the ten-bit 000
abbrev write_to : Address → List ℕ → Call
write_to a bytes = record { kind = 0; address = a; operations = write bytes ∷ [] }

abbrev seven_five : Call
seven_five = write_to (Address.Seven 0x78) (5 ∷ [])

abbrev ten_five : Call
ten_five = write_to (Address.Ten 5) []

abbrev ten_zero : Call
ten_zero = write_to (Address.Ten 0) (5 ∷ [])

-- the idle calls: a transaction without operations, a blocking write_read with both halves empty, and a kind 7 call with nothing left
abbrev no_operations : Call
no_operations = call_to 3 []

abbrev empty_halves : Call
empty_halves = call_to 6 (write [] ∷ read 0 ∷ [])

abbrev nothing_left : Call
nothing_left = call_to 7 (read 0 ∷ write [] ∷ [])

-- a list for both engines, and one with equal reduced calls
abbrev both : List ℕ
both = list_of (two_writes ∷ empty_half ∷ [])

abbrev both' : List ℕ
both' = list_of (one_write ∷ blocking_one ∷ [])

-- readings on which the calls end well, after the bring-up's 0: of a polling write, a blocking write, and a polling read after a write;
-- of a blocking read of two bytes, and a blocking read of one after a write
abbrev polled : List ℕ
polled = 1 ∷ 1 ∷ 1 ∷ 1 ∷ 3 ∷ 2 ∷ 7 ∷ 0x80 ∷ 0x84 ∷ 0x80 ∷ 0x84 ∷ 1 ∷ 1 ∷ []

abbrev timed : List ℕ
timed = 1 ∷ 0 ∷ 1 ∷ 1 ∷ 0 ∷ 2 ∷ 2 ∷ 7 ∷ 0 ∷ 0x80 ∷ 0 ∷ 0x84 ∷ 1 ∷ 0 ∷ 1 ∷ []

abbrev turned : List ℕ
turned =
    1 ∷ 1 ∷ 1 ∷ 1 ∷ 3 ∷ 2 ∷ 7 ∷ 0x80 ∷ 0x84 ∷ 1 ∷ 1 ∷ 1 ∷ 3 ∷ 2 ∷ 2 ∷ 7 ∷ 0x40 ∷ 0x40 ∷ 0x2a ∷ 1 ∷ 0x40 ∷ 0x40 ∷ 0x2b ∷ 1 ∷ []

abbrev timed_read : List ℕ
timed_read = 1 ∷ 0 ∷ 1 ∷ 1 ∷ 0 ∷ 2 ∷ 1 ∷ 2 ∷ 7 ∷ 1 ∷ 0 ∷ 0x44 ∷ 1 ∷ 0x2a ∷ 0x2b ∷ 0 ∷ 1 ∷ 1 ∷ 1 ∷ []

abbrev timed_both : List ℕ
timed_both =
    1 ∷ 0 ∷ 1 ∷ 1 ∷ 0 ∷ 2 ∷ 2 ∷ 7 ∷ 0 ∷ 0x80 ∷ 0 ∷ 0x84 ∷ 1 ∷ 0 ∷ 1 ∷ 1 ∷ 0 ∷ 2 ∷ 1 ∷ 2 ∷ 7 ∷ 1 ∷ 0 ∷ 0x40 ∷ 0x2a ∷ 0 ∷ 1 ∷ 1 ∷ []

-- of a ten-bit write and a ten-bit read, and of a write of one byte or none to an address of either width
abbrev ten_polled : List ℕ
ten_polled = 1 ∷ 1 ∷ 1 ∷ 1 ∷ 3 ∷ 8 ∷ 2 ∷ 7 ∷ 0x80 ∷ 0x84 ∷ 0x80 ∷ 0x84 ∷ 1 ∷ 1 ∷ []

abbrev ten_turned : List ℕ
ten_turned = 1 ∷ 1 ∷ 1 ∷ 1 ∷ 3 ∷ 8 ∷ 2 ∷ 7 ∷ 1 ∷ 1 ∷ 2 ∷ 2 ∷ 7 ∷ 0x40 ∷ 0x40 ∷ 0x2a ∷ 1 ∷ 0x40 ∷ 0x40 ∷ 0x2b ∷ 1 ∷ []

abbrev either_width : List ℕ
either_width = 1 ∷ 1 ∷ 1 ∷ 1 ∷ 3 ∷ 0x0a ∷ 2 ∷ 0x80 ∷ 0x84 ∷ 0x84 ∷ 1 ∷ 1 ∷ []

-- the bytes that a log has written to DR
unfoldable pub sent : List Entry → List ℕ
sent [] = []
sent (e ∷ es) = cond (eqb e.code wDR) (e.value ∷ sent es) (sent es)

-- names all that these compute by
computed_by : List ℕ → List ℕ → ℕ
unfolding computed ran sent reduced_operations reduced idle ends_empty polls_empty_read read_bytes poll_word poll_error poll_ready after_poll start blocking_steps later_bytes write_bytes_and_wait write_without_stop receive_bytes read_arm read_steps close_after
computed_by l readings = (run l readings 0 100).answer

-- two unlike lists that are compared, with equal reduced calls, and a received buffer of rx bytes
pub record Alike (l m : List ℕ) (rx : ℕ) : Type 0 where
  pub unlike : l ≡ m → ⊥
  pub comparable : Comparable l m
  pub accepted : Accepted l rx
  pub accepted' : Accepted m rx
  pub equal_calls : reduced_calls l ≡ reduced_calls m

-- none of their calls is the exception, and their runs end well
pub record EndWell (l m : List ℕ) (rx : ℕ) (readings : List ℕ) : Type 0 where
  pub full : any polls_empty_read (calls_of l) ≡ false
  pub full' : any polls_empty_read (calls_of m) ≡ false
  pub ends : (run l readings rx 100).answer ≡ 0
  pub ends' : (run m readings rx 100).answer ≡ 0

-- two lists that are compared, with unlike reduced calls, and runs that end well
pub record Unlike (l m : List ℕ) (rx : ℕ) (readings : List ℕ) : Type 0 where
  pub comparable : Comparable l m
  pub accepted : Accepted l rx
  pub accepted' : Accepted m rx
  pub unlike_calls : reduced_calls l ≡ reduced_calls m → ⊥
  pub ends : (run l readings rx 100).answer ≡ 0
  pub ends' : (run m readings rx 100).answer ≡ 0

-- two lists that would be compared if the first had no idle call: unlike reduced calls, and runs that end well with one record
pub record NotTold (l m : List ℕ) (readings : List ℕ) : Type 0 where
  pub settings : settings_words l ≡ settings_words m
  pub idle_call : any idle (calls_of l) ≡ true
  pub busy' : any idle (calls_of m) ≡ false
  pub accepted : Accepted l 0
  pub accepted' : Accepted m 0
  pub ends : (run l readings 0 100).answer ≡ 0
  pub ends' : (run m readings 0 100).answer ≡ 0
  pub one_record : record_of (flat (run l readings 0 100).log) ≡ record_of (flat (run m readings 0 100).log)
  pub unlike_calls : reduced_calls l ≡ reduced_calls m → ⊥

-- two lists that `same_run` would be about if no call of the first ended in an empty read: equal reduced calls, and runs that differ
pub record NotSame (l m : List ℕ) (rx : ℕ) (readings : List ℕ) : Type 0 where
  pub alike : Alike l m rx
  pub exception : any polls_empty_read (calls_of l) ≡ true
  pub full' : any polls_empty_read (calls_of m) ≡ false
  pub unlike_runs : SameRun (run l readings rx 100) (run m readings rx 100) → ⊥

pub record Witness : Type 0 where
  -- one pair for each engine
  pub polling_pair : Alike (alone two_writes) (alone one_write) 0
  pub polling_ends : EndWell (alone two_writes) (alone one_write) 0 (0 ∷ polled)
  pub blocking_pair : Alike (alone empty_half) (alone blocking_one) 0
  pub blocking_ends : EndWell (alone empty_half) (alone blocking_one) 0 (0 ∷ timed)
  -- a pair that receives, and the bytes
  pub reading_pair : Alike (alone one-read) (alone two_reads) 2
  pub reading_ends : EndWell (alone one-read) (alone two_reads) 2 (0 ∷ turned)
  pub reading_bytes : received_of (flat (run (alone one-read) (0 ∷ turned) 2 100).log) ≡ 0x2a ∷ 0x2b ∷ []
  -- a pair of lists that have a call for each engine
  pub both_pair : Alike both both' 0
  pub both_ends : EndWell both both' 0 (0 ∷ polled ++ timed)
  -- kind 7 against each of kinds 4, 5 and 6
  pub write_pair : Alike (alone combined_write) (alone blocking_one) 0
  pub write_ends : EndWell (alone combined_write) (alone blocking_one) 0 (0 ∷ timed)
  pub read_pair : Alike (alone combined-read) (alone blocking_two) 2
  pub read_ends : EndWell (alone combined-read) (alone blocking_two) 2 (0 ∷ timed_read)
  pub read_bytes : received_of (flat (run (alone combined-read) (0 ∷ timed_read) 2 100).log) ≡ 0x2a ∷ 0x2b ∷ []
  pub write_read_pair : Alike (alone combined-both) (alone blocking_both) 1
  pub write_read_ends : EndWell (alone combined-both) (alone blocking_both) 1 (0 ∷ timed_both)
  -- ten-bit calls: writes, and reads with the bytes
  pub ten_pair : Alike (alone ten_writes) (alone ten_write) 0
  pub ten_ends : EndWell (alone ten_writes) (alone ten_write) 0 (0 ∷ ten_polled)
  pub ten_read_pair : Alike (alone ten_reads) (alone ten_read) 2
  pub ten_read_ends : EndWell (alone ten_reads) (alone ten_read) 2 (0 ∷ ten_turned)
  pub ten_read_bytes : received_of (flat (run (alone ten_reads) (0 ∷ ten_turned) 2 100).log) ≡ 0x2a ∷ 0x2b ∷ []
  -- one pair for each engine that its records tell apart, and two calls of kind 7
  pub polling_unlike : Unlike (alone one_write) (alone other_write) 0 (0 ∷ polled)
  pub blocking_unlike : Unlike (alone blocking_one) (alone blocking_other) 0 (0 ∷ timed)
  pub combined_unlike : Unlike (alone combined_write) (alone combined_other) 0 (0 ∷ timed)
  -- calls of different widths that begin with the same byte: with the same bytes sent, and with the same operations
  pub width_unlike : Unlike (alone seven_five) (alone ten_five) 0 (0 ∷ either_width)
  pub seven_sent : sent (flat (run (alone seven_five) (0 ∷ either_width) 0 100).log) ≡ 0xf0 ∷ 5 ∷ []
  pub ten_sent : sent (flat (run (alone ten_five) (0 ∷ either_width) 0 100).log) ≡ 0xf0 ∷ 5 ∷ []
  pub same_operations : Unlike (alone seven_five) (alone ten_zero) 0 (0 ∷ either_width)
  -- why no call may be idle: for each idle call, a list with it and one without
  pub idle_transaction : NotTold (list_of (one_write ∷ no_operations ∷ [])) (alone one_write) (0 ∷ polled)
  pub idle_write_read : NotTold (list_of (one_write ∷ empty_halves ∷ [])) (alone one_write) (0 ∷ polled)
  pub idle_combined : NotTold (list_of (one_write ∷ nothing_left ∷ [])) (alone one_write) (0 ∷ polled)
  -- why no polling call may end in an empty read
  pub empty_last_read : NotSame (alone empty_read) (alone full_read) 1 (0 ∷ polled)

-- lists whose first calls are of other kinds are unlike
alike : {l m : List ℕ} {rx : ℕ} → (byte l 64 ≡ byte m 64 → ⊥) → settings_words l ≡ settings_words m → any idle (calls_of l) ≡ false → any idle (calls_of m) ≡ false
    → Accepted l rx → Accepted m rx → reduced_calls l ≡ reduced_calls m → Alike l m rx
alike kinds same busy busy' accepted accepted' calls =
    record {
      unlike = λ e. kinds (ap (λ l. byte l 64) e);
      comparable = record { settings = same; busy = busy; busy' = busy' };
      accepted = accepted;
      accepted' = accepted';
      equal_calls = calls;
    }

-- the second byte of a first operation
abbrev bytes_of : List Operation → List ℕ
bytes_of [] = []
bytes_of (write bs ∷ os) = bs
bytes_of (read n ∷ os) = []

abbrev second_byte : List Reduced → ℕ
second_byte [] = 0
second_byte (c ∷ cs) = byte (bytes_of c.operations) 1

-- the width of a first address
abbrev first_width : List Reduced → ℕ
first_width [] = 0
first_width (c ∷ cs) = address_width c.address

-- lists of which this number differs have unlike reduced calls
unlike : {l m : List ℕ} {rx : ℕ} {readings : List ℕ} (what : List Reduced → ℕ) → (what (reduced_calls l) ≡ what (reduced_calls m) → ⊥)
    → settings_words l ≡ settings_words m → any idle (calls_of l) ≡ false → any idle (calls_of m) ≡ false
    → Accepted l rx → Accepted m rx → (run l readings rx 100).answer ≡ 0 → (run m readings rx 100).answer ≡ 0 → Unlike l m rx readings
unlike what differs same busy busy' accepted accepted' ends ends' =
    record {
      comparable = record { settings = same; busy = busy; busy' = busy' };
      accepted = accepted;
      accepted' = accepted';
      unlike_calls = λ e. differs (ap what e);
      ends = ends;
      ends' = ends';
    }

-- a list of two calls and a list of one
not_told : {l m : List ℕ} {readings : List ℕ} → (length (reduced_calls l) ≡ length (reduced_calls m) → ⊥) → settings_words l ≡ settings_words m
    → any idle (calls_of l) ≡ true → any idle (calls_of m) ≡ false → Accepted l 0 → Accepted m 0 → (run l readings 0 100).answer ≡ 0 → (run m readings 0 100).answer ≡ 0
    → record_of (flat (run l readings 0 100).log) ≡ record_of (flat (run m readings 0 100).log) → NotTold l m readings
not_told lengths same idle_call busy' accepted accepted' ends ends' one_record =
    record {
      settings = same;
      idle_call = idle_call;
      busy' = busy';
      accepted = accepted;
      accepted' = accepted';
      ends = ends;
      ends' = ends';
      one_record = one_record;
      unlike_calls = λ e. lengths (ap length e);
    }

pub witness : Witness
unfolding computed_by
witness =
    record {
      polling_pair = alike (omega arith) refl refl refl refl refl refl;
      polling_ends = record { full = refl; full' = refl; ends = refl; ends' = refl };
      blocking_pair = alike (omega arith) refl refl refl refl refl refl;
      blocking_ends = record { full = refl; full' = refl; ends = refl; ends' = refl };
      reading_pair = alike (omega arith) refl refl refl refl refl refl;
      reading_ends = record { full = refl; full' = refl; ends = refl; ends' = refl };
      reading_bytes = refl;
      both_pair = alike (omega arith) refl refl refl refl refl refl;
      both_ends = record { full = refl; full' = refl; ends = refl; ends' = refl };
      write_pair = alike (omega arith) refl refl refl refl refl refl;
      write_ends = record { full = refl; full' = refl; ends = refl; ends' = refl };
      read_pair = alike (omega arith) refl refl refl refl refl refl;
      read_ends = record { full = refl; full' = refl; ends = refl; ends' = refl };
      read_bytes = refl;
      write_read_pair = alike (omega arith) refl refl refl refl refl refl;
      write_read_ends = record { full = refl; full' = refl; ends = refl; ends' = refl };
      ten_pair = alike (omega arith) refl refl refl refl refl refl;
      ten_ends = record { full = refl; full' = refl; ends = refl; ends' = refl };
      ten_read_pair = alike (omega arith) refl refl refl refl refl refl;
      ten_read_ends = record { full = refl; full' = refl; ends = refl; ends' = refl };
      ten_read_bytes = refl;
      polling_unlike = unlike second_byte (omega arith) refl refl refl refl refl refl refl;
      blocking_unlike = unlike second_byte (omega arith) refl refl refl refl refl refl refl;
      combined_unlike = unlike second_byte (omega arith) refl refl refl refl refl refl refl;
      width_unlike = unlike first_width (omega arith) refl refl refl refl refl refl refl;
      seven_sent = refl;
      ten_sent = refl;
      same_operations = unlike first_width (omega arith) refl refl refl refl refl refl refl;
      idle_transaction = not_told (omega arith) refl refl refl refl refl refl refl refl;
      idle_write_read = not_told (omega arith) refl refl refl refl refl refl refl refl;
      idle_combined = not_told (omega arith) refl refl refl refl refl refl refl refl;
      empty_last_read =
          record {
            alike = alike (omega arith) refl refl refl refl refl refl;
            exception = refl;
            full' = refl;
            unlike_runs = λ r. let n = ap (λ c. c.made) r.counts in omega arith;
          };
    }

-- so the runs of each pair are one
pub one-run : {l m : List ℕ} {rx : ℕ} {readings : List ℕ} → Alike l m rx → EndWell l m rx readings → SameRun (run l readings rx 100) (run m readings rx 100)
one-run a e = demand_3.same_run _ _ a.comparable a.equal_calls e.full e.full' _ _ 100 a.accepted a.accepted'

-- and the records of two unlike lists differ
pub unlike_records : {l m : List ℕ} {rx : ℕ} {readings : List ℕ} → Unlike l m rx readings → record_of (flat (run l readings rx 100).log) ≡ record_of (flat (run m readings rx 100).log) → ⊥
unlike_records u e =
    u.unlike_calls (demand_3.told_apart _ _ u.comparable _ _ _ _ 100 100 u.accepted u.accepted' u.ends u.ends' e)
