-- Two lists compared (document 01, "Reduced call" and "Two whole runs"; document 02 for kind 7 and ten-bit addresses).
use Rattle.std.specs.Prelude.{ℕ, zero, suc, ◌≡◌, List, [], ◌∷◌, map, Bool, true, false, ◌&&◌, ◌||◌, eqb}
use Rattle.buslist.specs.declared.Address.{Address}
use Rattle.buslist.specs.Bytes.{word}
use Rattle.buslist.specs.Refusal.{refusal, any}
use Rattle.buslist.specs.Meaning.{Operation, write, read, Engine, polling, blocking, engine_of, Call, calls_of}
use Rattle.buslist.specs.Combined.{dropped, joined, combined}
use Rattle.registers.specs.Access.{record_of, received_of}
use Rattle.registers.specs.Machine.{flat}
use Rattle.engine.specs.Run.{Result, run, counts_of}

-- the operations of a reduced call: polling joined, blocking with the empty ones dropped and the others joined
unfoldable pub reduced_operations : Engine → List Operation → List Operation
reduced_operations polling os = joined os
reduced_operations blocking os = combined os

-- a reduced call: engine, address with its width, operations
pub record Reduced : Type 0 where
  pub engine : Engine
  pub address : Address
  pub operations : List Operation

unfoldable pub reduced : Call → Reduced
reduced c =
    record {
      engine = engine_of c.kind;
      address = c.address;
      operations = reduced_operations (engine_of c.kind) c.operations;
    }

abbrev pub is_empty : {A : Type 0} → List A → Bool
is_empty [] = true
is_empty (x ∷ xs) = false

-- an idle call makes no access: a transaction without operations, a blocking write_read with both halves empty, a kind 7 call with nothing left
unfoldable pub idle : Call → Bool
idle c = eqb c.kind 3 && is_empty c.operations || (eqb c.kind 6 || eqb c.kind 7) && is_empty (dropped c.operations)

-- the last operation, the last one listed, is an empty read: one of length 0
unfoldable pub ends_empty : List Operation → Bool
ends_empty [] = false
ends_empty (write bs ∷ []) = false
ends_empty (read zero ∷ []) = true
ends_empty (read (suc n) ∷ []) = false
ends_empty (o ∷ (o' ∷ os)) = ends_empty (o' ∷ os)

-- a polling call whose last operation is an empty read
unfoldable pub polls_empty_read : Call → Bool
polls_empty_read c = go (engine_of c.kind)
  where
    go : Engine → Bool
    go polling = ends_empty c.operations
    go blocking = false

-- the settings that are compared: the eight header words from pclk1 to the data timeout
abbrev pub settings_words : List ℕ → List ℕ
settings_words l = word l 24 ∷ word l 28 ∷ word l 32 ∷ word l 36 ∷ word l 40 ∷ word l 44 ∷ word l 48 ∷ word l 52 ∷ []

-- a list is accepted when no cause from 20 on applies to it with its received buffer
abbrev pub Accepted : List ℕ → ℕ → Type 0
Accepted list rx-bytes = refusal list rx-bytes ≡ 0

-- two lists that are compared: equal settings and no idle call
pub record Comparable (l m : List ℕ) : Type 0 where
  pub settings : settings_words l ≡ settings_words m
  pub busy : any idle (calls_of l) ≡ false
  pub busy' : any idle (calls_of m) ≡ false

-- the reduced calls of a list
abbrev pub reduced_calls : List ℕ → List Reduced
reduced_calls l = map reduced (calls_of l)

-- what is compared of two runs: the answer and the four counts, the record's words, and the received bytes
pub record SameRun (r r' : Result) : Type 0 where
  pub counts : counts_of r ≡ counts_of r'
  pub record_words : record_of (flat r.log) ≡ record_of (flat r'.log)
  pub received_bytes : received_of (flat r.log) ≡ received_of (flat r'.log)

-- demand 3, one claim about two lists of bytes
pub record Demand3 : Type 0 where
  -- equal records of whole runs that answer 0 mean equal reduced calls one by one; each run has readings and buffers of its own
  pub told_apart : (l m : List ℕ) → Comparable l m
      → (readings readings' : List ℕ) (rx rx' words words' : ℕ) → Accepted l rx → Accepted m rx'
      → (run l readings rx words).answer ≡ 0 → (run m readings' rx' words').answer ≡ 0
      → record_of (flat (run l readings rx words).log) ≡ record_of (flat (run m readings' rx' words').log)
      → reduced_calls l ≡ reduced_calls m
  -- equal reduced calls, no polling call ending in an empty read, mean equal runs on equal readings and buffers, wherever they stop
  pub same_run : (l m : List ℕ) → Comparable l m → reduced_calls l ≡ reduced_calls m
      → any polls_empty_read (calls_of l) ≡ false → any polls_empty_read (calls_of m) ≡ false
      → (readings : List ℕ) (rx words : ℕ) → Accepted l rx → Accepted m rx → SameRun (run l readings rx words) (run m readings rx words)
