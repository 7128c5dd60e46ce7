-- The operations that a call of each kind has, and those of its reduced call.
-- Assumes nothing.
use Prim.Native.Nat.{ℕ, zero, suc, ◌+◌}
use native.Mathlib.Nat.{add-suc}
use native.Mathlib.Omega.{arith}
use mathlib.Core.Bool.{Bool, true, false}
use mathlib.Core.Path.{◌≡◌}
use mathlib.Core.List.{List, [], ◌∷◌}
use Rattle.buslist.specs.declared.Address.{Address}
use Rattle.buslist.specs.Meaning.{Operation, write, read, Engine, polling, blocking, engine_of, Call}
use Rattle.buslist.specs.Combined.{combined, read_then_write}
use Rattle.demands.specs.Compare.{ends_empty}

-- each of a list
pub data All {A : Type 0} (P : A → Type 0) : List A → Type 0 where
  none : All P []
  more : {a : A} {rest : List A} → P a → All P rest → All P (a ∷ rest)

-- a test that fails
abbrev pub Fails : Bool → Type 0
Fails true = ⊥
Fails false = Unit {0}

pub fails : (b : Bool) → b ≡ false → Fails b
fails true e = let z : ◌≡◌ {A = ℕ} 0 1 = cc in omega arith
fails false e = tt

-- the operations of a call, by its kind; kinds 4 and 5 are not empty, and kind 7 has no write after a read
pub data Shaped : ℕ → List Operation → Type 0 where
  polling_write : {bs : List ℕ} → Shaped 0 (write bs ∷ [])
  polling_read : {n : ℕ} → Shaped 1 (read n ∷ [])
  polling_write_read : {bs : List ℕ} {n : ℕ} → Shaped 2 (write bs ∷ read n ∷ [])
  transaction : {os : List Operation} → Shaped 3 os
  blocking_write : {b : ℕ} {bs : List ℕ} → Shaped 4 (write (b ∷ bs) ∷ [])
  blocking_read : {n : ℕ} → Shaped 5 (read (suc n) ∷ [])
  blocking_write_read : {bs : List ℕ} {n : ℕ} → Shaped 6 (write bs ∷ read n ∷ [])
  blocking_transaction : {os : List Operation} → Fails (read_then_write (combined os)) → Shaped 7 os

-- a blocking call has a seven-bit address
abbrev pub SevenIn : Engine → Address → Type 0
SevenIn polling a = Unit {0}
SevenIn blocking (Address.Seven a) = Unit {0}
SevenIn blocking (Address.Ten a) = ⊥

-- a call has the operations of its kind, and an address of a width that its engine takes
pub record OfKind (c : Call) : Type 0 where
  pub shaped : Shaped c.kind c.operations
  pub seven : SevenIn (engine_of c.kind) c.address

-- the last operation is no empty read
abbrev pub Full : List Operation → Type 0
Full os = Fails (ends_empty os)

abbrev pub FullIn : Engine → List Operation → Type 0
FullIn polling os = Full os
FullIn blocking os = Unit {0}

-- a call of its kind that is no polling call ending in an empty read
pub record Sound (c : Call) : Type 0 where
  pub of_kind : OfKind c
  pub full : FullIn (engine_of c.kind) c.operations

-- a longer read is no empty one
pub longer : (m n : ℕ) (os : List Operation) → Full (read n ∷ os) → Full (read (m + n) ∷ os)
unfolding ends_empty
longer m zero [] h = absurd h
longer m (suc n) [] h = rw add-suc tt
longer m zero (o ∷ os) h = h
longer m (suc n) (o ∷ os) h = h

-- any write may stand for another
pub rewritten : (bs cs : List ℕ) (os : List Operation) → Full (write cs ∷ os) → Full (write bs ∷ os)
unfolding ends_empty
rewritten bs cs [] h = h
rewritten bs cs (o ∷ os) h = h
