-- Equal reduced calls have equal steps.
-- Assumes nothing.
use Prim.Native.Nat.{ℕ, zero, suc, ◌+◌}
use native.Mathlib.Nat.{zero-add, suc-add, add-suc}
use mathlib.Core.Bool.{Bool, true, false}
use mathlib.Core.Path.{◌≡◌, refl, ap₂, ◌∙◌}
use mathlib.Core.List.{List, [], ◌∷◌, ◌++◌, map, append_assoc}
use Rattle.units.specs.declared.Setup.{Setup}
use Rattle.buslist.specs.declared.Address.{Address}
use Rattle.buslist.specs.Meaning.{Operation, write, read, engine_of, address_number, Call}
use Rattle.buslist.specs.Combined.{dropped, gather, joined, combined}
use Rattle.registers.specs.Machine.{Step}
use Rattle.i2c.specs.declared.Previous.{Previous}
use Rattle.i2c.specs.Polling.{write_bytes, read_bytes, last_read, turn_write, turn_read, turn, transfer, is_last, polling_steps}
use Rattle.blocking_write.specs.Write.{write_without_stop}
use Rattle.blocking.specs.Blocking.{read_steps, blocking_steps}
use Rattle.calls.specs.Calls.{early, operations_steps, performed, steps_of}
use Rattle.demands.specs.Compare.{Reduced, reduced_operations, reduced, ends_empty}
use Rattle.demands.proofs.Shape.{All, none, more, Shaped, polling_write, polling_read, polling_write_read, transaction, blocking_write, blocking_read, blocking_write_read, blocking_transaction, Full, FullIn, Sound, longer, rewritten}

-- bytes in two parts
write-append : (bs cs : List ℕ) → write_bytes (bs ++ cs) ≡ write_bytes bs ++ write_bytes cs
unfolding write_bytes
write-append [] cs = refl
write-append (b ∷ bs) cs = rw (write-append bs cs)

read-append : (m n : ℕ) → read_bytes (m + n) ≡ read_bytes m ++ read_bytes n
unfolding read_bytes
read-append zero n = rw zero-add
read-append (suc m) n = rw (suc-add, read_bytes, read-append m n)

-- two neighbours of one direction do what the joined one does
join_write : (last : Bool) (bs cs : List ℕ) → write_bytes bs ++ transfer last (write cs) ≡ transfer last (write (bs ++ cs))
unfolding transfer
join_write true bs cs = simp (write-append, append_assoc)
join_write false bs cs = simp write-append

join_read : (m n : ℕ) (os : List Operation) → Full (read n ∷ os) → read_bytes m ++ transfer (is_last os) (read n) ≡ transfer (is_last os) (read (m + n))
unfolding transfer ends_empty last_read
join_read m zero [] h = absurd h
join_read m (suc n) [] h = rw add-suc (simp (last_read, read-append, append_assoc))
join_read m zero (o ∷ os) h = simp read-append
join_read m (suc n) (o ∷ os) h = simp read-append

-- something is gathered
gather_last : (o : Operation) (os : List Operation) → is_last (gather o os) ≡ false
unfolding gather
gather_last o [] = refl
gather_last (write bs) (write cs ∷ os) = gather_last (write (bs ++ cs)) os
gather_last (write bs) (read n ∷ os) = refl
gather_last (read m) (write cs ∷ os) = refl
gather_last (read m) (read n ∷ os) = gather_last (read (m + n)) os

-- gathered operations do what they did
gather_steps : (a : Address) (previous : Previous) (o : Operation) (os : List Operation) → Full (o ∷ os) → polling_steps false a previous (o ∷ os) ≡ polling_steps false a previous (gather o os)
unfolding gather polling_steps turn turn_write turn_read transfer ends_empty
gather_steps a previous o [] h = refl
gather_steps a previous (write bs) (write cs ∷ os) h =
    simp (← join_write (is_last os) bs cs, append_assoc) refl ∙ gather_steps a previous (write (bs ++ cs)) os (rewritten (bs ++ cs) cs os h)
gather_steps a previous (write bs) (read n ∷ os) h = rw (gather_steps a Previous.Write (read n) os h, gather_last (read n) os)
gather_steps a previous (read m) (write cs ∷ os) h = rw (gather_steps a Previous.Read (write cs) os h, gather_last (write cs) os)
gather_steps a previous (read m) (read n ∷ os) h =
    simp (← join_read m n os h, append_assoc) refl ∙ gather_steps a previous (read (m + n)) os (longer m n os h)

-- a blocking write_read does what is left of it, combined
halves_steps : (s : Setup) (a : ℕ) (bs : List ℕ) (n : ℕ)
    → blocking_steps s a Previous.Nothing (write bs ∷ read n ∷ []) ≡ blocking_steps s a Previous.Nothing (combined (write bs ∷ read n ∷ []))
unfolding blocking_steps joined dropped gather write_without_stop read_steps
halves_steps s a [] zero = refl
halves_steps s a [] (suc n) = refl
halves_steps s a (b ∷ bs) zero = refl
halves_steps s a (b ∷ bs) (suc n) = refl

-- the steps of a reduced call
unfoldable pub reduced_steps : Setup → Reduced → List Step
reduced_steps s r = operations_steps s r.engine false r.address Previous.Nothing r.operations

-- joined operations do what they did
joined_steps : (a : Address) (os : List Operation) → Full os → polling_steps false a Previous.Nothing os ≡ polling_steps false a Previous.Nothing (joined os)
unfolding joined
joined_steps a [] h = refl
joined_steps a (o ∷ os) h = gather_steps a Previous.Nothing o os h

-- reduced operations do what they did, by the kind
shaped_steps : (s : Setup) (a : Address) {k : ℕ} {os : List Operation} → Shaped k os → FullIn (engine_of k) os
    → operations_steps s (engine_of k) (early k) a Previous.Nothing (performed k os) ≡ operations_steps s (engine_of k) false a Previous.Nothing (reduced_operations (engine_of k) os)
unfolding operations_steps performed reduced_operations engine_of early joined dropped gather polling_steps turn ends_empty
shaped_steps s a polling_write h = refl
shaped_steps s a (polling_read {n = zero}) h = elim h [ ]
shaped_steps s a (polling_read {n = suc n}) h = refl
shaped_steps s a (polling_write_read {n = zero}) h = elim h [ ]
shaped_steps s a (polling_write_read {n = suc n}) h = refl
shaped_steps s a (transaction {os}) h = joined_steps a os h
shaped_steps s a blocking_write h = refl
shaped_steps s a blocking_read h = refl
shaped_steps s a (blocking_write_read {bs} {n}) h = halves_steps s (address_number a) bs n
shaped_steps s a (blocking_transaction r) h = refl

-- a sound call does what its reduced call does
reduces : (s : Setup) (c : Call) → Sound c → steps_of s c ≡ reduced_steps s (reduced c)
unfolding steps_of reduced reduced_steps
reduces s c h = shaped_steps s c.address h.of_kind.shaped h.full

pub reduces_all : (s : Setup) {cs : List Call} → All Sound cs → map (steps_of s) cs ≡ map (reduced_steps s) (map reduced cs)
reduces_all s none = refl
reduces_all s (more {a = c} h hs) = ap₂ ◌∷◌ (reduces s c h) (reduces_all s hs)

-- equal reduced calls, the same steps
pub same_steps : (s : Setup) {cs ds : List Call} → All Sound cs → All Sound ds → map reduced cs ≡ map reduced ds → map (steps_of s) cs ≡ map (steps_of s) ds
same_steps s hc hd e = rw (reduces_all s hc, reduces_all s hd, e)
