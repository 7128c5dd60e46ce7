-- Two whole runs that end well with one log have equal reduced calls.
-- Assumes nothing.
use Prim.Native.Nat.{ℕ, zero, suc, ◌+◌}
use native.Mathlib.Omega.{arith}
use native.Mathlib.Nat.{suc-add}
use mathlib.Core.Bool.{Bool, false}
use mathlib.Core.Path.{◌≡◌, refl, ap, ap₂}
use mathlib.Core.List.{List, [], ◌∷◌, ◌++◌, map, flatten, append_assoc}
use Rattle.units.specs.declared.Setup.{Setup}
use Rattle.buslist.specs.declared.Address.{Address}
use Rattle.buslist.specs.Meaning.{Operation, write, read, Engine, polling, blocking, engine_of, address_number, Call}
use Rattle.buslist.specs.Combined.{dropped, gather, joined, combined, read_then_write}
use Rattle.buslist.proofs.Joining.{read_before}
use Rattle.registers.specs.Access.{CR1, number}
use Rattle.registers.specs.Machine.{Step, bring_up, flat, whole_run}
use Rattle.i2c.specs.declared.Previous.{Previous}
use Rattle.i2c.specs.Polling.{last_read, turn_write, turn_read, turn, transfer, operation_steps, direction, polling_steps}
use Rattle.calls.specs.Calls.{early, operations_steps, performed, steps_of}
use Rattle.demands.specs.Compare.{Reduced, is_empty, reduced_operations, reduced, idle, ends_empty}
use Rattle.demands.proofs.Shape.{All, none, more, Fails, Shaped, polling_write, polling_read, polling_write_read, transaction, blocking_write, blocking_read, blocking_write_read, blocking_transaction, SevenIn, OfKind, Full, FullIn, Sound, longer, rewritten}
use Rattle.demands.proofs.Same.{reduced_steps, reduces_all}
use Rattle.demands.proofs.Trace.{goes_trace, Both, first, make, weaken, pair, apart, flip, prefix, failing}
use Rattle.demands.proofs.Apart.{Turns, PollingForm, same_polling, Tail, Halves, opens_half, not_none, not_control, same_blocking}
use Rattle.engine.proofs.Goes.{whole_goes}

-- what the operations of a reduced call are
abbrev Form : Engine → List Operation → Type 0
Form polling os = PollingForm os
Form blocking os = Halves os

abbrev Formed : Reduced → Type 0
Formed r = Form r.engine r.operations × SevenIn r.engine r.address

-- a polling call begins with a CR1 read
first_polling : (a : Address) (os : List Operation) (p : List Step) → PollingForm os → first (polling_steps false a Previous.Nothing os ++ p) ≡ CR1
unfolding polling_steps turn turn_write turn_read first
first_polling a [] p h = elim h [ ]
first_polling a (write bs ∷ os) p h = refl
first_polling (Address.Seven a) (read n ∷ os) p h = refl
first_polling (Address.Ten a) (read n ∷ os) p h = refl

-- seven-bit addresses of one number
same_seven : (a c : Address) → SevenIn blocking a → SevenIn blocking c → address_number a ≡ address_number c → a ≡ c
same_seven (Address.Seven a) (Address.Ten _) h j e = elim j [ ]
same_seven (Address.Ten _) c h j e = elim h [ ]
same_seven (Address.Seven a) (Address.Seven c) h j e = ap Address.Seven e

module _ {s : Setup} {P : Type 0} {p q : List Step} where
  -- two calls with a common trace are one reduced call
  same_call : (e f : Engine) (a c : Address) (os ps : List Operation) → Form e os × SevenIn e a → Form f ps × SevenIn f c → (e ≡ f → a ≡ c → os ≡ ps → Both s P p q)
      → Both s P (operations_steps s e false a Previous.Nothing os ++ p) (operations_steps s f false c Previous.Nothing ps ++ q)
  unfolding operations_steps
  same_call polling polling a c os ps h j k = same_polling a c os ps h.0 j.0 (k refl)
  same_call polling blocking a c os ps h j k = apart (rw (first_polling a os p h.0) (not_control (opens_half s (address_number c) Previous.Nothing q j.0)))
  same_call blocking polling a c os ps h j k = flip (apart (rw (first_polling c ps q j.0) (not_control (opens_half s (address_number a) Previous.Nothing p h.0))))
  same_call blocking blocking a c os ps h j k =
      same_blocking (address_number a) (address_number c) h.0 j.0 (λ e. k refl (same_seven a c h.1 j.1 e))

-- a call makes an access
makes_access : {s : Setup} {P : Type 0} (e : Engine) (a : Address) (os : List Operation) (q : List Step) → Form e os → Both s P [] (operations_steps s e false a Previous.Nothing os ++ q)
unfolding operations_steps first
makes_access polling a os q h = apart (rw (first_polling a os q h) (omega arith))
makes_access {s} blocking a os q h = apart (not_none (opens_half s (address_number a) Previous.Nothing q h))

-- reduced calls with a common trace are equal
same_reduced : (s : Setup) {rs ts : List Reduced} → All Formed rs → All Formed ts
    → Both s (rs ≡ ts) (flatten (map (reduced_steps s) rs)) (flatten (map (reduced_steps s) ts))
unfolding reduced_steps flatten
same_reduced s none none = make (λ l g h. refl)
same_reduced s none (more {a = t} h hs) = makes_access t.engine t.address t.operations _ h.0
same_reduced s (more {a = r} h hs) none = flip (makes_access r.engine r.address r.operations _ h.0)
same_reduced s (more {a = r} h hs) (more {a = t} j js) =
    same_call r.engine t.engine r.address t.address r.operations t.operations h j
    (λ e f g. weaken (λ es. ap₂ ◌∷◌ (λ i. record { engine = e i; address = f i; operations = g i }) es) (same_reduced s hs js))

-- a last operation that is an empty read ends the call badly
full_polling : {s : Setup} (early : Bool) (a : Address) (previous : Previous) (os : List Operation) (p : List Step)
    → Both s (Full os) (polling_steps early a previous os ++ p) (polling_steps early a previous os ++ p)
unfolding polling_steps transfer last_read ends_empty
full_polling early a previous [] p = make (λ l g h. tt)
full_polling early a previous (write bs ∷ []) p = make (λ l g h. tt)
full_polling early a previous (read zero ∷ []) p = simp append_assoc (prefix (turn early a previous (read zero)) failing)
full_polling early a previous (read (suc n) ∷ []) p = make (λ l g h. tt)
full_polling early a previous (o ∷ (o' ∷ os)) p =
    rw (append_assoc (operation_steps early a previous false o) (polling_steps early a (direction o) (o' ∷ os)) p)
    (prefix (operation_steps early a previous false o) (full_polling early a (direction o) (o' ∷ os) p))

-- so calls with a trace do not end in an empty read, where they are polling
full_in : {s : Setup} (a : Address) {k : ℕ} {os : List Operation} (p : List Step) → Shaped k os
    → let steps = operations_steps s (engine_of k) (early k) a Previous.Nothing (performed k os) in Both s (FullIn (engine_of k) os) (steps ++ p) (steps ++ p)
unfolding operations_steps performed engine_of
full_in a p polling_write = full_polling _ a Previous.Nothing _ p
full_in a p polling_read = full_polling _ a Previous.Nothing _ p
full_in a p polling_write_read = full_polling _ a Previous.Nothing _ p
full_in a p transaction = full_polling _ a Previous.Nothing _ p
full_in a p blocking_write = make (λ l g h. tt)
full_in a p blocking_read = make (λ l g h. tt)
full_in a p blocking_write_read = make (λ l g h. tt)
full_in a p (blocking_transaction r) = make (λ l g h. tt)

-- calls with a trace are sound
all_sound : (s : Setup) {cs : List Call} → All OfKind cs → Both s (All Sound cs) (flatten (map (steps_of s) cs)) (flatten (map (steps_of s) cs))
unfolding steps_of flatten
all_sound s none = make (λ l g h. none)
all_sound s (more {a = c} {rest = cs} h hs) =
    weaken (λ fs. more (record { of_kind = h; full = fs.0 }) fs.1)
    (pair (full_in c.address _ h.shaped) (prefix (steps_of s c) (all_sound s hs)))

-- joined operations turn the direction each
mutual
  unfolding gather

  after_read : (bs : List ℕ) (os : List Operation) → Turns Previous.Read (gather (write bs) os)
  after_read bs [] = tt
  after_read bs (write cs ∷ os) = after_read (bs ++ cs) os
  after_read bs (read n ∷ os) = after_write n os

  after_write : (m : ℕ) (os : List Operation) → Turns Previous.Write (gather (read m) os)
  after_write m [] = tt
  after_write m (write cs ∷ os) = after_read cs os
  after_write m (read n ∷ os) = after_write (m + n) os

-- one more operation before some leaves the last one
more_full : (o : Operation) (os : List Operation) → PollingForm os → Full (o ∷ os)
unfolding ends_empty
more_full o [] h = elim h [ ]
more_full o (o' ∷ os) h = h.1

-- joined operations have the form of a polling call
gather_form : (o : Operation) (os : List Operation) → Full (o ∷ os) → PollingForm (gather o os)
unfolding gather ends_empty
gather_form (write bs) [] h = (tt, h)
gather_form (read n) [] h = (tt, h)
gather_form (write bs) (write cs ∷ os) h = gather_form (write (bs ++ cs)) os (rewritten (bs ++ cs) cs os h)
gather_form (write bs) (read n ∷ os) h = (after_write n os, more_full (write bs) (gather (read n) os) (gather_form (read n) os h))
gather_form (read m) (write cs ∷ os) h = (after_read cs os, more_full (read m) (gather (write cs) os) (gather_form (write cs) os h))
gather_form (read m) (read n ∷ os) h = gather_form (read (m + n)) os (longer m n os h)

-- combined operations in which no write comes after a read: from a read on there is that one alone
one-read : (n : ℕ) (os : List Operation) → Fails (read_then_write (gather (read (suc n)) (dropped os)))
    → (m : ℕ) × (gather (read (suc n)) (dropped os) ≡ read (suc m) ∷ [])
unfolding gather dropped
one-read n [] h = (n, refl)
one-read n (write [] ∷ os) h = one-read n os h
one-read n (write (c ∷ cs) ∷ os) h = absurd (rw (read_before (suc n) (c ∷ cs) (dropped os)) at h)
one-read n (read zero ∷ os) h = one-read n os h
one-read n (read (suc m) ∷ os) h =
    let g : Fails (read_then_write (gather (read (suc n + suc m)) (dropped os))) = h in
    let r : (x : ℕ) × (gather (read (suc n + suc m)) (dropped os) ≡ read (suc x) ∷ []) = rw suc-add (one-read (n + suc m) os (rw suc-add at g)) in
    r

-- from a write on there is that one, and a read after it or none
one_write : (b : ℕ) (bs : List ℕ) (os : List Operation) → Fails (read_then_write (gather (write (b ∷ bs)) (dropped os))) → Halves (gather (write (b ∷ bs)) (dropped os))
unfolding gather dropped read_then_write
one_write b bs [] h = Halves.write_first Tail.alone
one_write b bs (write [] ∷ os) h = one_write b bs os h
one_write b bs (write (c ∷ cs) ∷ os) h = one_write b (bs ++ (c ∷ cs)) os h
one_write b bs (read zero ∷ os) h = one_write b bs os h
one_write b bs (read (suc n) ∷ os) h = rw (one-read n os h).1 (Halves.write_first Tail.read-after)

-- so they are a write, a read, or both, where anything is left
pub halves : (os : List Operation) → Fails (read_then_write (combined os)) → Fails (is_empty (dropped os)) → Halves (combined os)
unfolding joined dropped
halves [] h b = absurd b
halves (write [] ∷ os) h b = halves os h b
halves (write (c ∷ cs) ∷ os) h b = one_write c cs os h
halves (read zero ∷ os) h b = halves os h b
halves (read (suc n) ∷ os) h b = rw (one-read n os h).1 Halves.read_alone

-- a call that is not idle
abbrev pub Busy : Call → Type 0
Busy c = Fails (idle c)

-- the operations of a reduced call have the form of its engine, by the kind
formed_by : (a : Address) {k : ℕ} {os : List Operation} → Shaped k os → FullIn (engine_of k) os → Fails (idle (record { kind = k; address = a; operations = os }))
    → Form (engine_of k) (reduced_operations (engine_of k) os)
unfolding engine_of reduced_operations joined dropped gather idle
formed_by a (polling_write {bs}) f b = gather_form (write bs) [] f
formed_by a (polling_read {n}) f b = gather_form (read n) [] f
formed_by a (polling_write_read {bs} {n}) f b = gather_form (write bs) (read n ∷ []) f
formed_by a (transaction {os = []}) f b = absurd b
formed_by a (transaction {os = o ∷ os}) f b = gather_form o os f
formed_by a blocking_write f b = Halves.write_first Tail.alone
formed_by a blocking_read f b = Halves.read_alone
formed_by a (blocking_write_read {bs = []} {n = zero}) f b = absurd b
formed_by a (blocking_write_read {bs = []} {n = suc n}) f b = Halves.read_alone
formed_by a (blocking_write_read {bs = c ∷ cs} {n = zero}) f b = Halves.write_first Tail.alone
formed_by a (blocking_write_read {bs = c ∷ cs} {n = suc n}) f b = Halves.write_first Tail.read-after
formed_by a (blocking_transaction {os} r) f b = halves os r b

-- and so have those of all reduced calls
formed : {cs : List Call} → All Sound cs → All Busy cs → All Formed (map reduced cs)
unfolding reduced
formed none none = none
formed (more {a = c} h hs) (more b bs) = more (formed_by c.address h.of_kind.shaped h.full b, h.of_kind.seven) (formed hs bs)

module _ (s : Setup) (cs ds : List Call) (kc : All OfKind cs) (kd : All OfKind ds) (bc : All Busy cs) (bd : All Busy ds) where
  -- calls with a common trace have equal reduced calls
  common_trace : Both s (map reduced cs ≡ map reduced ds) (flatten (map (steps_of s) cs)) (flatten (map (steps_of s) ds))
  common_trace = make (λ l g h.
      let sc : All Sound cs = ((all_sound s kc).at l).so g g in
      let sd : All Sound ds = ((all_sound s kd).at l).so h h in
      ((same_reduced s (formed sc bc) (formed sd bd)).at l).so (rw (reduces_all s sc) at g) (rw (reduces_all s sd) at h))

  -- two whole runs that end well with one log have equal reduced calls
  pub told_apart : (room room' : ℕ) (rs rs' : List ℕ) →
      let r = whole_run s (map (steps_of s) cs) room rs in let r' = whole_run s (map (steps_of s) ds) room' rs' in
      number r.ending ≡ 0 → number r'.ending ≡ 0 → flat r.log ≡ flat r'.log → map reduced cs ≡ map reduced ds
  told_apart room room' rs rs' zc zd same =
      ((prefix (bring_up s) common_trace).at _).so (rw same at (goes_trace (whole_goes s cs room rs) zc)) (goes_trace (whole_goes s ds room' rs') zd)
