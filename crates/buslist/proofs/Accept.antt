-- What is known of a bus list that is not refused.
-- Assumes nothing.
use Prim.Native.Nat.{ℕ, zero, suc, ◌+◌, ◌*◌, ◌≤◌, ◌<◌}
use mathlib.Core.Path.{◌≡◌, refl, sym, ◌∙◌}
use mathlib.Core.Logic.{◌↔◌, ◌⊎◌, inl, inr, ⊎_elim}
use mathlib.Core.List.{List, [], ◌∷◌, ◌++◌, Memᴰ}
use mathlib.Core.Bool.{Bool, true, false, or-false, and-eq-true_iff, false≢true, cond, ◌&&◌, ◌||◌}
use native.Mathlib.Nat.{add-zero, zero-add}
use native.Mathlib.Omega.{arith}
use borrow.Author.Tests.{ltb-false, leb-true, leb-false, eqb-true, eqb-false, not-false, eq-eqb, ne_eqb, le-leb, lt-leb}
use lib.ListN.{length, take, drop}
use lib.Dec.{eqb, leb, ltb, lit<}
use Rattle.units.specs.declared.Settings.{Settings}
use Rattle.units.specs.Time.{to_cycles}
use Rattle.units.specs.Speed.{frequency_out}
use Rattle.buslist.specs.declared.Address.{Address}
use Rattle.buslist.specs.declared.CallEntry.{CallEntry}
use Rattle.buslist.specs.declared.OperationEntry.{OperationEntry}
use Rattle.buslist.specs.Bytes.{word}
use Rattle.buslist.specs.Table.{call_count, call_offset, operation_count, operation_offset, data_bytes, data_offset, settings_of, call_at, operation_at, entries, calls, operations, operations_of}
use Rattle.buslist.specs.Form.{header_right, written, operation_right, operations_right, kind_right, call_right, calls_right, of_the_form}
use Rattle.buslist.specs.Refusal.{any, longest_operation, over_limit, timeout_out, address_out, empty_blocking, all_received, write_after_read, causes, first_cause, refusal}
use Rattle.buslist.specs.Meaning.{write, read, engine_of, is_polling, address_width, is_ten, operation_of, address_of}

-- tests as facts: for `simp tests at e`
eqb_iff : (a b : ℕ) → (eqb a b ≡ true) ↔ (a ≡ b)
eqb_iff a b = (eqb-true a b, eq-eqb a b)

leb_iff : (a b : ℕ) → (leb a b ≡ true) ↔ (a ≤ b)
leb_iff a b = (leb-true a b, le-leb a b)

eqb_not_iff : (a b : ℕ) → (eqb a b ≡ false) ↔ (a ≡ b → ⊥)
eqb_not_iff a b = (eqb-false a b, ne_eqb a b)

leb_not_iff : (a b : ℕ) → (leb a b ≡ false) ↔ (b < a)
leb_not_iff a b = (leb-false a b, lt-leb a b)

pub or_iff : (a b : Bool) → ((a || b) ≡ true) ↔ ((a ≡ true) ⊎ (b ≡ true))
or_iff true b = (λ e. inl refl, λ e. refl)
or_iff false b = (λ e. inr e, ⊎_elim (λ e. cc) (λ e. e))

pub or_not_iff : (a b : Bool) → ((a || b) ≡ false) ↔ ((a ≡ false) × (b ≡ false))
or_not_iff true b = (λ e. (e, cc), λ e. e.0)
or_not_iff false b = (λ e. (refl, e), λ e. e.1)

ruleset tests = (and-eq-true_iff, eqb_iff, leb_iff, or_not_iff, eqb_not_iff, leb_not_iff)

-- no cause applies
pub record NoCause (l : List ℕ) (rx : ℕ) : Type 0 where
  pub form : of_the_form l ≡ true
  pub limits : over_limit l ≡ false
  pub frequency : frequency_out (settings_of l).frequency ≡ false
  pub timeouts : timeout_out (settings_of l) ≡ false
  pub addresses : any address_out (calls l) ≡ false
  pub blocking : any (empty_blocking l) (calls l) ≡ false
  pub room : all_received (operations l) ≤ rx
  pub combined : any (write_after_read l) (calls l) ≡ false

-- a cause that is passed does not apply
pub passed : (b : Bool) (n rest : ℕ) → cond b n rest ≡ 0 → 0 < n → (b ≡ false) × (rest ≡ 0)
passed true n rest e h = absurd (omega arith)
passed false n rest e h = (refl, e)

-- where the refusal is 0, no cause applies
pub accepted : (l : List ℕ) (rx : ℕ) → refusal l rx ≡ 0 → NoCause l rx
unfolding refusal causes first_cause
accepted l rx ok =
    let e1 = passed _ _ _ ok (lit< tt) in
    let e2 = passed _ _ _ e1.1 (lit< tt) in
    let e3 = passed _ _ _ e2.1 (lit< tt) in
    let e4 = passed _ _ _ e3.1 (lit< tt) in
    let e5 = passed _ _ _ e4.1 (lit< tt) in
    let e6 = passed _ _ _ e5.1 (lit< tt) in
    let e7 = passed _ _ _ e6.1 (lit< tt) in
    let e8 = passed _ _ _ e7.1 (lit< tt) in
    record {
      form = not-false _ e1.0;
      limits = e2.0;
      frequency = e3.0;
      timeouts = e4.0;
      addresses = e5.0;
      blocking = e6.0;
      room = ltb-false _ _ e7.0;
      combined = e8.0;
    }

-- entry k of a table is one of its entries
module _ {A : Type 0} (entry : ℕ → A) where
  entry_from : (j n k : ℕ) → k < n → Memᴰ (entry (j + k)) (entries entry j n)
  unfolding entries
  entry_from j zero k h = absurd (omega arith)
  entry_from j (suc n) zero h = rw add-zero (Memᴰ.head refl)
  entry_from j (suc n) (suc k) h =
      let i : j + suc k ≡ j + 1 + k = omega arith in
      rw i (Memᴰ.tail (entry_from (j + 1) n k (omega arith)))

  entry_in : {n k : ℕ} → k < n → Memᴰ (entry k) (entries entry 0 n)
  entry_in {n} {k} h = rw zero-add at (entry_from 0 n k h)

-- where no entry passes a test, entry k fails it
module _ {A : Type 0} (test : A → Bool) where
  none_passes : {x : A} {xs : List A} → any test xs ≡ false → Memᴰ x xs → test x ≡ false
  unfolding any
  none_passes e (Memᴰ.head p) = rw p (simp or_not_iff at e).0
  none_passes e (Memᴰ.tail m) = none_passes (simp or_not_iff at e).1 m

  pub entry_fails : (entry : ℕ → A) (n k : ℕ) → any test (entries entry 0 n) ≡ false → k < n → test (entry k) ≡ false
  entry_fails entry n k e h = none_passes e (entry_in entry h)

-- an entry of a right table: right after the sum of those before it, and within the total with what it adds
record Placed {A : Type 0} (right : ℕ → A → Bool) (adds : A → ℕ) (total : ℕ) (x : A) : Type 0 where
  sum : ℕ
  stands : right sum x ≡ true
  within : sum + adds x ≤ total

-- so is each entry, of operations and of calls
module _
    {A : Type 0}
    (right : ℕ → A → Bool)
    (adds : A → ℕ)
    (total : ℕ)
    (all : ℕ → List A → Bool)
    (ends : (sum : ℕ) → all sum [] ≡ eqb sum total)
    (steps : (sum : ℕ) (x : A) (xs : List A) → all sum (x ∷ xs) ≡ (right sum x && all (sum + adds x) xs)) where
  sum_within : (sum : ℕ) (xs : List A) → all sum xs ≡ true → sum ≤ total
  sum_within sum [] e = omega (arith, eqb-true sum total (sym (ends sum) ∙ e))
  sum_within sum (x ∷ xs) e =
      let f = simp (steps, and-eq-true_iff) at e in
      omega (arith, sum_within (sum + adds x) xs f.1)

  placed : (sum : ℕ) (xs : List A) {x : A} → all sum xs ≡ true → Memᴰ x xs → Placed right adds total x
  placed sum [] e m = elim m [ ]
  placed sum (y ∷ xs) e (Memᴰ.head p) =
      let f = simp (steps, and-eq-true_iff) at e in
      rw p (record { sum = sum; stands = f.0; within = sum_within (sum + adds y) xs f.1 })
  placed sum (y ∷ xs) e (Memᴰ.tail m) =
      let f = simp (steps, and-eq-true_iff) at e in
      placed (sum + adds y) xs f.1 m

-- a right operation: a write from the sum on, or a read
module _ (sum : ℕ) (o : OperationEntry) where
  direction_of : operation_right sum o ≡ true → (o.direction ≡ 0) ⊎ (o.direction ≡ 1)
  unfolding operation_right
  direction_of e =
      let f = simp (and-eq-true_iff, or_iff) at e in
      ⊎_elim (λ w. inl (simp tests at w).0) (λ r. inr (simp tests at r).0) f.1

  pub write_offset : operation_right sum o ≡ true → o.direction ≡ 0 → o.offset ≡ sum
  unfolding operation_right
  write_offset e d = (simp (d, or-false, tests) at e).1.1

-- a write has its length of the data
pub write-length : (o : OperationEntry) → o.direction ≡ 0 → written o ≡ o.length
unfolding written
write-length o d = rw d

-- a right call, part by part
record RightCall (l : List ℕ) (sum : ℕ) (c : CallEntry) : Type 0 where
  width : (eqb c.width 7 || eqb c.width 10) ≡ true
  first : c.first ≡ sum
  kind : kind_right c.kind (operations_of l c) ≡ true

-- `call_right` says so
right_call : (l : List ℕ) (sum : ℕ) (c : CallEntry) → call_right l sum c ≡ true → RightCall l sum c
unfolding call_right
right_call l sum c e =
    let f = simp and-eq-true_iff at e in
    record { width = f.0.0; first = eqb-true _ _ f.0.1; kind = f.1 }

-- there is no kind above 7
pub no_kind : (kind : ℕ) (os : List OperationEntry) → 7 < kind → kind_right kind os ≡ false
unfolding kind_right
no_kind kind os h =
    let other : (k : ℕ) → leb k 7 ≡ true → eqb kind k ≡ false = λ k q. ne_eqb kind k (λ p. omega (arith, leb-true k 7 q)) in
    simp other

kind-most : (kind : ℕ) (os : List OperationEntry) → kind_right kind os ≡ true → kind ≤ 7
kind-most kind os e =
    let none : 7 < kind → ⊥ = λ h. false≢true (sym (no_kind kind os h) ∙ e) in
    omega arith

-- m + n entries: m of them, and n
entries_add : {A : Type 0} (entry : ℕ → A) (j m n : ℕ) → entries entry j (m + n) ≡ entries entry j m ++ entries entry (j + m) n
unfolding entries
entries_add entry j zero n = rw (zero-add, add-zero)
entries_add entry j (suc m) n =
    let i : j + suc m ≡ j + 1 + m = omega arith in
    let k : suc m + n ≡ suc (m + n) = omega arith in
    rw (i, k, entries_add entry (j + 1) m n)

-- what two lists of operations receive
all_received-append : (a b : List OperationEntry) → all_received (a ++ b) ≡ all_received a + all_received b
unfolding all_received
all_received-append [] b = omega arith
all_received-append (o ∷ a) b = omega (arith, all_received-append a b)

-- what calls receive, call by call
unfoldable pub calls-received : List ℕ → List CallEntry → ℕ
calls-received l [] = 0
calls-received l (c ∷ cs) = all_received (operations_of l c) + calls-received l cs

-- right calls after `sum` operations receive what the n operations from there on do
calls_received_from : (l : List ℕ) (sum : ℕ) (cs : List CallEntry) → calls_right l sum cs ≡ true
    → (n : ℕ) × (sum + n ≡ operation_count l) × (calls-received l cs ≡ all_received (entries (operation_at l) sum n))
unfolding calls-received calls_right entries all_received
calls_received_from l sum [] e = (0, omega (arith, eqb-true sum (operation_count l) e), refl)
calls_received_from l sum (c ∷ cs) e =
    let f = simp and-eq-true_iff at e in
    let r = calls_received_from l (sum + c.count) cs f.1 in
    let first = (right_call l sum c f.0).first in
    (c.count + r.0, omega (arith, r.1), rw (entries_add, all_received-append) (cc r.2))

-- the header
pub record Header (l : List ℕ) : Type 0 where
  pub calls-start : call_offset l ≡ 64
  pub operations-start : operation_offset l ≡ 64 + 8 * call_count l
  pub data_start : data_offset l ≡ 64 + 8 * call_count l + 8 * operation_count l
  pub mode_number : word l 32 ≤ 2
  pub retries : word l 44 ≤ 255
  pub whole : length l ≡ data_offset l + data_bytes l

-- the limits on the list and its tables
pub record Limits (l : List ℕ) : Type 0 where
  pub bytes : length l ≤ 32768
  pub most-calls : call_count l ≤ 256
  pub most-operations : operation_count l ≤ 1024

-- the ranges of the settings; a timeout in cycles has 32 bits
pub record Ranges (s : Settings) : Type 0 where
  pub frequency_above : 0 < s.frequency.0
  pub frequency_most : s.frequency.0 ≤ 400000
  pub start_cycles : (to_cycles s.start_timeout s.sysclk).0 ≤ 4294967295
  pub address_cycles : (to_cycles s.addr_timeout s.sysclk).0 ≤ 4294967295
  pub data_cycles : (to_cycles s.data_timeout s.sysclk).0 ≤ 4294967295

-- an address that is in range in a blocking call is no ten-bit one
not_ten : (ten : Bool) {a : ℕ} → cond ten (ltb 1023 a || true) (ltb 127 a) ≡ false → cond ten (Address.Ten a) (Address.Seven a) ≡ Address.Seven a
not_ten true e = absurd (false≢true (sym (simp or_not_iff at e).1))
not_ten false e = refl

-- an address has the width of its entry, where that is 7 or 10
width_of : (c : CallEntry) → (eqb c.width 7 || eqb c.width 10) ≡ true → address_width (address_of c) ≡ c.width
unfolding address_of
width_of c e = by (is_ten c) refl
  where
    by : (ten : Bool) → is_ten c ≡ ten → address_width (cond ten (Address.Ten c.address) (Address.Seven c.address)) ≡ c.width
    by true t = sym (eqb-true _ _ t)
    by false t = sym (eqb-true _ _ (rw (t, or-false) at e))

module _ (l : List ℕ) (rx : ℕ) (ok : refusal l rx ≡ 0) where
  -- the parts of the form
  parts : ((header_right l ≡ true) × (operations_right (data_bytes l) 0 (operations l) ≡ true)) × (calls_right l 0 (calls l) ≡ true)
  unfolding of_the_form
  parts = simp and-eq-true_iff at (accepted l rx ok).form

  -- the operations are right
  pub right_operations : operations_right (data_bytes l) 0 (operations l) ≡ true
  right_operations = parts.0.1

  -- the header's offsets and ranges
  pub header : Header l
  unfolding header_right
  header = let f = simp tests at parts.0.0 in omega arith

  -- header, tables and data are all of a list
  pub whole_length : 64 + 8 * call_count l + 8 * operation_count l + data_bytes l ≡ length l
  whole_length = let h = header in omega arith

  -- list, calls and operations are within the limits
  pub limits : Limits l
  unfolding over_limit
  limits = let f = simp tests at (accepted l rx ok).limits in omega arith

  -- frequency and timeouts are in range
  pub ranges : Ranges (settings_of l)
  unfolding timeout_out
  ranges =
      let f = simp tests at (accepted l rx ok).frequency in
      let t = simp tests at (accepted l rx ok).timeouts in
      omega arith

  -- all reads together, call by call
  pub calls_received_all : calls-received l (calls l) ≡ all_received (operations l)
  calls_received_all =
      let r = calls_received_from l 0 (calls l) parts.1 in
      let i : r.0 ≡ operation_count l = omega (arith, r.1) in
      rw i at r.2

  -- so the received buffer has room for the reads of all calls
  pub calls-room : calls-received l (calls l) ≤ rx
  calls-room = omega (arith, calls_received_all, (accepted l rx ok).room)

  -- of operation j
  module _ (j : ℕ) (h : j < operation_count l) where
    -- its place in the table
    operation_placed : Placed operation_right written (data_bytes l) (operation_at l j)
    unfolding operations_right
    operation_placed =
        placed _ _ _ (operations_right (data_bytes l)) (λ sum. refl) (λ sum o os. refl) 0 (operations l) right_operations (entry_in _ h)

    -- it is a write or a read
    pub operation_direction : ((operation_at l j).direction ≡ 0) ⊎ ((operation_at l j).direction ≡ 1)
    operation_direction = let p = operation_placed in direction_of p.sum _ p.stands

    -- it is not too long
    pub operation_length : (operation_at l j).length ≤ longest_operation
    unfolding over_limit
    operation_length =
        let f = simp or_not_iff at (accepted l rx ok).limits in
        ltb-false _ _ (entry_fails _ (operation_at l) (operation_count l) j f.1 h)

    -- a write's bytes lie in the list
    pub write_within : (operation_at l j).direction ≡ 0 → data_offset l + (operation_at l j).offset + (operation_at l j).length ≤ length l
    write_within d =
        let p = operation_placed in
        let o = operation_at l j in
        omega (arith, p.within, write_offset p.sum o p.stands d, write-length o d, header.whole)

  -- of call k
  module _ (k : ℕ) (h : k < call_count l) where
    -- its place in the table
    call_placed : Placed (call_right l) (λ c. c.count) (operation_count l) (call_at l k)
    unfolding calls_right
    call_placed =
        placed _ _ _ (calls_right l) (λ sum. refl) (λ sum c cs. refl) 0 (calls l) parts.1 (entry_in _ h)

    -- it is right there
    call_stands : RightCall l call_placed.sum (call_at l k)
    call_stands = right_call l _ _ call_placed.stands

    -- its address has the width that its entry says
    pub call_width : address_width (address_of (call_at l k)) ≡ (call_at l k).width
    call_width = width_of (call_at l k) call_stands.width

    -- its address fits its width, and is no ten-bit one in a blocking call
    pub address_in : address_out (call_at l k) ≡ false
    address_in = entry_fails address_out (call_at l) (call_count l) k (accepted l rx ok).addresses h

    -- so a blocking call has a seven-bit address
    pub blocking_seven : is_polling (engine_of (call_at l k).kind) ≡ false → address_of (call_at l k) ≡ Address.Seven (call_at l k).address
    unfolding address_of
    blocking_seven h = not_ten (is_ten (call_at l k)) (rw h at address_in)

    -- its operations lie in their table
    pub call_within : (call_at l k).first + (call_at l k).count ≤ operation_count l
    call_within = omega (arith, call_placed.within, call_stands.first)

    -- they are those of its kind
    pub call_operations : kind_right (call_at l k).kind (operations_of l (call_at l k)) ≡ true
    call_operations = call_stands.kind

    -- its kind is one of the eight
    pub call_kind : (call_at l k).kind ≤ 7
    call_kind = kind-most _ _ call_operations

-- what an operation means: a write is its bytes, a read its length
module _ (l : List ℕ) (o : OperationEntry) where
  pub operation_write : o.direction ≡ 0 → operation_of l o ≡ write (take o.length (drop (data_offset l + o.offset) l))
  unfolding operation_of
  operation_write d = rw d

  pub operation_read : o.direction ≡ 1 → operation_of l o ≡ read o.length
  unfolding operation_of
  operation_read d = rw d
