-- A bus list that is written from settings and calls reads back as those, whatever they are.
-- Assumes nothing.
use Prim.Native.Nat.{ℕ, zero, suc, ◌+◌, ◌*◌, ◌<◌}
use mathlib.Core.Path.{◌≡◌, refl}
use mathlib.Core.List.{List, [], ◌∷◌, ◌++◌, map, flat_map, append_assoc}
use native.Mathlib.Nat.{add_assoc, add-zero, zero-add}
use native.Mathlib.Omega.{arith}
use lib.ListN.{length, length-append, get_or}
use lib.Dec.{lit<}
use lib.Seq.{get_or-append_seam, get_or-append-add, take-append_seam, drop-append_seam}
use Rattle.units.specs.declared.Settings.{Settings}
use Rattle.units.proofs.Modes.{mode_back}
use Rattle.buslist.specs.declared.Address.{Address}
use Rattle.buslist.specs.declared.CallEntry.{CallEntry}
use Rattle.buslist.specs.declared.OperationEntry.{OperationEntry}
use Rattle.buslist.specs.Bytes.{byte, half, word}
use Rattle.buslist.specs.Table.{call_count, call_offset, operation_count, operation_offset, data_bytes, data_offset, settings_of, call_at, operation_at, entries, calls}
use Rattle.buslist.specs.Meaning.{Operation, write, read, address_number, address_width, Call, operation_of, address_of, call_of, calls_of}
use Rattle.buslist.specs.Encode.{half_bytes, word_bytes, header, call_entries, call_bytes, call_table, data_of, operation_entry, operation_entries, operation_bytes, operation_table, data_part, all_operations, encode}

-- a number past the first part of a list is read in the second part
byte-after : (p q : List ℕ) (i : ℕ) → byte (p ++ q) (length p + i) ≡ byte q i
byte-after p q i = get_or-append-add p q i 0

half-after : (p q : List ℕ) (i : ℕ) → half (p ++ q) (length p + i) ≡ half q i
unfolding half
half-after p q i = rw (add_assoc (length p) i 1, byte-after p q i, byte-after p q (i + 1))

word_after : (p q : List ℕ) (i : ℕ) → word (p ++ q) (length p + i) ≡ word q i
unfolding word
word_after p q i = rw (add_assoc (length p) i 2, half-after p q i, half-after p q (i + 2))

-- word k of those that a list begins with
words_back : (ns q : List ℕ) (k : ℕ) → k < length ns → word (flat_map word_bytes ns ++ q) (4 * k) ≡ get_or ns k 0
unfolding flat_map word half word_bytes half_bytes
words_back [] q k h = absurd (omega arith)
words_back (n ∷ ns) q zero h = omega arith
words_back (n ∷ ns) q (suc k) h =
    let i : 4 * suc k ≡ length (word_bytes n) + 4 * k = omega arith in
    rw (i, append_assoc, word_after (word_bytes n) (flat_map word_bytes ns ++ q) (4 * k)) (words_back ns q k (omega arith))

-- a table of entries of 8 bytes
module _ {A : Type 0} (bytes : A → List ℕ) (eight : (x : A) → length (bytes x) ≡ 8) where
  table-length : (xs : List A) → length (flat_map bytes xs) ≡ 8 * length xs
  unfolding flat_map
  table-length [] = refl
  table-length (x ∷ xs) = rw length-append (omega (arith, eight x, table-length xs))

  -- from byte `start` of a list on: where each entry is read back, the table is
  module _
      (l : List ℕ)
      (start : ℕ)
      (entry : ℕ → A)
      (back : (p : List ℕ) (x : A) (q : List ℕ) (k : ℕ) → l ≡ p ++ (bytes x ++ q) → length p ≡ start + 8 * k → entry k ≡ x) where
    table_back : (p : List ℕ) (xs : List A) (q : List ℕ) (k : ℕ) → l ≡ p ++ (flat_map bytes xs ++ q) → length p ≡ start + 8 * k → entries entry k (length xs) ≡ xs
    unfolding flat_map entries
    table_back p [] q k e h = refl
    table_back p (x ∷ xs) q k e h =
        let e' : l ≡ p ++ (bytes x ++ (flat_map bytes xs ++ q)) = rw append_assoc at e in
        let h' : length (p ++ bytes x) ≡ start + 8 * (k + 1) = rw length-append (omega (arith, eight x)) in
        rw (back p x (flat_map bytes xs ++ q) k e' h, table_back (p ++ bytes x) xs q (k + 1) (rw append_assoc e') h')

-- a call's 8 bytes
call_eight : (c : CallEntry) → length (call_bytes c) ≡ 8
unfolding call_bytes half_bytes
call_eight c = refl

module _ (l p : List ℕ) (c : CallEntry) (q : List ℕ) (k : ℕ) where
  call_back : l ≡ p ++ (call_bytes c ++ q) → length p ≡ call_offset l + 8 * k → call_at l k ≡ c
  unfolding call_at call_bytes half_bytes half
  call_back e h =
      let r : List ℕ = call_bytes c ++ q in
      let address : half (p ++ r) (length p + 2) ≡ c.address = omega (arith, half-after p r 2) in
      let first : half (p ++ r) (length p + 4) ≡ c.first = omega (arith, half-after p r 4) in
      let count : half (p ++ r) (length p + 6) ≡ c.count = omega (arith, half-after p r 6) in
      rw (← h, e, get_or-append_seam, byte-after p r 1, address, first, count)

-- an operation's 8 bytes
operation_eight : (o : OperationEntry) → length (operation_bytes o) ≡ 8
unfolding operation_bytes word_bytes half_bytes
operation_eight o = refl

module _ (l p : List ℕ) (o : OperationEntry) (q : List ℕ) (k : ℕ) where
  operation_back : l ≡ p ++ (operation_bytes o ++ q) → length p ≡ operation_offset l + 8 * k → operation_at l k ≡ o
  unfolding operation_at operation_bytes half_bytes word_bytes half word
  operation_back e h =
      let r : List ℕ = operation_bytes o ++ q in
      let size : half (p ++ r) (length p + 2) ≡ o.length = omega (arith, half-after p r 2) in
      let offset : word (p ++ r) (length p + 4) ≡ o.offset = omega (arith, word_after p r 4) in
      rw (← h, e, get_or-append_seam, byte-after p r 1, size, offset)

-- an operation's data: where it lies at its offset, the operation means what was written
operation_meant : (l p : List ℕ) (o : Operation) (q : List ℕ) (sum : ℕ) → l ≡ p ++ (data_of o ++ q) → length p ≡ data_offset l + sum → operation_of l (operation_entry sum o) ≡ o
unfolding operation_of
operation_meant l p (write bs) q sum e h = rw (← h, e, drop-append_seam, take-append_seam)
operation_meant l p (read n) q sum e h = refl

operations_meant : (l p : List ℕ) (os : List Operation) (q : List ℕ) (sum : ℕ) → l ≡ p ++ (flat_map data_of os ++ q) → length p ≡ data_offset l + sum
    → map (operation_of l) (operation_entries sum os) ≡ os
unfolding flat_map operation_entries
operations_meant l p [] q sum e h = refl
operations_meant l p (o ∷ os) q sum e h =
    let e' : l ≡ p ++ (data_of o ++ (flat_map data_of os ++ q)) = rw append_assoc at e in
    let h' : length (p ++ data_of o) ≡ data_offset l + (sum + length (data_of o)) = rw length-append (omega arith) in
    rw (operation_meant l p o (flat_map data_of os ++ q) sum e' h, operations_meant l (p ++ data_of o) os q (sum + length (data_of o)) (rw append_assoc e') h')

-- a table and the data in parts
flatMap_append : {A B : Type 0} (f : A → List B) (xs ys : List A) → flat_map f (xs ++ ys) ≡ flat_map f xs ++ flat_map f ys
unfolding flat_map
flatMap_append f [] ys = refl
flatMap_append f (x ∷ xs) ys = rw (append_assoc, flatMap_append f xs ys)

operation_entries-append : (sum : ℕ) (os os' : List Operation) → operation_entries sum (os ++ os') ≡ operation_entries sum os ++ operation_entries (sum + length (flat_map data_of os)) os'
unfolding flat_map operation_entries
operation_entries-append sum [] os' = rw add-zero
operation_entries-append sum (o ∷ os) os' =
    rw (length-append, ← add_assoc, operation_entries-append (sum + length (data_of o)) os os')

-- a table has as many entries as were written
operation_entries-length : (sum : ℕ) (os : List Operation) → length (operation_entries sum os) ≡ length os
unfolding operation_entries
operation_entries-length sum [] = refl
operation_entries-length sum (o ∷ os) = rw (operation_entries-length (sum + length (data_of o)) os)

call_entries-length : (sum : ℕ) (cs : List Call) → length (call_entries sum cs) ≡ length cs
unfolding call_entries
call_entries-length sum [] = refl
call_entries-length sum (c ∷ cs) = rw (call_entries-length (sum + length c.operations) cs)

-- an address is read back from its width and its number
address_back : (a : Address) (kind first count : ℕ) → address_of (record { kind = kind; width = address_width a; address = address_number a; first = first; count = count }) ≡ a
unfolding address_of
address_back (Address.Seven a) kind first count = refl
address_back (Address.Ten a) kind first count = refl

-- the counts and offsets that the list has, and its length
pub record EncodedHeader (s : Settings) (cs : List Call) : Type 0 where
  pub calls : call_count (encode s cs) ≡ length cs
  pub calls-start : call_offset (encode s cs) ≡ 64
  pub operations : operation_count (encode s cs) ≡ length (all_operations cs)
  pub operations-start : operation_offset (encode s cs) ≡ 64 + 8 * length cs
  pub bytes : data_bytes (encode s cs) ≡ length (data_part (all_operations cs))
  pub data_start : data_offset (encode s cs) ≡ 64 + 8 * length cs + 8 * length (all_operations cs)
  pub whole : length (encode s cs) ≡ 64 + 8 * length cs + 8 * length (all_operations cs) + length (data_part (all_operations cs))

module _ (s : Settings) (cs : List Call) where
  -- the header
  header-words : List ℕ
  header-words = header s (length cs) (length (all_operations cs)) (length (data_part (all_operations cs)))

  header_part : List ℕ
  header_part = flat_map word_bytes header-words

  -- the list in its parts, and their lengths
  parts : encode s cs ≡ header_part ++ (call_table cs ++ (operation_table (all_operations cs) ++ data_part (all_operations cs)))
  unfolding encode header_part header-words
  parts = simp append_assoc

  header-length : length header_part ≡ 64
  unfolding header_part header-words header flat_map word_bytes half_bytes
  header-length = refl

  call_table-length : length (call_table cs) ≡ 8 * length cs
  call_table-length = rw (table-length call_bytes call_eight, call_entries-length)

  operation_table-length : (os : List Operation) → length (operation_table os) ≡ 8 * length os
  operation_table-length os = rw (table-length operation_bytes operation_eight, operation_entries-length)

  -- the header is read back
  encoded_word : (k : ℕ) → k < 16 → word (encode s cs) (4 * k) ≡ get_or header-words k 0
  unfolding header_part header-words header
  encoded_word k h = rw parts (words_back header-words _ k h)

  pub encoded_header : EncodedHeader s cs
  unfolding header-words header
  encoded_header =
      record {
        calls = encoded_word 0 (lit< tt);
        calls-start = encoded_word 1 (lit< tt);
        operations = encoded_word 2 (lit< tt);
        operations-start = encoded_word 3 (lit< tt);
        bytes = encoded_word 4 (lit< tt);
        data_start = encoded_word 5 (lit< tt);
        whole = rw parts (simp (length-append, header-length, call_table-length, operation_table-length) (omega arith));
      }

  -- the settings are read back
  pub encoded_settings : settings_of (encode s cs) ≡ s
  unfolding settings_of header-words header
  encoded_settings =
      rw (
        encoded_word 6 (lit< tt),
        encoded_word 7 (lit< tt),
        encoded_word 8 (lit< tt),
        mode_back s.mode,
        encoded_word 9 (lit< tt),
        encoded_word 10 (lit< tt),
        encoded_word 11 (lit< tt),
        encoded_word 12 (lit< tt),
        encoded_word 13 (lit< tt),
      )

  -- the call table is read back
  pub encoded_table : calls (encode s cs) ≡ call_entries 0 cs
  encoded_table =
      let q : List ℕ = operation_table (all_operations cs) ++ data_part (all_operations cs) in
      let n : length header_part ≡ call_offset (encode s cs) + 8 * 0 = omega (arith, header-length, encoded_header) in
      rw (encoded_header.calls, ← (call_entries-length 0 cs)) (table_back call_bytes call_eight (encode s cs) _ _ (call_back (encode s cs)) header_part _ q 0 parts n)

  -- operations among all are read back from their table, and from their data
  module _ (before os after : List Operation) (e : all_operations cs ≡ before ++ (os ++ after)) where
    pub encoded_operations : entries (operation_at (encode s cs)) (length before) (length os) ≡ operation_entries (length (data_part before)) os
    encoded_operations =
        let sum : ℕ = length (data_part before) in
        let p : List ℕ = header_part ++ call_table cs ++ operation_table before in
        let q : List ℕ = flat_map operation_bytes (operation_entries (sum + length (data_part os)) after) ++ data_part (all_operations cs) in
        let n : length p ≡ operation_offset (encode s cs) + 8 * length before = rw encoded_header.operations-start (simp (length-append, header-length, call_table-length, operation_table-length)) in
        let table : operation_entries 0 (all_operations cs) ≡ operation_entries 0 before ++ (operation_entries sum os ++ operation_entries (sum + length (data_part os)) after) = rw (e, operation_entries-append 0 before (os ++ after), zero-add, operation_entries-append sum os after) in
        let there : encode s cs ≡ p ++ (flat_map operation_bytes (operation_entries sum os) ++ q) = rw (parts, table) (simp (flatMap_append, append_assoc)) in
        rw (← (operation_entries-length sum os)) (table_back operation_bytes operation_eight (encode s cs) _ _ (operation_back (encode s cs)) p _ q (length before) there n)

    operations_back : map (operation_of (encode s cs)) (operation_entries (length (data_part before)) os) ≡ os
    operations_back =
        let p : List ℕ = header_part ++ call_table cs ++ operation_table (all_operations cs) ++ data_part before in
        let n : length p ≡ data_offset (encode s cs) + length (data_part before) = rw encoded_header.data_start (simp (length-append, header-length, call_table-length, operation_table-length)) in
        operations_meant (encode s cs) p os (data_part after) _ (rw (parts, e) (simp (flatMap_append, append_assoc))) n

  calls_back : (before : List Operation) (cs' : List Call) → all_operations cs ≡ before ++ all_operations cs' → map (call_of (encode s cs)) (call_entries (length before) cs') ≡ cs'
  unfolding call_entries flat_map
  calls_back before [] e = refl
  calls_back before (c ∷ cs') e =
      let os : List Operation = c.operations in
      rw (address_back c.address, encoded_operations before os (all_operations cs') e, operations_back before os (all_operations cs') e, ← (length-append before os), calls_back (before ++ os) cs' (rw append_assoc e))

  -- the calls are read back
  pub encoded_calls : calls_of (encode s cs) ≡ cs
  encoded_calls = rw encoded_table (calls_back [] cs refl)
