-- Operations combined, one after the other: what is joined, where it ends, and where a write comes after a read.
-- Assumes nothing.
use Prim.Native.Nat.{ℕ, zero, suc, ◌+◌, ◌-◌, ◌*◌, ◌≤◌, ◌<◌}
use mathlib.Core.Path.{◌≡◌, refl, ap, sym, ◌∙◌}
use mathlib.Core.Logic.{◌⊎◌, inl, inr, ⊎_elim}
use mathlib.Core.List.{List, [], ◌∷◌, ◌++◌, map, append-nil}
use mathlib.Core.Bool.{Bool, true, false, not, cond, and-eq-true_iff, false≢true, ◌&&◌, ◌||◌}
use native.Mathlib.Nat.{zero-add, add-zero, suc-add, sub-zero}
use native.Mathlib.Omega.{arith}
use borrow.Author.Tests.{eqb-true, eqb-false}
use lib.ListN.{length, length-take, length-drop, take, drop}
use lib.Seq.{drop-drop, take-nil}
use lib.Dec.{eqb}
use Rattle.buslist.specs.declared.OperationEntry.{OperationEntry}
use Rattle.buslist.specs.Table.{operation_count, data_bytes, data_offset, operation_at, entries}
use Rattle.buslist.specs.Form.{write_direction, written, operation_right, operations_right}
use Rattle.buslist.specs.Refusal.{longest_operation, refusal}
use Rattle.buslist.specs.Meaning.{Operation, write, read, empty, bytes_of, operation_of}
use Rattle.buslist.specs.Combined.{dropped, gather, joined, combined, read_then_write}
use Rattle.buslist.specs.Next.{operations_from, joins, JoinsAt}
use Rattle.buslist.proofs.Walk.{written_le, entries_step, entries_end, operations_right_step}
use Rattle.buslist.proofs.Accept.{or_iff, or_not_iff, write_offset, write-length, right_operations, operation_direction, operation_length, write_within, operation_write, operation_read}

-- Joining

-- two neighbours of one direction are combined as one
join_writes : (bs cs : List ℕ) (os : List Operation) → combined (write bs ∷ write cs ∷ os) ≡ combined (write (bs ++ cs) ∷ os)
unfolding joined dropped gather
join_writes [] cs os = refl
join_writes (b ∷ bs) [] os = ap (λ x. gather (write (b ∷ x)) (dropped os)) (sym (append-nil bs))
join_writes (b ∷ bs) (c ∷ cs) os = refl

join_reads : (m n : ℕ) (os : List Operation) → combined (read m ∷ read n ∷ os) ≡ combined (read (m + n) ∷ os)
unfolding joined dropped gather
join_reads zero n os = rw zero-add
join_reads (suc m) zero os = rw add-zero
join_reads (suc m) (suc n) os = rw suc-add

-- an empty one is passed over
pass_empty : (o e : Operation) (os : List Operation) → empty e ≡ true → combined (o ∷ e ∷ os) ≡ combined (o ∷ os)
unfolding dropped
pass_empty (write []) (write []) os t = refl
pass_empty (write []) (read zero) os t = refl
pass_empty (write (b ∷ bs)) (write []) os t = refl
pass_empty (write (b ∷ bs)) (read zero) os t = refl
pass_empty (read zero) (write []) os t = refl
pass_empty (read zero) (read zero) os t = refl
pass_empty (read (suc m)) (write []) os t = refl
pass_empty (read (suc m)) (read zero) os t = refl
pass_empty o (write (c ∷ cs)) os t = absurd (false≢true t)
pass_empty o (read (suc n)) os t = absurd (false≢true t)

-- where none is left, or the next is of the other direction and not empty, the first stands alone, unless it is empty
none_left : (o : Operation) → combined (o ∷ []) ≡ dropped (o ∷ []) ++ combined []
unfolding joined dropped gather
none_left (write []) = refl
none_left (write (b ∷ bs)) = refl
none_left (read zero) = refl
none_left (read (suc n)) = refl

write_turns : (bs : List ℕ) (n : ℕ) (os : List Operation) → empty (read n) ≡ false → combined (write bs ∷ read n ∷ os) ≡ dropped (write bs ∷ []) ++ combined (read n ∷ os)
unfolding joined dropped gather
write_turns bs zero os t = absurd (false≢true (sym t))
write_turns [] (suc n) os t = refl
write_turns (b ∷ bs) (suc n) os t = refl

read_turns : (m : ℕ) (cs : List ℕ) (os : List Operation) → empty (write cs) ≡ false → combined (read m ∷ write cs ∷ os) ≡ dropped (read m ∷ []) ++ combined (write cs ∷ os)
unfolding joined dropped gather
read_turns m [] os t = absurd (false≢true (sym t))
read_turns zero (c ∷ cs) os t = refl
read_turns (suc m) (c ∷ cs) os t = refl

-- The joined entry

-- an entry with another length
abbrev pub with_length : OperationEntry → ℕ → OperationEntry
with_length o n = record { direction = o.direction; reserved = o.reserved; length = n; offset = o.offset }

-- bytes that follow each other are one part of the list
parts_join : (m n : ℕ) (xs : List ℕ) → take m xs ++ take n (drop m xs) ≡ take (m + n) xs
parts_join zero n xs = rw zero-add
parts_join (suc m) n [] = rw (suc-add, take-nil)
parts_join (suc m) n (x ∷ xs) = rw (suc-add, parts_join m n xs)

-- so are those of two writes
bytes_join : (l : List ℕ) (first o : OperationEntry) (n : ℕ) → o.offset ≡ first.offset + n
    → bytes_of l (with_length first n) ++ bytes_of l o ≡ bytes_of l (with_length first (n + o.length))
bytes_join l first o n e =
    let i : data_offset l + o.offset ≡ data_offset l + first.offset + n = omega arith in
    rw (i, ← drop-drop n (data_offset l + first.offset) l) (parts_join n o.length (drop (data_offset l + first.offset) l))

-- right operations are right from each of them on, after some sum
right_from : (entry : ℕ → OperationEntry) (total n j : ℕ) → j ≤ n → operations_right total 0 (entries entry 0 n) ≡ true
    → (sum : ℕ) × (operations_right total sum (entries entry j (n - j)) ≡ true)
right_from entry total n zero h e = (0, rw sub-zero e)
right_from entry total n (suc j) h e =
    let r = right_from entry total n j (omega arith) e in
    let i : j + 1 ≡ suc j = omega arith in
    let f = simp (operations_right_step entry j n (omega arith), and-eq-true_iff) at r.1 in
    (r.0 + written (entry j), rw i at f.1)

module _ (l : List ℕ) (rx : ℕ) (ok : refusal l rx ≡ 0) where
  -- an operation without bytes has length 0
  empty_length : (k : ℕ) → k < operation_count l → empty (operation_of l (operation_at l k)) ≡ true → (operation_at l k).length ≡ 0
  empty_length k h t =
      ⊎_elim
      (λ (d : (operation_at l k).direction ≡ 0).
      let w = write_within l rx ok k h d in
      no_bytes (bytes_of l (operation_at l k)) _ (simp (length-take, length-drop) (omega arith)) (rw (operation_write l (operation_at l k) d) at t))
      (λ (d : (operation_at l k).direction ≡ 1). no_reads _ (rw (operation_read l (operation_at l k) d) at t))
      (operation_direction l rx ok k h)
    where
      no_bytes : (bs : List ℕ) (n : ℕ) → length bs ≡ n → empty (write bs) ≡ true → n ≡ 0
      no_bytes [] n e t = omega arith
      no_bytes (b ∷ bs) n e t = absurd (false≢true t)

      no_reads : (n : ℕ) → empty (read n) ≡ true → n ≡ 0
      no_reads zero t = refl
      no_reads (suc n) t = absurd (false≢true t)

  -- the operations from j up to `next` are joined in the first one's entry with this length
  pub record Joining (j end : ℕ) (first : OperationEntry) (n next : ℕ) : Type 0 where
    pub same : combined (operations_from l j end) ≡ combined (operation_of l (with_length first n) ∷ operations_from l next end)
    pub some : j < next
    pub most : next ≤ end
    pub short : n ≤ longest_operation * (next - j)
    pub sum : ℕ
    pub right : operations_right (data_bytes l) sum (entries (operation_at l) next (operation_count l - next)) ≡ true
    pub follows : first.direction ≡ 0 → sum ≡ first.offset + n

  -- an operation that joins makes the sum longer by its length
  adds : (sum : ℕ) (o first : OperationEntry) (n : ℕ) → (o.direction ≡ first.direction) ⊎ (o.length ≡ 0)
      → (first.direction ≡ 0 → sum ≡ first.offset + n) → first.direction ≡ 0 → sum + written o ≡ first.offset + (n + o.length)
  adds sum o first n s f d =
      ⊎_elim
      (λ (e : o.direction ≡ first.direction). omega (arith, f d, write-length o (e ∙ d)))
      (λ (e : o.length ≡ 0). omega (arith, f d, written_le o))
      s

  module _ (j end : ℕ) (first : OperationEntry) (e : first ≡ operation_at l j) (below : j < end) (within : end ≤ operation_count l) where
    -- at first it is operation j alone
    pub joining_start : Joining j end first first.length (j + 1)
    joining_start =
        let r = right_from (operation_at l) (data_bytes l) (operation_count l) j (omega arith) (right_operations l rx ok) in
        let f = simp (operations_right_step (operation_at l) j (operation_count l) (omega arith), and-eq-true_iff) at r.1 in
        record {
          same = rw (entries_step (operation_at l) j end below, ← e);
          some = omega arith;
          most = omega arith;
          short = rw e (omega (arith, operation_length l rx ok j (omega arith)));
          sum = r.0 + written first;
          right = rw e f.1;
          follows = λ d. omega (arith, write_offset r.0 first (rw e f.0) d, write-length first d);
        }

    -- its direction
    first_direction : (first.direction ≡ 0) ⊎ (first.direction ≡ 1)
    first_direction = rw e (operation_direction l rx ok j (omega arith))

    module _ (n next : ℕ) (o : OperationEntry) (eo : o ≡ operation_at l next) (left : next < end) where
      next-direction : (o.direction ≡ 0) ⊎ (o.direction ≡ 1)
      next-direction = rw eo (operation_direction l rx ok next (omega arith))

      -- two of one direction, and one without bytes
      joins_same : o.direction ≡ first.direction → (first.direction ≡ 0 → o.offset ≡ first.offset + n)
          → combined (operation_of l (with_length first n) ∷ operations_from l next end) ≡ combined (operation_of l (with_length first (n + o.length)) ∷ operations_from l (next + 1) end)
      joins_same d f =
          ⊎_elim
          (λ (w : first.direction ≡ 0). rw (
            entries_step (operation_at l) next end left,
            ← eo,
            operation_write l (with_length first n) w,
            operation_write l (with_length first (n + o.length)) w,
            operation_write l o (d ∙ w),
            join_writes,
            bytes_join l first o n (f w),
          ))
          (λ (r : first.direction ≡ 1). rw (
            entries_step (operation_at l) next end left,
            ← eo,
            operation_read l (with_length first n) r,
            operation_read l (with_length first (n + o.length)) r,
            operation_read l o (d ∙ r),
            join_reads,
          ))
          first_direction

      joins_empty : empty (operation_of l o) ≡ true
          → combined (operation_of l (with_length first n) ∷ operations_from l next end) ≡ combined (operation_of l (with_length first (n + o.length)) ∷ operations_from l (next + 1) end)
      joins_empty t =
          let z : o.length ≡ 0 = rw eo (empty_length next (omega arith) (rw eo at t)) in
          let i : n + o.length ≡ n = omega arith in
          rw (entries_step (operation_at l) next end left, ← eo, i) (pass_empty _ (operation_of l o) _ t)

      -- the next operation joins them
      pub joining_next : joins l first o ≡ true → Joining j end first n next → Joining j end first (n + o.length) (next + 1)
      joining_next t g =
          let f = simp (operations_right_step (operation_at l) next (operation_count l) (omega arith), and-eq-true_iff) at g.right in
          let r : operation_right g.sum o ≡ true = rw eo f.0 in
          let how : (o.direction ≡ first.direction) ⊎ (empty (operation_of l o) ≡ true) = joined_how (simp or_iff at t) in
          record {
            same = g.same ∙ ⊎_elim (λ d. joins_same d (λ w. write_offset g.sum o r (d ∙ w) ∙ g.follows w)) joins_empty how;
            some = omega (arith, g.some);
            most = omega arith;
            short = rw eo (omega (arith, g.some, g.short, operation_length l rx ok next (omega arith)));
            sum = g.sum + written o;
            right = rw eo f.1;
            follows = adds g.sum o first n (⊎_elim inl (λ t. inr (rw eo (empty_length next (omega arith) (rw eo at t)))) how) g.follows;
          }
        where
          joined_how : (eqb o.direction first.direction ≡ true) ⊎ (empty (operation_of l o) ≡ true) → (o.direction ≡ first.direction) ⊎ (empty (operation_of l o) ≡ true)
          joined_how = ⊎_elim (λ d. inl (eqb-true _ _ d)) inr

      -- the next operation does not join them: it is of the other direction, and not empty
      turns : joins l first o ≡ false → combined (operation_of l (with_length first n) ∷ operations_from l next end)
          ≡ dropped (operation_of l (with_length first n) ∷ []) ++ combined (operations_from l next end)
      turns t =
          let f = simp or_not_iff at t in
          let other : o.direction ≡ first.direction → ⊥ = eqb-false _ _ f.0 in
          ⊎_elim
          (λ (w : first.direction ≡ 0). ⊎_elim
          (λ (d : o.direction ≡ 0). absurd (other (d ∙ sym w)))
          (λ (d : o.direction ≡ 1). rw (entries_step (operation_at l) next end left, ← eo, operation_write l (with_length first n) w, operation_read l o d)
          (write_turns _ o.length _ (rw (operation_read l o d) at f.1)))
          next-direction)
          (λ (r : first.direction ≡ 1). ⊎_elim
          (λ (d : o.direction ≡ 0). rw (entries_step (operation_at l) next end left, ← eo, operation_read l (with_length first n) r, operation_write l o d)
          (read_turns n (bytes_of l o) _ (rw (operation_write l o d) at f.1)))
          (λ (d : o.direction ≡ 1). absurd (other (d ∙ sym r)))
          next-direction)
          first_direction

      pub joining_turns : joins l first o ≡ false → Joining j end first n next → JoinsAt l j end (record { operation = with_length first n; next = next })
      joining_turns t g = record { some = g.some; most = g.most; first = g.same ∙ turns t }

    -- none is left
    pub joining_ends : (n next : ℕ) → end ≤ next → Joining j end first n next → JoinsAt l j end (record { operation = with_length first n; next = next })
    joining_ends n next h g =
        record {
          some = g.some;
          most = g.most;
          first = g.same ∙ rw (entries_end (operation_at l) next end h) (none_left (operation_of l (with_length first n)));
        }

-- A write after a read

-- a write with bytes comes: at once where a read has come (r), or after a read with bytes
unfoldable pub comes : Bool → List Operation → Bool
comes r [] = false
comes r (write [] ∷ os) = comes r os
comes r (write (b ∷ bs) ∷ os) = r || comes r os
comes r (read zero ∷ os) = comes r os
comes r (read (suc n) ∷ os) = comes true os

-- what is joined to a write begins with one
pub read_before : (n : ℕ) (bs : List ℕ) (os : List Operation) → read_then_write (read n ∷ gather (write bs) os) ≡ true
unfolding gather read_then_write
read_before n bs [] = refl
read_before n bs (write cs ∷ os) = read_before n (bs ++ cs) os
read_before n bs (read m ∷ os) = refl

mutual
  unfolding gather dropped read_then_write comes

  comes_after_write : (bs : List ℕ) (os : List Operation) → read_then_write (gather (write bs) (dropped os)) ≡ comes false os
  comes_after_write bs [] = refl
  comes_after_write bs (write [] ∷ os) = comes_after_write bs os
  comes_after_write bs (write (c ∷ cs) ∷ os) = comes_after_write (bs ++ (c ∷ cs)) os
  comes_after_write bs (read zero ∷ os) = comes_after_write bs os
  comes_after_write bs (read (suc n) ∷ os) = comes_after_read (suc n) os

  comes_after_read : (m : ℕ) (os : List Operation) → read_then_write (gather (read m) (dropped os)) ≡ comes true os
  comes_after_read m [] = refl
  comes_after_read m (write [] ∷ os) = comes_after_read m os
  comes_after_read m (write (c ∷ cs) ∷ os) = read_before m (c ∷ cs) (dropped os)
  comes_after_read m (read zero ∷ os) = comes_after_read m os
  comes_after_read m (read (suc n) ∷ os) = comes_after_read (m + suc n) os

-- so it is in combined operations
pub comes_combined : (os : List Operation) → read_then_write (combined os) ≡ comes false os
unfolding joined dropped read_then_write comes
comes_combined [] = refl
comes_combined (write [] ∷ os) = comes_combined os
comes_combined (write (b ∷ bs) ∷ os) = comes_after_write (b ∷ bs) os
comes_combined (read zero ∷ os) = comes_combined os
comes_combined (read (suc n) ∷ os) = comes_after_read (suc n) os

-- one operation at a time
abbrev is_write : Operation → Bool
is_write (write bs) = true
is_write (read n) = false

comes_cons : (r : Bool) (o : Operation) (os : List Operation)
    → comes r (o ∷ os) ≡ cond (not (empty o) && is_write o && r) true (comes (r || not (empty o) && not (is_write o)) os)
unfolding comes
comes_cons true (write []) os = refl
comes_cons false (write []) os = refl
comes_cons true (write (b ∷ bs)) os = refl
comes_cons false (write (b ∷ bs)) os = refl
comes_cons true (read zero) os = refl
comes_cons false (read zero) os = refl
comes_cons true (read (suc n)) os = refl
comes_cons false (read (suc n)) os = refl

entry_is_write : (l : List ℕ) (o : OperationEntry) → is_write (operation_of l o) ≡ eqb o.direction 0
unfolding operation_of
entry_is_write l o = go (write_direction o)
  where
    go : (b : Bool) → is_write (cond b (write (bytes_of l o)) (read o.length)) ≡ b
    go true = refl
    go false = refl

-- at the first of some entries
pub comes_entry : (l : List ℕ) (r : Bool) (o : OperationEntry) (os : List OperationEntry)
    → let full = not (empty (operation_of l o)) in let writes = write_direction o in
    comes r (map (operation_of l) (o ∷ os)) ≡ cond (full && writes && r) true (comes (r || full && not writes) (map (operation_of l) os))
comes_entry l r o os = rw (comes_cons r (operation_of l o), entry_is_write l o)
