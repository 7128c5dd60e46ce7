-- The form of a bus list (document 01, "Bus list"). Sums and offsets are numbers without a limit.
use Rattle.std.specs.Prelude.{ℕ, ◌+◌, ◌*◌, List, [], ◌∷◌, Bool, true, false, cond, ◌&&◌, ◌||◌, length, eqb, leb}
use Rattle.units.specs.Speed.{mode_known}
use Rattle.buslist.specs.declared.CallEntry.{CallEntry}
use Rattle.buslist.specs.declared.OperationEntry.{OperationEntry}
use Rattle.buslist.specs.Bytes.{word}
use Rattle.buslist.specs.Table.{call_count, call_offset, operation_count, operation_offset, data_bytes, data_offset, calls, operations, operations_of}

-- the header: sixteen words; call offset 64, operation offset 64 + 8C, data offset 64 + 8C + 8O; mode 0 to 2; start retries 0 to 255;
-- two zero words; and the length of the list is data offset + D
unfoldable pub header_right : List ℕ → Bool
header_right l =
    leb 64 (length l)
    && eqb (call_offset l) 64
    && eqb (operation_offset l) (64 + 8 * call_count l)
    && eqb (data_offset l) (64 + 8 * call_count l + 8 * operation_count l)
    && mode_known (word l 32)
    && leb (word l 44) 255
    && eqb (word l 56) 0
    && eqb (word l 60) 0
    && eqb (length l) (data_offset l + data_bytes l)

-- direction 0 is a write, 1 a read
abbrev pub write_direction : OperationEntry → Bool
write_direction o = eqb o.direction 0

abbrev pub read_direction : OperationEntry → Bool
read_direction o = eqb o.direction 1

-- how many bytes of the data part an operation has: a write its length, a read none
unfoldable pub written : OperationEntry → ℕ
written o = cond (write_direction o) o.length 0

-- an operation after writes of `sum` bytes: a write or a read; a zero byte; data offset `sum` for a write, 0 for a read
unfoldable pub operation_right : ℕ → OperationEntry → Bool
operation_right sum o = eqb o.reserved 0 && (write_direction o && eqb o.offset sum || read_direction o && eqb o.offset 0)

-- operations after writes of `sum` bytes, of a list with `total` data bytes: each is right, and write lengths sum to D
unfoldable pub operations_right : ℕ → ℕ → List OperationEntry → Bool
operations_right total sum [] = eqb sum total
operations_right total sum (o ∷ os) = operation_right sum o && operations_right total (sum + written o) os

-- these directions, one by one
unfoldable pub has_directions : List ℕ → List OperationEntry → Bool
has_directions [] [] = true
has_directions [] (o ∷ os) = false
has_directions (d ∷ ds) [] = false
has_directions (d ∷ ds) (o ∷ os) = eqb o.direction d && has_directions ds os

-- the kinds and their operations: kinds 0 and 4 have one write, 1 and 5 one read, 2 and 6 a write then a read, 3 and 7 any; there is no other kind
unfoldable pub kind_right : ℕ → List OperationEntry → Bool
kind_right kind os =
    (eqb kind 0 || eqb kind 4) && has_directions (0 ∷ []) os
    || (eqb kind 1 || eqb kind 5) && has_directions (1 ∷ []) os
    || (eqb kind 2 || eqb kind 6) && has_directions (0 ∷ 1 ∷ []) os
    || (eqb kind 3 || eqb kind 7)

-- a call after calls of `sum` operations: address width 7 or 10; first operation `sum`; the operations of its kind
unfoldable pub call_right : List ℕ → ℕ → CallEntry → Bool
call_right l sum c = (eqb c.width 7 || eqb c.width 10) && eqb c.first sum && kind_right c.kind (operations_of l c)

-- calls after calls of `sum` operations: each is right, and all counts sum to O
unfoldable pub calls_right : List ℕ → ℕ → List CallEntry → Bool
calls_right l sum [] = eqb sum (operation_count l)
calls_right l sum (c ∷ cs) = call_right l sum c && calls_right l (sum + c.count) cs

-- a list of the form
unfoldable pub of_the_form : List ℕ → Bool
of_the_form l = header_right l && operations_right (data_bytes l) 0 (operations l) && calls_right l 0 (calls l)
