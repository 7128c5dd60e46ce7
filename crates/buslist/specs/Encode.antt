-- How settings and calls are written as a bus list (document 01, "Bus list").
-- Numbers that fit their fields are written as bytes. Nothing is cut off: a number too big for its field makes its last byte too big.
use Rattle.std.specs.Prelude.{ℕ, ◌+◌, ◌*◌, ◌/◌, ◌%◌, length}
use mathlib.Core.List.{List, [], ◌∷◌, ◌++◌, flat_map}
use Rattle.units.specs.declared.Settings.{Settings}
use Rattle.units.specs.Speed.{mode_number}
use Rattle.buslist.specs.declared.CallEntry.{CallEntry}
use Rattle.buslist.specs.declared.OperationEntry.{OperationEntry}
use Rattle.buslist.specs.Meaning.{Operation, write, read, address_number, address_width, Call}

-- 16 bits, little-endian
unfoldable pub half_bytes : ℕ → List ℕ
half_bytes n = n % 256 ∷ n / 256 ∷ []

-- 32 bits, little-endian
unfoldable pub word_bytes : ℕ → List ℕ
word_bytes n = half_bytes (n % 65536) ++ half_bytes (n / 65536)

-- the sixteen words of the header, for C calls, O operations and D data bytes
unfoldable pub header : Settings → ℕ → ℕ → ℕ → List ℕ
header s c o d =
    c ∷ 64 ∷ o ∷ (64 + 8 * c) ∷ d ∷ (64 + 8 * c + 8 * o)
    ∷ s.pclk1.0 ∷ s.sysclk.0 ∷ mode_number s.mode ∷ s.frequency.0
    ∷ s.start_timeout.0 ∷ s.start_retries ∷ s.addr_timeout.0 ∷ s.data_timeout.0 ∷ 0 ∷ 0 ∷ []

-- calls after calls of `sum` operations, as their table has them: first operation is the sum of earlier counts
unfoldable pub call_entries : ℕ → List Call → List CallEntry
call_entries sum [] = []
call_entries sum (c ∷ cs) =
    record { kind = c.kind; width = address_width c.address; address = address_number c.address; first = sum; count = length c.operations }
    ∷ call_entries (sum + length c.operations) cs

-- a call's 8 bytes: kind and address width (one byte each), address, first operation and operation count (16 bits each)
unfoldable pub call_bytes : CallEntry → List ℕ
call_bytes c = c.kind ∷ c.width ∷ half_bytes c.address ++ half_bytes c.first ++ half_bytes c.count

-- the call table
abbrev pub call_table : List Call → List ℕ
call_table cs = flat_map call_bytes (call_entries 0 cs)

-- the bytes of the data part that an operation has: a write its bytes, a read none
abbrev pub data_of : Operation → List ℕ
data_of (write bs) = bs
data_of (read n) = []

-- an operation after writes of `sum` bytes: data offset `sum` for a write, 0 for a read
abbrev pub operation_entry : ℕ → Operation → OperationEntry
operation_entry sum (write bs) = record { direction = 0; reserved = 0; length = length bs; offset = sum }
operation_entry sum (read n) = record { direction = 1; reserved = 0; length = n; offset = 0 }

-- operations after writes of `sum` bytes, as their table has them
unfoldable pub operation_entries : ℕ → List Operation → List OperationEntry
operation_entries sum [] = []
operation_entries sum (o ∷ os) = operation_entry sum o ∷ operation_entries (sum + length (data_of o)) os

-- an operation's 8 bytes: direction and a zero byte (one byte each), length (16 bits), data offset (32 bits)
unfoldable pub operation_bytes : OperationEntry → List ℕ
operation_bytes o = o.direction ∷ o.reserved ∷ half_bytes o.length ++ word_bytes o.offset

-- the operation table
abbrev pub operation_table : List Operation → List ℕ
operation_table os = flat_map operation_bytes (operation_entries 0 os)

-- the data part: the bytes of all writes, in order
abbrev pub data_part : List Operation → List ℕ
data_part os = flat_map data_of os

-- the operations of all calls, in order
abbrev pub all_operations : List Call → List Operation
all_operations cs = flat_map (λ c. c.operations) cs

-- the bus list: header, call table, operation table, data part
unfoldable pub encode : Settings → List Call → List ℕ
encode s cs =
    let os : List Operation = all_operations cs in
    flat_map word_bytes (header s (length cs) (length os) (length (data_part os))) ++ call_table cs ++ operation_table os ++ data_part os
