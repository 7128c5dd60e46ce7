-- What a list means: its settings (`settings_of`) and its calls.
use Rattle.std.specs.Prelude.{ℕ, zero, suc, ◌+◌, List, [], ◌∷◌, map, Bool, true, false, cond, take, drop, eqb, leb}
use Rattle.buslist.specs.declared.Address.{Address}
use Rattle.buslist.specs.declared.CallEntry.{CallEntry}
use Rattle.buslist.specs.declared.Engine.{Engine as EngineName}
use Rattle.buslist.specs.declared.Engine.TheVariants.{Polling, Blocking}
use Rattle.buslist.specs.declared.OperationEntry.{OperationEntry}
use Rattle.buslist.specs.Table.{data_offset, operations_of, calls}
use Rattle.buslist.specs.Form.{write_direction}

-- an operation: a write by its bytes, or a read by its length
pub data Operation : Type 0 where
  write : List ℕ → Operation
  read : ℕ → Operation

-- an operation without bytes
abbrev pub empty : Operation → Bool
empty (write []) = true
empty (write (b ∷ bs)) = false
empty (read zero) = true
empty (read (suc n)) = false

pub data Engine : Type 0 where
  polling blocking : Engine

-- the engine that the code's enum names
abbrev pub engine_named : EngineName → Engine
engine_named Polling = polling
engine_named Blocking = blocking

-- kinds 0 to 3 are polling, 4 to 7 blocking
unfoldable pub engine_of : ℕ → Engine
engine_of kind = cond (leb kind 3) polling blocking

-- a polling call
abbrev pub is_polling : Engine → Bool
is_polling polling = true
is_polling blocking = false

-- the number of an address, and its width
abbrev pub address_number : Address → ℕ
address_number (Address.Seven a) = a
address_number (Address.Ten a) = a

abbrev pub address_width : Address → ℕ
address_width (Address.Seven a) = 7
address_width (Address.Ten a) = 10

-- a call: its kind (polling 0 write, 1 read, 2 write_read, 3 transaction; blocking 4 write, 5 read, 6 write_read, 7 transaction), address and operations
pub record Call : Type 0 where
  pub kind : ℕ
  pub address : Address
  pub operations : List Operation

-- the bytes of a write: its length of them, from data offset + its own offset on
abbrev pub bytes_of : List ℕ → OperationEntry → List ℕ
bytes_of l o = take o.length (drop (data_offset l + o.offset) l)

unfoldable pub operation_of : List ℕ → OperationEntry → Operation
operation_of l o = cond (write_direction o) (write (bytes_of l o)) (read o.length)

-- a call's address, with its width; a list of the form has width 7 or 10
abbrev pub is_ten : CallEntry → Bool
is_ten c = eqb c.width 10

unfoldable pub address_of : CallEntry → Address
address_of c = cond (is_ten c) (Address.Ten c.address) (Address.Seven c.address)

abbrev pub call_of : List ℕ → CallEntry → Call
call_of l c = record { kind = c.kind; address = address_of c; operations = map (operation_of l) (operations_of l c) }

-- the calls of a list, in order
abbrev pub calls_of : List ℕ → List Call
calls_of l = map (call_of l) (calls l)
