-- The polling engine as steps (document 01, "Polling"), in its order; ten-bit addresses by document 02 (C-13), UM10204 and RM0008.
use Rattle.std.specs.Prelude.{ℕ, zero, suc, ◌+◌, ◌*◌, ◌/◌, ◌%◌, Bool, true, false, List, [], ◌∷◌, ◌++◌}
use Rattle.buslist.specs.declared.Address.{Address}
use Rattle.buslist.specs.Meaning.{Operation, write, read}
use Rattle.registers.specs.declared.Source.{Source}
use Rattle.registers.specs.declared.BusError.{BusError}
use Rattle.registers.specs.Word.{none, one, both, SB, ADDR, BTF, ADD10, RXNE, TXE, START, STOP, ACK}
use Rattle.registers.specs.Access.{SR2, DR, wDR}
use Rattle.registers.specs.Machine.{Step, send_start}
use Rattle.i2c.specs.declared.Previous.{Previous}

-- the address byte of a prepare: 2 × address for a write, one more for a read
abbrev pub address_byte : ℕ → Bool → ℕ
address_byte a false = 2 * a
address_byte a true = 2 * a + 1

-- the header of a ten-bit address: 11110 in binary, the address's two high bits, and 0 for a write, 1 for a read
abbrev pub header_byte : ℕ → Bool → ℕ
header_byte a false = 0xf0 + 2 * (a / 256)
header_byte a true = 0xf0 + 2 * (a / 256) + 1

-- the byte that a prepare sends after START: the address byte, or the header
abbrev pub first_byte : Address → Bool → ℕ
first_byte (Address.Seven a) reads = address_byte a reads
first_byte (Address.Ten a) reads = header_byte a reads

-- the low byte of a ten-bit address, after the header of a write: check until ADD10 (AF: Address); write DR the low byte
abbrev pub send_low_byte : Address → List Step
send_low_byte (Address.Seven a) = []
send_low_byte (Address.Ten a) = Step.check ADD10 Source.Address ∷ Step.put wDR (a % 256) ∷ []

-- `prepare_write`, the request: read CR1 until STOP is clear; write SR1 0; set START in CR1; check until SB; check and read SR2 until MSL or BUSY
abbrev pub request_write : List Step
request_write = Step.stop_clear ∷ send_start (one START) ++ Step.check SB Source.Unknown ∷ Step.check_master ∷ []

-- its address phase: write DR 2 × address, or the header and then the low byte; check until ADDR (AF: Address); read SR2
abbrev pub address_write : Address → List Step
address_write a = Step.put wDR (first_byte a false) ∷ send_low_byte a ++ Step.check ADDR Source.Address ∷ Step.get SR2 ∷ []

abbrev pub prepare_write : Address → List Step
prepare_write a = request_write ++ address_write a

-- `prepare_read`, its START: the same, but set START and ACK; plain SR1 reads until SB; SR2 reads alone until MSL or BUSY
abbrev pub start_read : List Step
start_read = Step.stop_clear ∷ send_start (both START ACK) ++ Step.flag SB ∷ Step.master ∷ []

-- its START right after `prepare_write`, in a ten-bit call that begins with a read: set START and ACK; plain SR1 reads until SB
abbrev pub repeat_start : List Step
repeat_start = Step.modify (both START ACK) none ∷ Step.flag SB ∷ []

-- its request, with the first START or with START again
abbrev pub request_read : Bool → List Step
request_read false = start_read
request_read true = repeat_start

-- its address phase: DR 2 × address + 1, or the header with its low bit 1; check (AF: Address) and a second SR1 read until the second has ADDR; read SR2
abbrev pub address_read : Address → List Step
address_read a = Step.put wDR (first_byte a true) ∷ Step.check_twice ADDR Source.Address ∷ Step.get SR2 ∷ []

abbrev pub prepare_read : Address → Bool → List Step
prepare_read a again = request_read again ++ address_read a

-- `send_byte`: check until TXE (AF: Address), write DR, check until BTF (AF: Data)
abbrev pub send_byte : ℕ → List Step
send_byte byte = Step.check TXE Source.Address ∷ Step.put wDR byte ∷ Step.check BTF Source.Data ∷ []

-- `recv_byte`: check (AF: Data) and a second SR1 read until the second has RXNE; read DR
abbrev pub recv_byte : List Step
recv_byte = Step.check_twice RXNE Source.Data ∷ Step.get DR ∷ []

-- `write_bytes`, `read_bytes`
unfoldable pub write_bytes : List ℕ → List Step
write_bytes [] = []
write_bytes (byte ∷ bytes) = send_byte byte ++ write_bytes bytes

unfoldable pub read_bytes : ℕ → List Step
read_bytes zero = []
read_bytes (suc n) = recv_byte ++ read_bytes n

-- last write (`write_wo_prepare`): its bytes, set STOP, read CR1 until STOP is clear
abbrev pub last_write : List ℕ → List Step
last_write bytes = write_bytes bytes ++ Step.modify (one STOP) none ∷ Step.stop_clear ∷ []

-- last read (`read_wo_prepare`): Overrun if empty; all but one byte; ACK off and STOP on in one set; last byte; read CR1 until STOP is clear
unfoldable pub last_read : ℕ → List Step
last_read zero = Step.fail BusError.Overrun ∷ []
last_read (suc n) = read_bytes n ++ (Step.modify (one STOP) (one ACK) ∷ recv_byte ++ Step.stop_clear ∷ [])

-- `transaction_slice`: prepare for the first operation and at each change of direction; a ten-bit call that begins with a read is prepared for a write first
unfoldable pub turn_write : Address → Previous → List Step
turn_write a Previous.Nothing = prepare_write a
turn_write a Previous.Write = []
turn_write a Previous.Read = prepare_write a

unfoldable pub turn_read : Address → Previous → List Step
turn_read (Address.Seven a) Previous.Nothing = prepare_read (Address.Seven a) false
turn_read (Address.Ten a) Previous.Nothing = prepare_write (Address.Ten a) ++ prepare_read (Address.Ten a) true
turn_read a Previous.Write = prepare_read a false
turn_read a Previous.Read = []

-- `read` and the read half of `write_read` (early) answer Overrun for an empty buffer before preparing that read
unfoldable pub turn : Bool → Address → Previous → Operation → List Step
turn early a previous (write bytes) = turn_write a previous
turn true a previous (read zero) = Step.fail BusError.Overrun ∷ []
turn true a previous (read (suc n)) = turn_read a previous
turn false a previous (read n) = turn_read a previous

-- an operation that another follows, and the last one
unfoldable pub transfer : Bool → Operation → List Step
transfer false (write bytes) = write_bytes bytes
transfer false (read n) = read_bytes n
transfer true (write bytes) = last_write bytes
transfer true (read n) = last_read n

-- what one operation of a polling call does, after the operation before it
abbrev pub operation_steps : Bool → Address → Previous → Bool → Operation → List Step
operation_steps early a previous last o = turn early a previous o ++ transfer last o

abbrev pub direction : Operation → Previous
direction (write bytes) = Previous.Write
direction (read n) = Previous.Read

abbrev pub is_last : List Operation → Bool
is_last [] = true
is_last (o ∷ os) = false

-- the operations of a polling call, in order
unfoldable pub polling_steps : Bool → Address → Previous → List Operation → List Step
polling_steps early a previous [] = []
polling_steps early a previous (o ∷ os) = operation_steps early a previous (is_last os) o ++ polling_steps early a (direction o) os
