-- The forms of the contract of `turn`: which prepares an operation needs, by its direction and the one before it.
use Rattle.std.specs.Prelude.{Bool, true, false, not, List}
use Rattle.buslist.specs.declared.Address.{Address}
use Rattle.registers.specs.Machine.{Step}
use Rattle.i2c.specs.declared.Previous.{Previous}
use Rattle.i2c.specs.Polling.{turn_write, turn_read}

-- the address is sent for writing: for a write that follows no write, and for a read that a ten-bit call begins with
abbrev pub sends_write : Address → Previous → Bool → Bool
sends_write (Address.Seven a) Previous.Nothing reads = not reads
sends_write (Address.Ten a) Previous.Nothing reads = true
sends_write a Previous.Write reads = false
sends_write a Previous.Read reads = not reads

-- the address is sent for reading: for a read that follows no read
abbrev pub sends_read : Previous → Bool → Bool
sends_read Previous.Nothing reads = reads
sends_read Previous.Write reads = reads
sends_read Previous.Read reads = false

-- the prepares of a write or a read
abbrev pub turn_to : Address → Previous → Bool → List Step
turn_to a previous false = turn_write a previous
turn_to a previous true = turn_read a previous
