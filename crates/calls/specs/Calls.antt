-- The steps of a call, by its kind.
use Rattle.std.specs.Prelude.{ℕ, Bool, cond, ◌||◌, List, eqb}
use Rattle.units.specs.declared.Setup.{Setup}
use Rattle.buslist.specs.declared.Address.{Address}
use Rattle.buslist.specs.Meaning.{Operation, Engine, polling, blocking, engine_of, address_number, Call}
use Rattle.buslist.specs.Combined.{combined}
use Rattle.registers.specs.Machine.{Step}
use Rattle.i2c.specs.declared.Previous.{Previous}
use Rattle.i2c.specs.Polling.{polling_steps}
use Rattle.blocking.specs.Blocking.{blocking_steps}

-- `read` (1) and `write_read` (2) answer Overrun for an empty buffer before preparing that read
unfoldable pub early : ℕ → Bool
early kind = eqb kind 1 || eqb kind 2

-- the operations of a call that are left, after an operation of direction `previous` or none; a blocking call has a seven-bit address, by cause 24
unfoldable pub operations_steps : Setup → Engine → Bool → Address → Previous → List Operation → List Step
operations_steps s polling early a previous os = polling_steps early a previous os
operations_steps s blocking early a previous os = blocking_steps s (address_number a) previous os

-- the operations that a call of this kind does: those listed, but of kind 7 the combined ones
unfoldable pub performed : ℕ → List Operation → List Operation
performed kind os = cond (eqb kind 7) (combined os) os

-- what a call does; kind 7 does what is left as blocking write, read or write_read, and with nothing left nothing
unfoldable pub steps_of : Setup → Call → List Step
steps_of s c = operations_steps s (engine_of c.kind) (early c.kind) c.address Previous.Nothing (performed c.kind c.operations)
