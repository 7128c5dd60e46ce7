use lib.ListN.{drop}
use Rattle.registers.specs.Contract.{Reaches}
use Rattle.i2c.specs.Polling.{write_bytes}
use Rattle.transfer.proofs.send_each.Given as goal

abbrev pub invariant-loop-byte : goal.invariant-loop-byte
invariant-loop-byte l = Reaches (write_bytes l.bytes) l.initial.bus (write_bytes (drop l.byte-index l.bytes)) l.bus
