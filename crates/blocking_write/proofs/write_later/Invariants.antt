use lib.ListN.{length}
use Rattle.registers.specs.Contract.{Reaches}
use Rattle.blocking_write.specs.Write.{later_bytes}
use Rattle.blocking_write.proofs.write_later.Given as goal

abbrev pub invariant-loop-byte : goal.invariant-loop-byte
invariant-loop-byte l = Reaches (later_bytes l.initial.bus.setup l.initial.bytes) l.initial.bus (later_bytes l.initial.bus.setup l.bytes) l.bus

abbrev pub decreases-loop-byte : goal.decreases-loop-byte
decreases-loop-byte l = length l.bytes
