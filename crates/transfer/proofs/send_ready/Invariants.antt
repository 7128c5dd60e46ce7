use Prim.Native.Nat.{◌-◌, ◌*◌}
use lib.ListN.{drop}
use Rattle.registers.specs.Contract.{Reaches, Fits}
use Rattle.i2c.specs.Polling.{write_bytes}
use Rattle.transfer.proofs.send_ready.Given as goal

abbrev pub invariant-loop-i : goal.invariant-loop-i
invariant-loop-i l = Reaches (write_bytes l.bytes) l.initial.bus (write_bytes (drop l.i l.bytes)) l.bus × Fits l.bus (3 * (l.count - l.i))
