use Prim.Native.Nat.{◌-◌, ◌*◌}
use lib.ListN.{drop}
use Rattle.registers.specs.Contract.{Reaches, Fits}
use Rattle.blocking_write.specs.Write.{later_bytes}
use Rattle.blocking_write.proofs.write_ready.Given as goal

abbrev pub invariant-loop-i : goal.invariant-loop-i
invariant-loop-i l =
    Reaches (later_bytes l.initial.bus.setup l.bytes) l.initial.bus (later_bytes l.initial.bus.setup (drop l.i l.bytes)) l.bus × Fits l.bus (3 * (l.count - l.i))
