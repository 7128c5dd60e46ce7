use Prim.Native.Nat.{◌-◌, ◌*◌, ◌≤◌}
use Rattle.registers.specs.Contract.{Reaches, Fits}
use Rattle.i2c.specs.Polling.{read_bytes}
use Rattle.transfer.proofs.recv_ready.Given as goal

abbrev pub invariant-loop-i : goal.invariant-loop-i
invariant-loop-i l =
    record {
      reaches : Reaches (read_bytes l.count) l.initial.bus (read_bytes (l.count - l.i)) l.bus;
      fits : Fits l.bus (3 * (l.fit - l.i));
      fewer : l.bus.progress.got ≤ l.bus.progress.used;
    }
