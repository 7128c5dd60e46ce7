use Prim.Native.Nat.{◌-◌, ◌≤◌}
use Rattle.registers.specs.Contract.{Reaches}
use Rattle.i2c.specs.Polling.{read_bytes}
use Rattle.transfer.proofs.read_bytes.Given as goal

abbrev pub invariant-loop : goal.invariant-loop
invariant-loop l =
    record {
      reaches : Reaches (read_bytes (l.count - l.ready)) l.initial.bus (read_bytes (l.count - l.counter)) l.bus;
      fewer : l.bus.progress.got ≤ l.bus.progress.used;
    }
