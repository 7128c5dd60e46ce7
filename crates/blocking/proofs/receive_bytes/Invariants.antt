use Prim.Native.Nat.{◌-◌, ◌≤◌}
use Rattle.registers.specs.Contract.{Reaches}
use Rattle.blocking.specs.Blocking.{receive_bytes}
use Rattle.blocking.proofs.receive_bytes.Given as goal

abbrev pub invariant-loop : goal.invariant-loop
invariant-loop l =
    record {
      reaches : Reaches (receive_bytes l.initial.bus.setup (l.count - l.ready)) l.initial.bus (receive_bytes l.initial.bus.setup (l.count - l.counter)) l.bus;
      fewer : l.bus.progress.got ≤ l.bus.progress.used;
    }
