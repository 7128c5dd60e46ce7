use Prim.Native.Nat.{◌-◌, ◌*◌, ◌≤◌}
use Rattle.registers.specs.Contract.{Reaches, Fits}
use Rattle.blocking.specs.Blocking.{receive_bytes}
use Rattle.blocking.proofs.receive_ready.Given as goal

abbrev pub invariant-loop-i : goal.invariant-loop-i
invariant-loop-i l =
    record {
      reaches : Reaches (receive_bytes l.initial.bus.setup l.count) l.initial.bus (receive_bytes l.initial.bus.setup (l.count - l.i)) l.bus;
      fits : Fits l.bus (3 * (l.fit - l.i));
      fewer : l.bus.progress.got ≤ l.bus.progress.used;
    }
