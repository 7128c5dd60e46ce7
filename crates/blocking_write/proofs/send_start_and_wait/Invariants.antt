use Prim.Native.Nat.{◌-◌}
use Rattle.registers.specs.Machine.{start}
use Rattle.registers.specs.Contract.{Reaches}
use Rattle.blocking_write.proofs.send_start_and_wait.Given as goal

abbrev pub invariant-loop-retry : goal.invariant-loop-retry
invariant-loop-retry l =
    Reaches (start l.initial.bus.setup l.initial.retries) l.initial.bus (start l.initial.bus.setup (l.retries - l.retry)) l.bus
