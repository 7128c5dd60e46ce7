-- The labelled loops: after k calls the calls from k on are left, and within a call its operations from j on.
use Prim.Native.Nat.{◌-◌, ◌≤◌}
use mathlib.Core.Path.{◌≡◌}
use mathlib.Core.List.{map}
use Rattle.std.specs.Prelude.{Ok}
use Rattle.buslist.specs.Meaning.{calls_of}
use Rattle.buslist.specs.Next.{operations_from}
use Rattle.registers.specs.Contract.{state, Same, Reaches}
use Rattle.calls.specs.Calls.{steps_of}
use Rattle.calls.specs.Whole.{rest_steps, Left}
use Rattle.calls.proofs.CallLaws.{calls_from}
use Rattle.calls.proofs.run_on.Given as goal

abbrev pub invariant-loop-j : goal.invariant-loop-j
invariant-loop-j l =
    record {
      reaches : Reaches (rest_steps l.fn.setup l.call l.initial.previous (operations_from l.list l.initial.j l.end)) l.initial.bus
          (rest_steps l.fn.setup l.call l.previous (operations_from l.list l.j l.end)) l.bus;
      fewer : l.bus.progress.got ≤ l.bus.progress.used;
    }

abbrev pub decreases-loop-j : goal.decreases-loop-j
decreases-loop-j l = l.end - l.j

abbrev pub invariant-calls : goal.invariant-calls
invariant-calls l =
    record {
      same : Same l.initial.bus l.bus;
      fewer : l.bus.progress.got ≤ l.bus.progress.used;
      done : l.calls ≡ l.k;
      well : l.outcome ≡ Ok tt;
      left : Left l.fn.setup (map (steps_of l.fn.setup) (calls_of l.list)) (state l.initial.bus) l.k (calls_from l.fn.setup l.list l.k l.count) (state l.bus);
    }
