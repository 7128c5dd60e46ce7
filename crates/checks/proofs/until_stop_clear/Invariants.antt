use mathlib.Core.List.{[], ◌∷◌}
use Rattle.registers.specs.Machine.{Step}
use Rattle.registers.specs.State.{room}
use Rattle.registers.specs.Contract.{state, Reaches}
use Rattle.checks.proofs.until_stop_clear.Given as goal

abbrev pub invariant-loop-cr1 : goal.invariant-loop-cr1
invariant-loop-cr1 l = Reaches (Step.stop_clear ∷ []) l.initial.bus (Step.stop_clear ∷ []) l.bus

abbrev pub decreases-loop-cr1 : goal.decreases-loop-cr1
decreases-loop-cr1 l = room (state l.bus)
