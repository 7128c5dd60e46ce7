use mathlib.Core.List.{[], ◌∷◌}
use Rattle.registers.specs.Machine.{Step}
use Rattle.registers.specs.State.{room}
use Rattle.registers.specs.Contract.{state, Reaches}
use Rattle.checks.proofs.check_twice.Given as goal

abbrev pub invariant-loop-bus : goal.invariant-loop-bus
invariant-loop-bus l = Reaches (Step.check_twice l.flag l.source ∷ []) l.initial.bus (Step.check_twice l.flag l.source ∷ []) l.bus

abbrev pub decreases-loop-bus : goal.decreases-loop-bus
decreases-loop-bus l = room (state l.bus)
