use mathlib.Core.List.{[], ◌∷◌}
use Rattle.registers.specs.Machine.{Step}
use Rattle.registers.specs.State.{room}
use Rattle.registers.specs.Contract.{state, Reaches}
use Rattle.checks.proofs.until_flag.Given as goal

abbrev pub invariant-loop-sr1 : goal.invariant-loop-sr1
invariant-loop-sr1 l = Reaches (Step.flag l.flag ∷ []) l.initial.bus (Step.flag l.flag ∷ []) l.bus

abbrev pub decreases-loop-sr1 : goal.decreases-loop-sr1
decreases-loop-sr1 l = room (state l.bus)
