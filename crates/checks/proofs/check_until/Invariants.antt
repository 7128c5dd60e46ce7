use mathlib.Core.List.{[], ◌∷◌}
use Rattle.registers.specs.Machine.{Step}
use Rattle.registers.specs.State.{room}
use Rattle.registers.specs.Contract.{state, Reaches}
use Rattle.checks.proofs.check_until.Given as goal

abbrev pub invariant-loop-sr1 : goal.invariant-loop-sr1
invariant-loop-sr1 l = Reaches (Step.check l.flag l.source ∷ []) l.initial.bus (Step.check l.flag l.source ∷ []) l.bus

abbrev pub decreases-loop-sr1 : goal.decreases-loop-sr1
decreases-loop-sr1 l = room (state l.bus)
