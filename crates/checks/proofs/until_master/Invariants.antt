use mathlib.Core.List.{[], ◌∷◌}
use Rattle.registers.specs.Machine.{Step}
use Rattle.registers.specs.State.{room}
use Rattle.registers.specs.Contract.{state, Reaches}
use Rattle.checks.proofs.until_master.Given as goal

abbrev pub invariant-loop-sr2 : goal.invariant-loop-sr2
invariant-loop-sr2 l = Reaches (Step.master ∷ []) l.initial.bus (Step.master ∷ []) l.bus

abbrev pub decreases-loop-sr2 : goal.decreases-loop-sr2
decreases-loop-sr2 l = room (state l.bus)
