use Rattle.registers.specs.Machine.{Step, Handler, next}
use Rattle.registers.specs.State.{room}
use Rattle.registers.specs.Contract.{state, Reaches}
use Rattle.timed.proofs.poll_on.Given as goal

-- the loop comes back to what a poll makes of the word that it read
abbrev pub invariant-loop-awaited : goal.invariant-loop-awaited
invariant-loop-awaited l =
    (h : Handler)
    → Reaches (next l.initial.bus.setup (Step.poll l.awaited l.limit.0 h l.start) l.initial.word) l.initial.bus (next l.initial.bus.setup (Step.poll l.awaited l.limit.0 h l.start) l.word) l.bus

abbrev pub decreases-loop-awaited : goal.decreases-loop-awaited
decreases-loop-awaited l = room (state l.bus)
