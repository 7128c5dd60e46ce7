use mathlib.Core.Path.{refl, sym, ◌∙◌}
use Rattle.registers.proofs.Steps.{here, read_step, read_stops, read_less, ends_well}
use Rattle.checks.proofs.Waits.{next-stop_clear}
use Rattle.checks.proofs.until_stop_clear.Goals as goal

pub loop-cr1-init : goal.loop-cr1-init
loop-cr1-init c = here

pub returns-in_err-cr1 : goal.returns-in_err-cr1
returns-in_err-cr1 c = read_stops c.loop-cr1.invariant c.read.ensures refl c.in_err-cr1.was c.from_residual.ensures

pub returns-then-not-has : goal.returns-then-not-has
returns-then-not-has c = ends_well (read_step c.loop-cr1.invariant c.read.ensures refl refl c.in_ok-cr1.was (next-stop_clear _ _ (sym c.has.ensures ∙ c.if-not-has.true)))

pub loop-cr1-smaller : goal.loop-cr1-smaller
loop-cr1-smaller c = read_less c.read.ensures c.in_ok-cr1.was

pub loop-cr1-preserved : goal.loop-cr1-preserved
loop-cr1-preserved c = read_step c.loop-cr1.invariant c.read.ensures refl refl c.in_ok-cr1.was (next-stop_clear _ _ (sym c.has.ensures ∙ c.if-not-has.false))
