use mathlib.Core.Path.{refl, sym, ◌∙◌}
use Rattle.registers.proofs.Steps.{here, read_step, read_stops, read_less, ends_well}
use Rattle.checks.proofs.Waits.{next_flag}
use Rattle.checks.proofs.until_flag.Goals as goal

pub loop-sr1-init : goal.loop-sr1-init
loop-sr1-init c = here

pub returns-in_err-sr1 : goal.returns-in_err-sr1
returns-in_err-sr1 c = read_stops c.loop-sr1.invariant c.read.ensures refl c.in_err-sr1.was c.from_residual.ensures

pub returns-then-has : goal.returns-then-has
returns-then-has c = ends_well (read_step c.loop-sr1.invariant c.read.ensures refl refl c.in_ok-sr1.was (next_flag _ _ _ (sym c.has.ensures ∙ c.if-has.true)))

pub loop-sr1-smaller : goal.loop-sr1-smaller
loop-sr1-smaller c = read_less c.read.ensures c.in_ok-sr1.was

pub loop-sr1-preserved : goal.loop-sr1-preserved
loop-sr1-preserved c = read_step c.loop-sr1.invariant c.read.ensures refl refl c.in_ok-sr1.was (next_flag _ _ _ (sym c.has.ensures ∙ c.if-has.false))
