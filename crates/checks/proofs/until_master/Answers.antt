use mathlib.Core.Path.{refl, sym, ◌∙◌}
use Rattle.registers.proofs.Steps.{here, read_step, read_stops, read_less, ends_well}
use Rattle.checks.proofs.Waits.{next_master}
use Rattle.checks.proofs.until_master.Goals as goal

pub loop-sr2-init : goal.loop-sr2-init
loop-sr2-init c = here

pub returns-in_err-sr2 : goal.returns-in_err-sr2
returns-in_err-sr2 c = read_stops c.loop-sr2.invariant c.read.ensures refl c.in_err-sr2.was c.from_residual.ensures

pub returns-then-has : goal.returns-then-has
returns-then-has c = ends_well (read_step c.loop-sr2.invariant c.read.ensures refl refl c.in_ok-sr2.was (next_master _ _ (sym c.has.ensures ∙ c.if-has.true) refl))

pub returns-then-has-2 : goal.returns-then-has-2
returns-then-has-2 c = ends_well (read_step c.loop-sr2.invariant c.read.ensures refl refl c.in_ok-sr2.was (next_master _ _ (sym c.has.ensures ∙ c.if-has.false) (sym c.has-in-loop-sr2.ensures ∙ c.if-has-2.true)))

pub loop-sr2-smaller : goal.loop-sr2-smaller
loop-sr2-smaller c = read_less c.read.ensures c.in_ok-sr2.was

pub loop-sr2-preserved : goal.loop-sr2-preserved
loop-sr2-preserved c = read_step c.loop-sr2.invariant c.read.ensures refl refl c.in_ok-sr2.was (next_master _ _ (sym c.has.ensures ∙ c.if-has.false) (sym c.has-in-loop-sr2.ensures ∙ c.if-has-2.false))
