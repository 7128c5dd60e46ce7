use mathlib.Core.Path.{sym, ◌∙◌}
use mathlib.Core.List.{[]}
use Rattle.registers.proofs.Steps.{here, ends_well}
use Rattle.checks.proofs.Checks.{check_checks, check_step, check_stops, check_less, cond_true, cond_false}
use Rattle.checks.proofs.check_until.Goals as goal

pub loop-sr1-init : goal.loop-sr1-init
loop-sr1-init c = here

pub returns-in_default : goal.returns-in_default
returns-in_default c =
    rw c.and.ensures (check_stops c.loop-sr1.invariant c.check_and_clear_error_flags-checked.ensures check_checks c.in_default.not-Ok)

pub returns-then-has : goal.returns-then-has
returns-then-has c =
    ends_well (check_step c.loop-sr1.invariant c.check_and_clear_error_flags-checked.ensures check_checks c.in-Ok.is
    (cond_true [] _ (sym c.has.ensures ∙ c.if-has.true)))

pub loop-sr1-smaller : goal.loop-sr1-smaller
loop-sr1-smaller c = check_less c.check_and_clear_error_flags-checked.ensures c.in-Ok.is

pub loop-sr1-preserved : goal.loop-sr1-preserved
loop-sr1-preserved c =
    check_step c.loop-sr1.invariant c.check_and_clear_error_flags-checked.ensures check_checks c.in-Ok.is
    (cond_false [] _ (sym c.has.ensures ∙ c.if-has.false))
