use native.Mathlib.Omega.{arith}
use mathlib.Core.Path.{refl, sym, ◌∙◌}
use mathlib.Core.List.{[]}
use Rattle.registers.specs.Machine.{next}
use Rattle.registers.proofs.Steps.{here, read_step, read_stops, read_less, ends_well}
use Rattle.checks.proofs.Checks.{check_twice_checks, check_step, check_stops, check_less, cond_true, cond_false}
use Rattle.checks.proofs.check_twice.Goals as goal

pub loop-bus-init : goal.loop-bus-init
loop-bus-init c = here

pub returns-in_default : goal.returns-in_default
returns-in_default c =
    rw c.and.ensures (check_stops c.loop-bus.invariant c.check_and_clear_error_flags-checked.ensures check_twice_checks c.in_default.not-Ok)

pub returns-in_err-sr1 : goal.returns-in_err-sr1
returns-in_err-sr1 c =
    read_stops (check_step c.loop-bus.invariant c.check_and_clear_error_flags-checked.ensures check_twice_checks c.in-Ok.is refl) c.read.ensures refl c.in_err-sr1.was c.from_residual.ensures

pub returns-then-has : goal.returns-then-has
unfolding next
returns-then-has c =
    ends_well
    (read_step (check_step c.loop-bus.invariant c.check_and_clear_error_flags-checked.ensures check_twice_checks c.in-Ok.is refl)
    c.read.ensures refl refl c.in_ok-sr1.was (cond_true [] _ (sym c.has.ensures ∙ c.if-has.true)))

pub loop-bus-smaller : goal.loop-bus-smaller
loop-bus-smaller c =
    let f = check_less c.check_and_clear_error_flags-checked.ensures c.in-Ok.is in
    let g = read_less c.read.ensures c.in_ok-sr1.was in
    omega arith

pub loop-bus-preserved : goal.loop-bus-preserved
unfolding next
loop-bus-preserved c =
    read_step (check_step c.loop-bus.invariant c.check_and_clear_error_flags-checked.ensures check_twice_checks c.in-Ok.is refl)
    c.read.ensures refl refl c.in_ok-sr1.was (cond_false [] _ (sym c.has.ensures ∙ c.if-has.false))
