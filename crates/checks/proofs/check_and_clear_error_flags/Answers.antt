use mathlib.Core.Path.{refl, sym, ◌∙◌}
use Rattle.checks.proofs.Flags.{nothing_found, berr_found}
use Rattle.checks.proofs.Checks.{check_none, check_fine, check_error, check_error_stops, check_spurious, check_spurious_stops}
use Rattle.checks.proofs.check_and_clear_error_flags.Goals as goal

pub returns-in_err-sr1 : goal.returns-in_err-sr1
returns-in_err-sr1 c = check_none c.read.ensures c.in_err-sr1.was c.from_residual.ensures

pub returns-then-no_error_flag : goal.returns-then-no_error_flag
returns-then-no_error_flag c =
    let none = nothing_found _ _ (sym c.no_error_flag.ensures ∙ c.if-no_error_flag.true) in
    check_fine c.read.ensures c.in_ok-sr1.was none.0 refl none.1

pub returns-in_err-clear_flag : goal.returns-in_err-clear_flag
returns-in_err-clear_flag c =
    check_error_stops c.read.ensures c.in_ok-sr1.was c.first_error.ensures c.in-Some.is c.clear_flag.ensures c.in_err-clear_flag.was c.from_residual-in_err-clear_flag.ensures

pub returns-in-Some : goal.returns-in-Some
returns-in-Some c =
    check_error c.read.ensures c.in_ok-sr1.was c.first_error.ensures c.in-Some.is c.clear_flag.ensures c.in_ok-clear_flag.was

pub returns-in_err-clear_flag-2 : goal.returns-in_err-clear_flag-2
returns-in_err-clear_flag-2 c =
    check_spurious_stops c.read.ensures c.in_ok-sr1.was c.first_error.ensures c.in_default.is
    (berr_found _ _ (sym c.no_error_flag.ensures ∙ c.if-no_error_flag.false) (sym c.in_default.is ∙ c.first_error.ensures))
    c.clear_flag-2.ensures c.in_err-clear_flag-2.was c.from_residual-in_err-clear_flag-2.ensures

pub returns : goal.returns
returns c =
    check_spurious c.read.ensures c.in_ok-sr1.was c.first_error.ensures c.in_default.is
    (berr_found _ _ (sym c.no_error_flag.ensures ∙ c.if-no_error_flag.false) (sym c.in_default.is ∙ c.first_error.ensures))
    c.clear_flag-2.ensures c.in_ok-clear_flag-2.was
