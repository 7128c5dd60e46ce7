use Rattle.std.proofs.Common.{sym, refl, ◌∙◌, append-nil, arith}
use Rattle.registers.proofs.Steps.{rewritten, read_step, read_less, waits_well}
use Rattle.timed.proofs.Waiting.{to_end, to_late, next_late, poll_step, wait_unread, wait_uncleared, wait_failed, ends_handled}
use Rattle.timed.proofs.poll_on.Goals as goal

pub returns-in_err-clear_flag : goal.returns-in_err-clear_flag
returns-in_err-clear_flag c h =
    wait_uncleared _ _ _ _ (c.loop-awaited.invariant h) (sym c.poll_error.ensures ∙ c.in-Some.is) c.clear_flag.ensures c.in_err-clear_flag.was c.from_residual.ensures

pub returns-in-Some : goal.returns-in-Some
returns-in-Some c h =
    wait_failed _ _ _ _ (c.loop-awaited.invariant h) (sym c.poll_error.ensures ∙ c.in-Some.is) c.clear_flag.ensures c.in_ok-clear_flag.was

pub returns-in_err-cycles : goal.returns-in_err-cycles
returns-in_err-cycles c h =
    let late = to_late _ _ h _ _ (c.loop-awaited.invariant h) (sym c.wait_over.ensures ∙ c.loop-awaited-test.true) (sym c.poll_error.ensures ∙ c.in_default.is) in
    wait_unread late c.read.ensures refl c.in_err-cycles.was c.from_residual-in_err-cycles.ensures

pub returns-then-timed_out : goal.returns-then-timed_out
returns-then-timed_out c h =
    let late = to_late _ _ h _ _ (c.loop-awaited.invariant h) (sym c.wait_over.ensures ∙ c.loop-awaited-test.true) (sym c.poll_error.ensures ∙ c.in_default.is) in
    ends_handled (rewritten (append-nil _) (read_step late c.read.ensures refl refl c.in_ok-cycles.was (next_late _ _ _ h _ _ (sym c.timed_out.ensures ∙ c.if-timed_out.true))))

pub returns-in_err-word : goal.returns-in_err-word
returns-in_err-word c h =
    let late = to_late _ _ h _ _ (c.loop-awaited.invariant h) (sym c.wait_over.ensures ∙ c.loop-awaited-test.true) (sym c.poll_error.ensures ∙ c.in_default.is) in
    let poll = read_step late c.read.ensures refl refl c.in_ok-cycles.was (next_late _ _ _ h _ _ (sym c.timed_out.ensures ∙ c.if-timed_out.false)) in
    wait_unread poll c.read-in-loop-awaited.ensures (rw c.polled_register.ensures) c.in_err-word.was c.from_residual-in_err-word.ensures

pub loop-awaited-smaller : goal.loop-awaited-smaller
loop-awaited-smaller c =
    let g = read_less c.read.ensures c.in_ok-cycles.was in
    let k = read_less c.read-in-loop-awaited.ensures c.in_ok-word.was in
    omega arith

pub loop-awaited-preserved : goal.loop-awaited-preserved
loop-awaited-preserved c h =
    let late = to_late _ _ h _ _ (c.loop-awaited.invariant h) (sym c.wait_over.ensures ∙ c.loop-awaited-test.true) (sym c.poll_error.ensures ∙ c.in_default.is) in
    let poll = read_step late c.read.ensures refl refl c.in_ok-cycles.was (next_late _ _ _ h _ _ (sym c.timed_out.ensures ∙ c.if-timed_out.false)) in
    poll_step poll c.polled_register.ensures c.read-in-loop-awaited.ensures c.in_ok-word.was

pub returns : goal.returns
returns c h = waits_well (to_end _ _ h _ _ (c.loop-awaited.invariant h) (sym c.wait_over.ensures ∙ c.loop-awaited-test.false))
