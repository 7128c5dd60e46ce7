use Rattle.std.proofs.Common.{sym, refl, ◌∙◌}
use Rattle.registers.proofs.Steps.{here, read_step, waits_well}
use Rattle.timed.proofs.Waiting.{next_timed, to_end, poll_step, wait_unread, waits_by_parts}
use Rattle.timed.proofs.busy_wait.Goals as goal

pub returns-in_err-start : goal.returns-in_err-start
returns-in_err-start c h = wait_unread here c.read.ensures refl c.in_err-start.was c.from_residual.ensures

pub returns-in_err-word : goal.returns-in_err-word
returns-in_err-word c h =
    let first = read_step here c.read.ensures refl refl c.in_ok-start.was (next_timed _ _ _ h _) in
    wait_unread first c.read-2.ensures (rw c.polled_register.ensures) c.in_err-word.was c.from_residual-in_err-word.ensures

pub returns-then-wait_over : goal.returns-then-wait_over
returns-then-wait_over c h =
    let first = read_step here c.read.ensures refl refl c.in_ok-start.was (next_timed _ _ _ h _) in
    let polled = poll_step first c.polled_register.ensures c.read-2.ensures c.in_ok-word.was in
    waits_well (to_end _ _ h _ _ polled (sym c.wait_over.ensures ∙ c.if-wait_over.true))

pub returns : goal.returns
returns c h =
    let first = read_step here c.read.ensures refl refl c.in_ok-start.was (next_timed _ _ _ h _) in
    let polled = poll_step first c.polled_register.ensures c.read-2.ensures c.in_ok-word.was in
    waits_by_parts polled (record { setup = refl; readings = refl; log = refl; rx = refl }) c.busy_wait_on-waited.ensures
