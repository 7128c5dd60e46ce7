use Rattle.std.proofs.Common.{rules, refl, sym}
use Rattle.registers.specs.Machine.{Handler}
use Rattle.timed.proofs.Waiting.{by_parts}
use Rattle.timed.proofs.busy_wait_on.Goals as goal

pub returns : goal.returns
returns c =
    let log = sym (c.poll_on-waited.ensures Handler.ends).same.log in
    let rx = sym (c.poll_on-waited.ensures Handler.ends).same.rx in
    by_parts refl c.poll_on-waited.ensures (search rules) (search rules)
