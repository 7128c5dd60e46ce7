use mathlib.Core.Path.{ap}
use Rattle.registers.proofs.Steps.{here, rewritten, call_step, call_stops, call_last, ends_well, write_does}
use Rattle.i2c.specs.Polling.{send_low_byte}
use Rattle.prepare.proofs.send_low_byte.Goals as goal

pub returns-in_default : goal.returns-in_default
returns-in_default c = ends_well (rewritten (ap send_low_byte c.in_default.is) here)

pub returns-in_err-check_until : goal.returns-in_err-check_until
returns-in_err-check_until c =
    call_stops c.check_until.ensures _ (rewritten (ap send_low_byte c.in-Ten.is) here) c.in_err-check_until.was c.from_residual.ensures

pub returns : goal.returns
returns c =
    call_last (call_step c.check_until.ensures _ (rewritten (ap send_low_byte c.in-Ten.is) here) c.in_ok-check_until.was) (write_does c.write.ensures)
