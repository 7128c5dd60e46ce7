use mathlib.Core.Path.{◌≡◌, refl}
use mathlib.Core.List.{[]}
use Rattle.units.specs.declared.Setup.{Setup}
use Rattle.i2c.specs.declared.Previous.{Previous}
use Rattle.blocking.specs.Blocking.{close_after}
use Rattle.registers.proofs.Steps.{here, ends_well, rewritten}
use Rattle.blocking.proofs.close_after.Goals as goal

-- after nothing or a read
stays_open : (s : Setup) (p : Previous) → (p ≡ Previous.Write → ⊥) → close_after s p ≡ []
unfolding close_after
stays_open s Previous.Nothing h = refl
stays_open s Previous.Write h = absurd (h refl)
stays_open s Previous.Read h = refl

pub returns-in-Write : goal.returns-in-Write
unfolding close_after
returns-in-Write c = rw c.in-Write.is c.close.ensures

pub returns-in_default : goal.returns-in_default
returns-in_default c = ends_well (rewritten (stays_open _ _ c.in_default.not-Write) here)
