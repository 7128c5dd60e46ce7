use mathlib.Core.Path.{refl}
use Rattle.registers.specs.State.{received}
use Rattle.registers.proofs.access.Bus.take_byte.Goals as goal

pub returns : goal.returns
unfolding received
returns c =
    record {
      same = record { setup = refl; readings = refl; log = refl; rx = refl };
      is = rw c.put_byte.ensures;
    }
