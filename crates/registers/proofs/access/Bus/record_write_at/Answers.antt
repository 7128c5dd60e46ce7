use native.Mathlib.Omega.{arith}
use mathlib.Core.Path.{◌≡◌, refl}
use lib.ListN.{length}
use Rattle.registers.proofs.Laws.{length-store, write_done}
use Rattle.registers.proofs.access.Bus.record_write_at.Goals as goal

pub returns : goal.returns
returns c =
    let l : length (c.put_entry.new.log) ≡ length c.args.self.now.log.now = rw (c.put_entry.ensures, length-store) in
    record {
      writes = record {
        code = c.requires.0;
        same = record { setup = refl; readings = refl; log = refl; rx = refl };
        is = write_done _ _ _ _ _ _ _ c.requires.0 c.requires.1 c.put_entry.ensures;
      };
      later = λ c' k. refl;
      fits = λ n h. (omega (arith, h.0), rw l (omega (arith, h.1)));
    }
