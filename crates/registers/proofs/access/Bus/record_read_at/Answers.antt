use Prim.Native.Nat.{ℕ, ◌+◌}
use native.Mathlib.Omega.{arith}
use mathlib.Core.Path.{◌≡◌, ap, refl}
use lib.ListN.{length, get_or}
use Rattle.registers.specs.Access.{cut}
use Rattle.registers.specs.Contract.{read_code, found_of}
use Rattle.registers.proofs.Laws.{length-store, read_done}
use Rattle.registers.proofs.access.Bus.record_read_at.Goals as goal

pub returns : goal.returns
returns c =
    let b = c.args.self.now.progress in
    let rs = c.args.self.now.readings.now in
    let l : length (c.put_entry.new.log) ≡ length c.args.self.now.log.now = rw (c.put_entry.ensures, length-store) in
    record {
      reads = record {
        code = c.requires.0;
        same = record { setup = refl; readings = refl; log = refl; rx = refl };
        is = ap found_of (read_done _ _ _ _ _ _ _ c.requires.0 (omega arith) (omega arith) c.cut-value.ensures c.put_entry.ensures);
      };
      word = let e : b.used + 0 ≡ b.used = omega arith in rw e c.cut-value.ensures;
      later = λ c' k. let e : b.used + 1 + k ≡ b.used + (k + 1) = omega arith in ap (λ (i : ℕ). cut (read_code c') (get_or rs i 0)) e;
      fits = λ n h. (omega (arith, h.0), rw l (omega (arith, h.1)));
    }
