use Rattle.std.proofs.Common.{sym, arith}
use Rattle.buslist.specs.Bytes.{half}
use Rattle.buslist.proofs.Walk.{half_past}
use Rattle.buslist.proofs.bytes.half_at.Goals as goal

pub returns-then-list-i : goal.returns-then-list-i
returns-then-list-i c = sym (half_past _ _ c.if-list-i.true)

pub returns : goal.returns
unfolding half
returns c = omega (arith, c.from_le_bytes.ensures, c.byte_at.ensures, c.byte_at-2.ensures)
