use Rattle.std.proofs.Common.{◌+◌, ◌*◌}
use Rattle.buslist.specs.Table.{operation_at, operation_offset}
use Rattle.buslist.proofs.Parts.{low_byte, second_byte, high_half}
use Rattle.buslist.proofs.list.BusList.operation_at.Goals as goal

pub returns : goal.returns
unfolding operation_at
returns c =
    let l = c.self.inside.bytes.now in
    let at = operation_offset l + 8 * c.args.j in
    let s = c.self.invariant in
    rw (← c.self.view_is) (cc (s.starts_operations, low_byte l s.fits at, second_byte l s.fits at, high_half l s.fits at))
