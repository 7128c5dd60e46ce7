use Rattle.std.proofs.Common.{◌+◌, ◌*◌}
use native.Mathlib.Nat.{add_assoc}
use Rattle.buslist.specs.Table.{call_at, call_offset}
use Rattle.buslist.proofs.Parts.{low_byte, second_byte, low_half, high_half}
use Rattle.buslist.proofs.list.BusList.call_at.Goals as goal

pub returns : goal.returns
unfolding call_at
returns c =
    let l = c.self.inside.bytes.now in
    let at = call_offset l + 8 * c.args.k in
    let s = c.self.invariant in
    rw (← c.self.view_is)
    (cc (s.starts_calls, low_byte l s.fits at, second_byte l s.fits at, high_half l s.fits at, low_half l s.fits (at + 4), high_half l s.fits (at + 4), add_assoc at 4 2))
