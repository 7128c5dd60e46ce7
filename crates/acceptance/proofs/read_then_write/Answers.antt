use Rattle.std.proofs.Common.{◌≡◌, Bool, true, false, cond, sym, ◌∙◌}
use Rattle.buslist.specs.Table.{operation_at, operations_of}
use Rattle.buslist.specs.Entries.{entries_left}
use Rattle.buslist.proofs.Joining.{comes, comes_combined, comes_entry}
use Rattle.acceptance.proofs.read_then_write.Goals as goal

-- a test that holds decides, and one that does not leaves it to the rest
decided : (t rest : Bool) → t ≡ true → cond t true rest ≡ true
decided t rest e = rw e

left : (t rest : Bool) → t ≡ false → cond t true rest ≡ rest
left t rest e = rw e

pub loop-o-init : goal.loop-o-init
loop-o-init c =
    let s = c.into_iter-o-iterator in
    let e : entries_left operation_at s.result.list.now s.result.left ≡ operations_of c.args.list.now c.args.c =
    rw s.ensures.into_iter_gives c.operations_of-o-items.ensures in
    record { can = (tt, tt); left = rw e }

pub returns-then-full-write : goal.returns-then-full-write
returns-then-full-write c =
    let h = c.in-Some.ensures in
    sym (comes_combined _ ∙ c.loop-o.invariant.left
    ∙ rw (h.steps, comes_entry, ← c.is_empty-full.ensures, ← c.is_write-write.ensures) (decided _ _ c.if-full-write.true))

pub loop-o-preserved : goal.loop-o-preserved
loop-o-preserved c =
    let h = c.in-Some.ensures in
    record {
      can = (tt, tt);
      left =
          c.loop-o.invariant.left
          ∙ rw (h.steps, comes_entry, ← c.is_empty-full.ensures, ← c.is_write-write.ensures) (left _ _ c.if-full-write.false);
    }

pub returns : goal.returns
unfolding comes
returns c =
    let h = c.in-None.ensures in
    sym (comes_combined _ ∙ c.loop-o.invariant.left ∙ rw h.steps.0)
