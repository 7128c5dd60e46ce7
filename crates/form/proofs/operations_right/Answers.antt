use Rattle.std.proofs.Common.{◌≡◌, length, ap, sym, ◌∙◌, arith}
use Rattle.buslist.specs.Table.{operation_at, operation_count, operations}
use Rattle.buslist.specs.Form.{operations_right}
use Rattle.buslist.specs.Entries.{entries_left}
use Rattle.buslist.proofs.Walk.{length-entries, written_le}
use Rattle.form.proofs.operations_right.Goals as goal

pub loop-o-init : goal.loop-o-init
loop-o-init c =
    let s = c.into_iter-o-iterator in
    let l = c.args.list.now in
    let e : entries_left operation_at s.result.list.now s.result.left ≡ operations l = rw s.ensures.into_iter_gives c.operations-o-items.ensures.items in
    record { can = (tt, tt); small = rw e (omega (arith, length-entries (operation_at l) 0 (operation_count l))); right = rw e }

pub returns-then-not-operation_right : goal.returns-then-not-operation_right
unfolding operations_right
returns-then-not-operation_right c =
    let h = c.in-Some.ensures in
    sym (c.loop-o.invariant.right ∙ rw (h.steps, ← c.if-not-operation_right.ensures))

pub overflow_add-sum : goal.overflow_add-sum
overflow_add-sum c =
    let h = c.in-Some.ensures in
    omega (arith, ap length h.steps, c.loop-o.invariant.small, c.operations-o-items.ensures.few, c.written-sum.ensures, written_le c.in-Some.o)

pub loop-o-preserved : goal.loop-o-preserved
unfolding operations_right
loop-o-preserved c =
    let h = c.in-Some.ensures in
    record {
      can = (tt, tt);
      small = omega (arith, ap length h.steps, c.loop-o.invariant.small, c.written-sum.ensures, written_le c.in-Some.o);
      right = c.loop-o.invariant.right ∙ rw (h.steps, ← c.if-not-operation_right.ensures, ← c.written-sum.ensures);
    }

pub returns : goal.returns
unfolding operations_right
returns c =
    let h = c.in-None.ensures in
    sym (c.loop-o.invariant.right ∙ rw (h.steps.0, ← c.data_bytes.ensures))
