use Rattle.std.proofs.Common.{◌≡◌, length, ap, sym, ◌∙◌, arith}
use Rattle.buslist.specs.Table.{call_at, call_count, calls}
use Rattle.buslist.specs.Form.{calls_right}
use Rattle.buslist.specs.Entries.{entries_left}
use Rattle.buslist.proofs.Walk.{length-entries}
use Rattle.form.proofs.calls_right.Goals as goal

pub loop-c-init : goal.loop-c-init
loop-c-init c =
    let s = c.into_iter-c-iterator in
    let l = c.args.list.now in
    let e : entries_left call_at s.result.list.now s.result.left ≡ calls l = rw s.ensures.into_iter_gives c.calls-c-items.ensures.items in
    record { can = (tt, tt); small = rw e (omega (arith, length-entries (call_at l) 0 (call_count l))); right = rw e }

pub returns-then-not-call_right : goal.returns-then-not-call_right
unfolding calls_right
returns-then-not-call_right c =
    let h = c.in-Some.ensures in
    sym (c.loop-c.invariant.right ∙ rw (h.steps, ← c.if-not-call_right.ensures))

pub loop-c-preserved : goal.loop-c-preserved
unfolding calls_right
loop-c-preserved c =
    let h = c.in-Some.ensures in
    record {
      can = (tt, tt);
      small = omega (arith, ap length h.steps, c.loop-c.invariant.small);
      right = c.loop-c.invariant.right ∙ rw (h.steps, ← c.if-not-call_right.ensures);
    }

pub returns : goal.returns
unfolding calls_right
returns c =
    let h = c.in-None.ensures in
    sym (c.loop-c.invariant.right ∙ rw (h.steps.0, ← c.operation_count.ensures))
