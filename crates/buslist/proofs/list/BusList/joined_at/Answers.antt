use Rattle.std.proofs.Common.{◌≡◌, ◌+◌, refl, sym, ap, ◌∙◌, arith}
use Rattle.buslist.proofs.Accept.{limits, operation_length}
use Rattle.buslist.proofs.Joining.{with_length, joining_start, joining_next, joining_turns, joining_ends}
use Rattle.buslist.proofs.list.BusList.joined_at.Goals as goal

pub loop-next-init : goal.loop-next-init
loop-next-init c =
    let p = c.requires in
    record { kept = refl; joining = λ rx ok. joining_start _ rx ok _ _ _ c.operation_at-first.ensures p.0 p.1 }

pub overflow_add-operation : goal.overflow_add-operation
overflow_add-operation c =
    let p = c.requires in
    let ok = p.2.1 in
    let g = c.loop-next.invariant.joining _ ok in
    let h = ap (λ o. o.length) c.operation_at-o.ensures in
    omega (arith, h, g.some, g.most, g.short, p.1, (limits _ _ ok).most-operations, operation_length _ _ ok c.loop-next.next (omega (arith, c.loop-next-test.true)))

pub loop-next-preserved : goal.loop-next-preserved
loop-next-preserved c =
    let p = c.requires in
    record {
      kept = ap (λ o. with_length o (c.loop-next.operation.length + c.operation_at-o.result.length)) c.loop-next.invariant.kept;
      joining =
          λ rx ok. joining_next _ rx ok _ _ _ c.operation_at-first.ensures p.0 p.1 _ _ _ c.operation_at-o.ensures c.loop-next-test.true
          (sym c.joins.ensures ∙ c.if-not-joins.false) (c.loop-next.invariant.joining rx ok);
    }

pub returns : goal.returns
returns c =
    let p = c.requires in
    let ok = p.2.1 in
    let g = c.loop-next.invariant.joining _ ok in
    let e : c.loop-next.next ≡ c.args.end = omega (arith, c.loop-next-test.false, g.most) in
    rw c.loop-next.invariant.kept
    (rw e at (joining_ends _ _ ok _ _ _ c.operation_at-first.ensures p.0 p.1 _ _ c.loop-next-test.false g))

pub returns-then-not-joins : goal.returns-then-not-joins
returns-then-not-joins c =
    let p = c.requires in
    let ok = p.2.1 in
    rw c.loop-next.invariant.kept
    (joining_turns _ _ ok _ _ _ c.operation_at-first.ensures p.0 p.1 _ _ _ c.operation_at-o.ensures c.loop-next-test.true
    (sym c.joins.ensures ∙ c.if-not-joins.true) (c.loop-next.invariant.joining _ ok))
