use Rattle.std.proofs.Common.{◌≡◌, ◌+◌, ◌*◌, ◌≤◌, length}
use Rattle.buslist.specs.Table.{calls, call_at, call_count}
use Rattle.buslist.specs.Form.{calls_right}
use Rattle.buslist.specs.Entries.{entries_left}
use Rattle.form.proofs.calls_right.Given as goal

-- all calls are right where those left are, after the sum
abbrev pub invariant-loop-c : goal.invariant-loop-c
invariant-loop-c l =
    let left = entries_left call_at l.c-iterator.list.now l.c-iterator.left in
    record {
      can : (goal.iterator-loop-c).can_next l.c-iterator × (goal.iterator-loop-c).is_finite l.c-iterator;
      small : l.sum + 65535 * length left ≤ 65535 * call_count l.list;
      right : calls_right l.list 0 (calls l.list) ≡ calls_right l.list l.sum left;
    }
