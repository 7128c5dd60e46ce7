use Rattle.std.proofs.Common.{◌≡◌, ◌+◌, ◌*◌, ◌≤◌, length}
use Rattle.buslist.specs.Table.{operations, operation_at, operation_count, data_bytes}
use Rattle.buslist.specs.Form.{operations_right}
use Rattle.buslist.specs.Entries.{entries_left}
use Rattle.form.proofs.operations_right.Given as goal

-- all operations are right where those left are, after the sum
abbrev pub invariant-loop-o : goal.invariant-loop-o
invariant-loop-o l =
    let left = entries_left operation_at l.o-iterator.list.now l.o-iterator.left in
    record {
      can : (goal.iterator-loop-o).can_next l.o-iterator × (goal.iterator-loop-o).is_finite l.o-iterator;
      small : l.sum + 4294967295 * length left ≤ 4294967295 * operation_count l.list;
      right : operations_right (data_bytes l.list) 0 (operations l.list) ≡ operations_right (data_bytes l.list) l.sum left;
    }
