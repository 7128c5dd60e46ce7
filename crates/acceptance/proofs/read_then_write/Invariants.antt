use Rattle.std.proofs.Common.{◌≡◌, false, map}
use Rattle.buslist.specs.Table.{operation_at, operations_of}
use Rattle.buslist.specs.Meaning.{operation_of}
use Rattle.buslist.specs.Entries.{entries_left}
use Rattle.buslist.proofs.Joining.{comes}
use Rattle.acceptance.proofs.read_then_write.Given as goal

-- what comes in all operations comes in those left, after what was read
abbrev pub invariant-loop-o : goal.invariant-loop-o
invariant-loop-o l =
    record {
      can : (goal.iterator-loop-o).can_next l.o-iterator × (goal.iterator-loop-o).is_finite l.o-iterator;
      left : comes false (map (operation_of l.list) (operations_of l.list l.fn.c)) ≡ comes l.read (map (operation_of l.list) (entries_left operation_at l.o-iterator.list.now l.o-iterator.left));
    }
