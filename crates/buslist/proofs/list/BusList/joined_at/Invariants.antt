use Rattle.std.proofs.Common.{ℕ, ◌≡◌}
use Rattle.buslist.specs.Refusal.{refusal}
use Rattle.buslist.proofs.Joining.{Joining, with_length}
use Rattle.buslist.proofs.list.BusList.joined_at.Given as goal

-- what was joined so far is one operation, the first one with a length of its own, with the next ones
abbrev pub invariant-loop-next : goal.invariant-loop-next
invariant-loop-next l =
    record {
      kept : l.operation ≡ with_length l.first l.operation.length;
      joining : (rx : ℕ) (ok : refusal l.self rx ≡ 0) → Joining l.self rx ok l.j l.end l.first l.operation.length l.next;
    }
