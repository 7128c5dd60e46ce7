use Rattle.std.proofs.Common.{length, arith, ap}
use Rattle.buslist.proofs.Walk.{entries_taken, entries_spent}
use Rattle.buslist.proofs.entries.EntriesIterator.next.Goals as goal

pub returns-in_err-number-clause-steps : goal.returns-in_err-number-clause-steps
returns-in_err-number-clause-steps g c =
    let h = c.in_err-number.ensures.steps in
    rw c.from_residual.ensures (entries_spent _ _ _ h.1.0, entries_spent _ _ _ (omega (arith, h.0, h.1.0, h.1.1)))

pub returns-clause-steps : goal.returns-clause-steps
returns-clause-steps g c = let h = c.in_ok-number.ensures.steps in entries_taken _ _ _ _ _ h.1.0 h.1.2 h.0 (rw h.1.1 at c.read.ensures)

pub returns-clause-goes : goal.returns-clause-goes
returns-clause-goes g c =
    let h = c.in_ok-number.ensures.steps in
    let s = c.args.self.now in
    let l = ap length (entries_taken (g.E.Entry.at s.list.now) _ _ _ _ h.1.0 h.1.2 h.0 (rw h.1.1 at c.read.ensures)) in
    record { on = λ f. (tt, f, omega (arith, l)); keeps = tt; rests = λ f. tt }
