use Rattle.std.proofs.Common.{refl}
use borrow.Author.Tests.{ne_eqb}
use Rattle.buslist.proofs.Walk.{one-direction, two_directions}
use Rattle.form.proofs.KindLaws.{kind_of_two}
use Rattle.form.proofs.operations_fit.Goals as goal

pub returns-in-PollingWrite : goal.returns-in-PollingWrite
returns-in-PollingWrite c = rw (kind_of_two _ c.in-PollingWrite.is refl, one-direction, c.is_write.ensures, c.operation_at-first.ensures)

pub returns-in-PollingRead : goal.returns-in-PollingRead
returns-in-PollingRead c = rw (kind_of_two _ c.in-PollingRead.is refl, one-direction, c.is_read.ensures, c.operation_at-first.ensures)

pub returns-then-c-eq2 : goal.returns-then-c-eq2
returns-then-c-eq2 c =
    rw (
      kind_of_two _ c.in-PollingWriteRead.is refl,
      two_directions,
      c.if-c-eq2.true,
      c.is_write-then-c-eq2.ensures,
      c.is_read-then-c-eq2.ensures,
      c.operation_at-first.ensures,
      c.operation_at.ensures,
    )

pub returns-else-c-eq2 : goal.returns-else-c-eq2
returns-else-c-eq2 c = rw (kind_of_two _ c.in-PollingWriteRead.is refl, two_directions, ne_eqb _ _ c.if-c-eq2.false)

pub returns-in-PollingTransaction : goal.returns-in-PollingTransaction
returns-in-PollingTransaction c = rw (kind_of_two _ c.in-PollingTransaction.is refl)
