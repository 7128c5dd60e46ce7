use Rattle.calls.proofs.CallLaws.{takes_listed, takes_joined}
use Rattle.calls.proofs.operation_from.Goals as goal

pub returns-then-call : goal.returns-then-call
returns-then-call c = takes_joined _ _ _ _ c.joined_at.result c.if-call.true c.joined_at.ensures

pub returns : goal.returns
returns c = takes_listed _ _ _ _ c.operation_at.result c.if-call.false c.requires.0 c.operation_at.ensures
