use Rattle.calls.proofs.CallLaws.{ends_fewer}
use Rattle.calls.proofs.run_calls.Goals as goal

pub returns-clause-fewer : goal.returns-clause-fewer
returns-clause-fewer c = ends_fewer c.run_on.ensures c.requires.1
