use Rattle.std.proofs.Common.{rules, tests}
use Rattle.buslist.specs.Table.{call_at}
use Rattle.buslist.specs.Entries.{entries_left}
use Rattle.buslist.specs.Refusal.{empty_blocking}
use Rattle.acceptance.proofs.Chains.{any_left}
use Rattle.acceptance.proofs.any_empty_blocking.Goals as goal

pub returns : goal.returns
returns c =
    any_left (λ s. entries_left call_at s.list.now s.left) (empty_blocking c.args.list.now) c.calls.ensures.items c.any.new.self _ _ c.any.ensures.ran (λ x b q k. search (rules, tests))
