use Rattle.std.proofs.Common.{rules, tests}
use Rattle.buslist.specs.Table.{operation_at}
use Rattle.buslist.specs.Entries.{entries_left}
use Rattle.buslist.specs.Refusal.{too_long}
use Rattle.acceptance.proofs.Chains.{any_left}
use Rattle.acceptance.proofs.any_too_long.Goals as goal

pub returns : goal.returns
returns c =
    any_left (λ s. entries_left operation_at s.list.now s.left) too_long c.operations.ensures.items c.any.new.self _ _ c.any.ensures.ran (λ x b q k. search (rules, tests))
