use Rattle.std.proofs.Common.{rules, tests, ◌∙◌, arith}
use Rattle.std.proofs.lemmas.Iterator.{YieldsList-from_map}
use Rattle.std.proofs.lemmas.Iterator.Adapters.{fits_from_length, at_most_from_yields_List}
use Rattle.std.proofs.lemmas.Iterator.Consumers.{YieldsList-from_first, sum_by_from_yields_List}
use Rattle.buslist.specs.Table.{operation_at, operation_count, operations}
use Rattle.buslist.specs.Entries.{entries_left}
use Rattle.buslist.specs.Refusal.{received}
use Rattle.buslist.proofs.Walk.{length-entries}
use Rattle.acceptance.proofs.Chains.{all_received_summed}
use Rattle.acceptance.proofs.all_received.Goals as goal

pub sum-requires-clause-fits : goal.sum-requires-clause-fits
sum-requires-clause-fits c =
    let l = c.args.list.now in
    fits_from_length _ _ 4294967295 _
    (at_most_from_yields_List {all = operations l} (YieldsList-from_first (λ x. x) (λ s. entries_left operation_at s.list.now s.left) {s = c.map.result.iter} _ (rw c.map.ensures.source c.operations.ensures.items))
    (omega (arith, length-entries (operation_at l) 0 (operation_count l), c.operations.ensures.few)))
    c.map.ensures.closure (omega arith) (λ x r q k. search (rules, tests))

pub returns : goal.returns
returns c =
    sum_by_from_yields_List received (operations c.args.list.now) _ _ c.sum.ensures.ran
    (YieldsList-from_map _ received (YieldsList-from_first (λ x. x) (λ s. entries_left operation_at s.list.now s.left) {s = c.map.result.iter} _ (rw c.map.ensures.source c.operations.ensures.items)) c.map.ensures.closure (λ x r q k. search (rules, tests)))
    ∙ all_received_summed _
