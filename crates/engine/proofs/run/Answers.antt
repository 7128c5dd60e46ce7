use Rattle.std.proofs.Common.{sym, ◌∙◌, arith}
use Rattle.acceptance.proofs.Causes.{cause_number-above}
use Rattle.engine.proofs.Result.{refused_meant}
use Rattle.engine.proofs.run.Goals as goal

pub returns-in-Err : goal.returns-in-Err
returns-in-Err c =
    let h = c.in-Err.ensures in
    rw (c.from.ensures ∙ h.number) (refused_meant _ _ _ _ (λ q. omega (arith, q, h.number, cause_number-above c.in-Err.cause)))

pub run_accepted-requires : goal.run_accepted-requires
run_accepted-requires c = let h = c.in-Ok.ensures in rw h.same (sym h.number)
