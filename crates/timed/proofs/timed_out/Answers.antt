use Rattle.std.proofs.Common.{ap, arith, nat_le}
use Rattle.timed.proofs.Waiting.{since_is}
use Rattle.timed.proofs.timed_out.Goals as goal

pub returns : goal.returns
returns c = ap (λ n. nat_le c.args.limit.0 n) (since_is _ _ _ c.wrapping_sub_u32.ensures.value (omega arith) (omega arith))
