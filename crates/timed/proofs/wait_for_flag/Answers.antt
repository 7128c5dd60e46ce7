use Rattle.std.proofs.Common.{arith}
use Rattle.timed.proofs.Mask.{flag_tested, waited_low}
use Rattle.timed.proofs.wait_for_flag.Goals as goal

pub overflow_add-result : goal.overflow_add-result
overflow_add-result c = omega (arith, (waited_low c.args.flag c.requires).small)

pub returns : goal.returns
returns c source = flag_tested (waited_low _ c.requires) _ source
