use Rattle.checks.proofs.Flags.{flags_tested}
use Rattle.checks.proofs.no_error_flag.Goals as goal

pub returns : goal.returns
returns c = flags_tested _
