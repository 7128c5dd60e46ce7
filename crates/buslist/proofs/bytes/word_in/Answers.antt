use Rattle.std.proofs.Common.{arith}
use Rattle.buslist.proofs.Parts.{four_bytes}
use Rattle.buslist.proofs.bytes.word_in.Goals as goal

pub returns : goal.returns
returns c = omega (arith, c.from_le_bytes.ensures, four_bytes c.args.list.now c.args.i)
