use mathlib.Core.Path.{sym, ◌∙◌}
use Rattle.calls.proofs.CallLaws.{a_write, not_a_write}
use Rattle.calls.proofs.blocking_operation.Goals as goal

pub returns-then-is_write : goal.returns-then-is_write
returns-then-is_write c = rw (a_write c.args.list.now c.args.o (sym c.is_write.ensures ∙ c.if-is_write.true), ← c.bytes_of.ensures) c.write_without_stop.ensures

pub returns : goal.returns
returns c = rw (not_a_write c.args.list.now c.args.o (sym c.is_write.ensures ∙ c.if-is_write.false)) c.read.ensures
