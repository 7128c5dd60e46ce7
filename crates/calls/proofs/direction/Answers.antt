use mathlib.Core.Path.{sym, ◌∙◌}
use Rattle.calls.proofs.CallLaws.{a_write, not_a_write}
use Rattle.calls.proofs.direction.Goals as goal

pub returns-then-is_write : goal.returns-then-is_write
returns-then-is_write c l = rw (a_write l c.args.o (sym c.is_write.ensures ∙ c.if-is_write.true))

pub returns : goal.returns
returns c l = rw (not_a_write l c.args.o (sym c.is_write.ensures ∙ c.if-is_write.false))
