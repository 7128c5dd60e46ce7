use native.Mathlib.Omega.{arith}
use mathlib.Core.Path.{sym, ◌∙◌}
use Rattle.registers.proofs.BitLaws.{with_none, with_on, with_off}
use Rattle.registers.proofs.with_bit.Goals as goal

pub returns-then-weight-eq0 : goal.returns-then-weight-eq0
returns-then-weight-eq0 c = (with_none _ _ c.if-weight-eq0.true, omega arith)

pub returns-then-has : goal.returns-then-has
returns-then-has c = (with_on _ _ (sym c.has.ensures ∙ c.if-has.true), omega arith)

pub returns-else-has : goal.returns-else-has
returns-else-has c = (with_off _ _ (sym c.has.ensures ∙ c.if-has.false), omega arith)
