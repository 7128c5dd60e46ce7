use native.Mathlib.Omega.{arith}
use mathlib.Core.Path.{sym, ◌∙◌}
use Rattle.registers.proofs.BitLaws.{without_none, without_on, without_off, on_le}
use Rattle.registers.proofs.without_bit.Goals as goal

pub returns-then-weight-eq0 : goal.returns-then-weight-eq0
returns-then-weight-eq0 c = without_none _ _ c.if-weight-eq0.true

pub overflow_sub-result : goal.overflow_sub-result
overflow_sub-result c = on_le _ _ (omega arith) (sym c.has.ensures ∙ c.if-has.true)

pub returns-then-has : goal.returns-then-has
returns-then-has c = without_on _ _ (sym c.has.ensures ∙ c.if-has.true)

pub returns-else-has : goal.returns-else-has
returns-else-has c = without_off _ _ (sym c.has.ensures ∙ c.if-has.false)
