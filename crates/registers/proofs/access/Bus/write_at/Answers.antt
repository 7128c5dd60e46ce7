use mathlib.Core.Path.{sym, ◌∙◌}
use borrow.Author.Tests.{leb-true, leb-false}
use Rattle.registers.proofs.Laws.{write-full}
use Rattle.registers.proofs.Steps.{same_bus}
use Rattle.registers.proofs.access.Bus.write_at.Goals as goal

pub returns-then-is_full : goal.returns-then-is_full
returns-then-is_full c =
    record {
      code = c.requires;
      same = same_bus;
      is = sym (write-full _ _ _ _ _ _ (leb-true _ _ (sym c.is_full.ensures ∙ c.if-is_full.true)));
    }

pub record_write_at-requires : goal.record_write_at-requires
record_write_at-requires c = (c.requires, leb-false _ _ (sym c.is_full.ensures ∙ c.if-is_full.false))

pub returns : goal.returns
returns c = c.record_write_at.ensures.writes
