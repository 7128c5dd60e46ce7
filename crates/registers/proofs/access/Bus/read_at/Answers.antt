use native.Mathlib.Omega.{arith}
use mathlib.Core.Path.{ap, sym, ◌∙◌}
use borrow.Author.Tests.{leb-true, leb-false}
use Rattle.registers.specs.Contract.{found_of}
use Rattle.registers.proofs.Laws.{read-full, read_empty}
use Rattle.registers.proofs.Steps.{same_bus}
use Rattle.registers.proofs.access.Bus.read_at.Goals as goal

pub returns-then-is_full : goal.returns-then-is_full
returns-then-is_full c =
    record {
      code = c.requires;
      same = same_bus;
      is = ap found_of (sym (read-full _ _ _ _ _ (leb-true _ _ (sym c.is_full.ensures ∙ c.if-is_full.true))));
    }

pub returns-then-self : goal.returns-then-self
returns-then-self c =
    record {
      code = c.requires;
      same = same_bus;
      is = ap found_of (sym (read_empty _ _ _ _ _ (leb-false _ _ (sym c.is_full.ensures ∙ c.if-is_full.false)) c.if-self.true));
    }

pub record_read_at-requires : goal.record_read_at-requires
record_read_at-requires c =
    let h = leb-false _ _ (sym c.is_full.ensures ∙ c.if-is_full.false) in
    (c.requires, (omega (arith, c.if-self.false), omega (arith, h)))

pub returns : goal.returns
returns c = c.record_read_at.ensures.reads
