use Rattle.std.proofs.Common.{◌≡◌, ℕ, zero, suc, List, [], ◌∷◌, length, nat_eq, refl, sym}
use lib.Dec.{eqb-suc-zero}
use Rattle.buslist.specs.Meaning.{Operation, empty, operation_of}
use Rattle.buslist.proofs.list.BusList.is_empty.Goals as goal

no_bytes : (l : List ℕ) → nat_eq (length l) 0 ≡ empty (Operation.write l)
no_bytes [] = refl
no_bytes (b ∷ l) = eqb-suc-zero (length l)

no_reads : (n : ℕ) → nat_eq n 0 ≡ empty (Operation.read n)
no_reads zero = refl
no_reads (suc n) = eqb-suc-zero n

pub returns-then-is_write : goal.returns-then-is_write
unfolding operation_of
returns-then-is_write c =
    rw (sym c.if-is_write.ensures, ← c.bytes_of.ensures, c.is_empty.ensures) (no_bytes c.bytes_of.result.now)

pub returns-else-is_write : goal.returns-else-is_write
unfolding operation_of
returns-else-is_write c = rw (sym c.if-is_write.ensures) (no_reads c.args.o.length)
