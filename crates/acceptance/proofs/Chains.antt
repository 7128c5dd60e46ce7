-- What chains over the entries of a table answer, in the words of the specs.
-- Assumes nothing.
use Rattle.std.proofs.Common.{◌≡◌, List, [], ◌∷◌, Bool, refl, ◌∙◌}
use denote.Param.Members.{Mut}
use Rattle.std.specs.Fn.{Called}
use Rattle.std.specs.Iterator.{YieldsFirst, ChecksAny}
use Rattle.std.specs.List.{list_any, sum_by}
use Rattle.std.proofs.lemmas.Iterator.Consumers.{YieldsList-from_first}
use Rattle.std.proofs.lemmas.Iterator.Search.{any_from_yields_List}
use Rattle.std.proofs.lemmas.List.Sums.{sum_by-cons}
use Rattle.buslist.specs.declared.OperationEntry.{OperationEntry}
use Rattle.buslist.specs.Refusal.{any, received, all_received}

pub any_listed : {A : Type 0} (test : A → Bool) (xs : List A) → list_any test xs ≡ any test xs
unfolding any
any_listed test [] = refl
any_listed test (x ∷ xs) = rw (any_listed test xs)

-- `any` over an iterator that shows what it has left
pub any_left : {S A F : Type 0} (rest : S → List A) {g : Mut F (A × Unit {0}) Bool} (test : A → Bool) {s : S} {xs : List A} → rest s ≡ xs
    → (u : S) (f : F) (r : Bool) → ChecksAny (YieldsFirst rest) g s f r u → ((x : A) (b : Bool) (q : F) → Called g f (x, tt) b q → (q ≡ f) × (b ≡ test x))
    → r ≡ any test xs
any_left rest test {s} {xs} e u f r ran k =
    any_from_yields_List test u f r ran (YieldsList-from_first (λ x. x) rest {s = s} xs e) k ∙ any_listed test xs

pub all_received_summed : (os : List OperationEntry) → sum_by received os ≡ all_received os
unfolding all_received
all_received_summed [] = refl
all_received_summed (o ∷ os) = rw (sum_by-cons, all_received_summed os)
