-- The operations that each kind has.
-- Assumes nothing.
use mathlib.Core.Path.{◌≡◌, refl}
use mathlib.Core.Logic.{◌⊎◌, ⊎_elim}
use mathlib.Core.List.{List, [], ◌∷◌}
use mathlib.Core.Bool.{Bool, true, or-false}
use Rattle.buslist.specs.declared.OperationEntry.{OperationEntry}
use Rattle.buslist.specs.declared.kind.Kind.{Kind}
use Rattle.buslist.specs.declared.kind.Kind.TheVariants.{PollingWrite, PollingRead, PollingWriteRead, PollingTransaction, BlockingWrite, BlockingRead, BlockingWriteRead, BlockingTransaction}
use Rattle.buslist.specs.Form.{has_directions, kind_right}
use Rattle.buslist.specs.Kind.{kind_number}

-- what the operations of a kind must be
abbrev fits_kind : Kind → List OperationEntry → Bool
fits_kind PollingWrite os = has_directions (0 ∷ []) os
fits_kind PollingRead os = has_directions (1 ∷ []) os
fits_kind PollingWriteRead os = has_directions (0 ∷ 1 ∷ []) os
fits_kind PollingTransaction os = true
fits_kind BlockingWrite os = has_directions (0 ∷ []) os
fits_kind BlockingRead os = has_directions (1 ∷ []) os
fits_kind BlockingWriteRead os = has_directions (0 ∷ 1 ∷ []) os
fits_kind BlockingTransaction os = true

-- `kind_right` asks that
kind_fits : (kind : Kind) (os : List OperationEntry) → kind_right (kind_number kind) os ≡ fits_kind kind os
unfolding kind_right
kind_fits PollingWrite os = simp or-false
kind_fits PollingRead os = simp or-false
kind_fits PollingWriteRead os = simp or-false
kind_fits PollingTransaction os = refl
kind_fits BlockingWrite os = simp or-false
kind_fits BlockingRead os = simp or-false
kind_fits BlockingWriteRead os = simp or-false
kind_fits BlockingTransaction os = refl

-- so it asks the same of two kinds that fit the same
pub kind_of_two : {k a b : Kind} (os : List OperationEntry) → (k ≡ a) ⊎ (k ≡ b) → fits_kind a os ≡ fits_kind b os → kind_right (kind_number k) os ≡ fits_kind a os
kind_of_two {k} {a} {b} os e s = ⊎_elim (λ (p : k ≡ a). rw p (kind_fits a os)) (λ (p : k ≡ b). rw (p, s) (kind_fits b os)) e
