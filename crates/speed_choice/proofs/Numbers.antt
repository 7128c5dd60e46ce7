-- The numbers of an answer tell what it is. Assumes nothing.
use Prim.Native.Nat.{ℕ}
use native.Mathlib.Omega.{arith}
use mathlib.Core.Logic.{◌⊎◌, inl, inr}
use mathlib.Core.Path.{◌≡◌, refl, sym, ap, ◌∙◌}
use Rattle.std.specs.Prelude.{true, [], ◌∷◌, get_or, Result, Ok, Err}
use Rattle.units.specs.Speed.{mode_known, mode_of, mode_number}
use Rattle.units.proofs.Modes.{mode_back, number_known}
use Rattle.speed_choice.specs.declared.Choice.{Choice}
use Rattle.speed_choice.specs.declared.NoChoice.{NoChoice}
use Rattle.speed_choice.specs.declared.NoChoice.TheVariants.{Ceiling, NoneFits}
use Rattle.speed_choice.specs.Choice.{no_choice_number, numbers}

-- no reason has the number 0, and each has its own
not_zero : (reason : NoChoice) → 0 ≡ no_choice_number reason → ⊥
not_zero Ceiling e = omega (arith, e)
not_zero NoneFits e = omega (arith, e)

same_reason : (one other : NoChoice) → no_choice_number one ≡ no_choice_number other → one ≡ other
same_reason Ceiling Ceiling e = refl
same_reason Ceiling NoneFits e = absurd (omega (arith, e))
same_reason NoneFits Ceiling e = absurd (omega (arith, e))
same_reason NoneFits NoneFits e = refl

-- 0 stands beside the number of a mode and the field of a choice
pub choice_back : (r : Result Choice NoChoice) (mode field : ℕ) → 0 ∷ mode ∷ field ∷ [] ≡ numbers r
    → (r ≡ Ok record { mode = mode_of mode; field = field }) × (mode_known mode ≡ true)
choice_back (Ok c) mode field e =
    let number : mode ≡ mode_number c.mode = ap (λ l. get_or l 1 0) e in
    let mode_same : mode_of mode ≡ c.mode = ap mode_of number ∙ mode_back c.mode in
    let field_same : field ≡ c.field = ap (λ l. get_or l 2 0) e in
    (rw (mode_same, field_same) refl, ap mode_known number ∙ number_known c.mode)
choice_back (Err reason) mode field e = absurd (not_zero reason (ap (λ l. get_or l 0 0) e))

-- the numbers of a reason are of no other result
pub reason_back : (r : Result Choice NoChoice) (reason : NoChoice) → numbers (Err reason) ≡ numbers r → r ≡ Err reason
reason_back (Ok c) reason e = absurd (not_zero reason (sym (ap (λ l. get_or l 0 0) e)))
reason_back (Err other) reason e = ap Err (same_reason other reason (sym (ap (λ l. get_or l 0 0) e)))

-- the numbers are 0 and any two, or 22 or 28 and zeros
pub numbers_back : (r : Result Choice NoChoice) (answer mode field : ℕ) → answer ∷ mode ∷ field ∷ [] ≡ numbers r
    → (answer ≡ 0) ⊎ (((answer ≡ 22) ⊎ (answer ≡ 28)) × (mode ≡ 0) × (field ≡ 0))
numbers_back (Ok c) answer mode field e = inl (ap (λ l. get_or l 0 0) e)
numbers_back (Err Ceiling) answer mode field e = inr (inl (ap (λ l. get_or l 0 0) e), ap (λ l. get_or l 1 0) e, ap (λ l. get_or l 2 0) e)
numbers_back (Err NoneFits) answer mode field e = inr (inr (ap (λ l. get_or l 0 0) e), ap (λ l. get_or l 1 0) e, ap (λ l. get_or l 2 0) e)
