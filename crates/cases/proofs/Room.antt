-- What is left out for want of room.
use Rattle.std.proofs.Common.{◌≡◌, ℕ, zero, suc, ◌≤◌, List, [], ◌∷◌, ◌++◌, take, replicate, refl, sym, ap, ◌∙◌, arith}
use Rattle.std.proofs.lemmas.List.{take-take, take-replicate}

-- what was left out already is left out all the same
pub take_again : {T : Type 0} → (c : ℕ) (xs ys : List T) → take c (take c xs ++ ys) ≡ take c (xs ++ ys)
take_again zero xs ys = refl
take_again (suc c) [] ys = refl
take_again (suc c) (x ∷ xs) ys = ap (λ l. x ∷ l) (take_again c xs ys)

-- no more is taken of what comes last than there is room for in all
pub take_last : {T : Type 0} → (c d : ℕ) (xs ys : List T) → c ≤ d → take c (xs ++ take d ys) ≡ take c (xs ++ ys)
take_last zero d xs ys h = refl
take_last (suc c) d [] ys h = take-take (suc c) d ys h
take_last (suc c) d (x ∷ xs) ys h = ap (λ l. x ∷ l) (take_last c d xs ys (omega arith))

-- as many times as there is room for come to the same as any number above
pub take_times : {T : Type 0} → (c n : ℕ) (xs : List T) (y : T) → c ≤ n → take c (xs ++ replicate c y) ≡ take c (xs ++ replicate n y)
take_times c n xs y h = ap (λ l. take c (xs ++ l)) (sym (take-replicate c n y h)) ∙ take_last c c xs (replicate n y) (omega arith)
