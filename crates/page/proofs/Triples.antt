-- A list of three by its places, as the whole grams of three loads.
use Rattle.std.proofs.Common.{◌≡◌, List, [], ◌∷◌, length, get_or, refl, arith}

pub three : {A : Type 0} (xs : List A) (d e f : A) → length xs ≡ 3 → ◌≡◌ {A = List A} (get_or xs 0 d ∷ get_or xs 1 e ∷ get_or xs 2 f ∷ []) xs
three [] d e f h = elim (let b : ⊥ = omega arith in b) [ ]
three (x ∷ []) d e f h = elim (let b : ⊥ = omega arith in b) [ ]
three (x ∷ y ∷ []) d e f h = elim (let b : ⊥ = omega arith in b) [ ]
three (x ∷ y ∷ z ∷ []) d e f h = refl
three (x ∷ y ∷ z ∷ w ∷ xs) d e f h = elim (let b : ⊥ = omega arith in b) [ ]
