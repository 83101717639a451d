-- Reading a list at any place.
use Rattle.std.proofs.Common.{ℕ, ◌<◌, ◌≤◌, List, length, get_or, ⊎_elim, arith}
use Rattle.std.proofs.lemmas.List.{get_or_past}
use Rattle.std.proofs.lemmas.Bool.{cases_lt}

-- what holds of each element of a list, and of a default, holds of what is read at any place
pub at_any_place : {X : Type 0} (P : X → Type 0) (xs : List X) (d : X) (n : ℕ) → length xs ≤ n → P d →
    ((i : ℕ) → i < n → P (get_or xs i d)) → (i : ℕ) → P (get_or xs i d)
at_any_place P xs d n all default h i =
    ⊎_elim (λ (within : i < n). h i within)
    (λ (past : n ≤ i). let l : length xs ≤ i = omega arith in rw (get_or_past xs i d l) default) (cases_lt i n)
