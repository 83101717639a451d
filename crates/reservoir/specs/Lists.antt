-- Cells in lists that are joined and split: what they hold, emptying, and order.
use Rattle.std.specs.Prelude.{◌≡◌, ℕ, zero, suc, ◌+◌, ◌≤◌, List, [], ◌∷◌, ◌++◌, length, take, drop, replicate, slice_index, refl}
use Rattle.std.proofs.Common.{sym, ◌∙◌, ap, arith}
use Rattle.std.proofs.lemmas.List.{length-append, replicate-append-replicate, take-append-drop}
use Rattle.reservoir.specs.Cells.{held, emptied, AtMost}

pub held_zeros : (n : ℕ) → held (replicate n 0) ≡ 0
held_zeros zero = refl
held_zeros (suc n) = let h = held_zeros n in omega arith

pub held-++ : (c d : List ℕ) → held (c ++ d) ≡ held c + held d
held-++ [] d = omega arith
held-++ (x ∷ c) d = let h = held-++ c d in omega arith

pub held_split : (k : ℕ) (c : List ℕ) → held c ≡ held (take k c) + held (drop k c)
held_split k c = ap held (sym (take-append-drop k c)) ∙ held-++ (take k c) (drop k c)

pub emptied-++ : (c d : List ℕ) → emptied (c ++ d) ≡ emptied c ++ emptied d
emptied-++ c d =
    ap (λ n. replicate n 0) (length-append c d) ∙ sym (replicate-append-replicate (length c) (length d) 0)

pub held_emptied : (c : List ℕ) → held (emptied c) ≡ 0
held_emptied c = held_zeros (length c)

-- what joined cells hold, and how they are emptied
pub ruleset of_joined = (held-++, emptied-++, held_emptied)

pub at_most_take : (k : ℕ) (c d : List ℕ) → AtMost c d → AtMost (take k c) (take k d)
at_most_take zero c d h = tt
at_most_take (suc k) [] [] h = tt
at_most_take (suc k) [] (y ∷ d) h = h
at_most_take (suc k) (x ∷ c) [] h = h
at_most_take (suc k) (x ∷ c) (y ∷ d) h = (h.0, at_most_take k c d h.1)

pub at_most_drop : (k : ℕ) (c d : List ℕ) → AtMost c d → AtMost (drop k c) (drop k d)
at_most_drop zero c d h = h
at_most_drop (suc k) [] [] h = tt
at_most_drop (suc k) [] (y ∷ d) h = elim h [ ]
at_most_drop (suc k) (x ∷ c) [] h = elim h [ ]
at_most_drop (suc k) (x ∷ c) (y ∷ d) h = at_most_drop k c d h.1

pub at_most-++ : (c d e f : List ℕ) → AtMost c d → AtMost e f → AtMost (c ++ e) (d ++ f)
at_most-++ [] [] e f h k = k
at_most-++ [] (y ∷ d) e f h k = elim h [ ]
at_most-++ (x ∷ c) [] e f h k = elim h [ ]
at_most-++ (x ∷ c) (y ∷ d) e f h k = (h.0, at_most-++ c d e f h.1 k)

-- the first cells of two lists in order are in order
pub at_most_first : (c d : List ℕ) → AtMost c d → slice_index c 0 ≤ slice_index d 0
at_most_first [] [] h = omega arith
at_most_first [] (y ∷ d) h = elim h [ ]
at_most_first (x ∷ c) [] h = elim h [ ]
at_most_first (x ∷ c) (y ∷ d) h = h.0
