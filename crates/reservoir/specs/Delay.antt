-- A lag keeps a reservoir's meaning; and what its array of twelve holds.
use Rattle.std.specs.Prelude.{◌≡◌, ℕ, zero, suc, ◌+◌, ◌-◌, ◌<◌, ◌≤◌, List, [], ◌∷◌, ◌++◌, length, take, drop, replicate, slice_index, slice_index_or, slice_set, sum_by, refl}
use Rattle.std.proofs.Common.{sym, ◌∙◌, ap, arith}
use Rattle.std.proofs.lemmas.List.{length-append, length-drop, length_push, length-take-le, length-map, get_or-map, get_or-take, map_push, drop-map, take-replicate, map_more, take_more_set, take-append-le, drop-take}
use Rattle.std.proofs.lemmas.Grind.{common_steps}
use Rattle.std.proofs.lemmas.List.Recursion.{is_sum_by}
use Rattle.quantity.specs.declared.water.Centilitres.{Centilitres}
use Rattle.reservoir.specs.Cells.{capacity, held, volumes}
use Rattle.reservoir.specs.Meaning.{Meaning, Fits}
use Rattle.reservoir.specs.Makes.{lag, steps}
use Rattle.reservoir.specs.Lists.{held_zeros, held-++, held_split, at_most_first, at_most_drop, at_most-++}

length_moved : (c : List ℕ) (v : ℕ) → 1 ≤ length c → length (drop 1 c ++ v ∷ []) ≡ length c
length_moved c v h = omega (arith, length_push (drop 1 c) v, length-drop 1 c)

held_moved : (c : List ℕ) (v : ℕ) → 1 ≤ length c → held (drop 1 c ++ v ∷ []) + slice_index c 0 ≡ held c + v
held_moved [] v h = omega arith
held_moved (x ∷ c) v h = omega (arith, held-++ c (v ∷ []))

pub lag_meaning : Meaning lag
lag_meaning = record {
  keeps = λ s c v f r. let h : 1 ≤ length c = omega arith in length_moved c v h ∙ f.1;
  balance = λ s c v f r. let h : 1 ≤ length c = omega arith in held_moved c v h;
  more = λ s c d v w f g r q h k.
      (at_most_first c d h, at_most-++ (drop 1 c) (drop 1 d) (v ∷ []) (w ∷ []) (at_most_drop 1 c d h) (k, tt));
}

-- the first n of an array that is turned by one, with v put into the last of them
turned : {A : Type 0} (n : ℕ) (c : List A) (v : A) → 1 ≤ n → n ≤ length c →
    take n (slice_set (drop 1 c ++ take 1 c) (n - 1) v) ≡ drop 1 (take n c) ++ v ∷ []
turned n c v h k =
    let e : (n - 1) + 1 ≡ n = omega arith in
    let f : 1 + (n - 1) ≡ n = omega arith in
    let l = length-append (drop 1 c) (take 1 c) in
    let m = length-drop 1 c in
    let q : 1 ≤ length c = omega arith in
    let o = length-take-le 1 c q in
    let i : n - 1 < length (drop 1 c ++ take 1 c) = omega arith in
    let j : n - 1 ≤ length (drop 1 c) = omega arith in
    ap (λ q. take q (slice_set (drop 1 c ++ take 1 c) (n - 1) v)) (sym e)
    ∙ take_more_set (drop 1 c ++ take 1 c) (n - 1) v i
    ∙ ap (λ x. x ++ v ∷ []) (take-append-le (n - 1) (drop 1 c) (take 1 c) j ∙ sym (drop-take 1 (n - 1) c) ∙ ap (λ q. drop 1 (take q c)) f)

-- the used cells after a taking: r is the array c turned by one
pub moved : (n : ℕ) (c r : List Centilitres) (v : Centilitres) → 1 ≤ n → n ≤ length c → r ≡ drop 1 c ++ take 1 c →
    volumes (take n (slice_set r (n - 1) v)) ≡ drop 1 (volumes (take n c)) ++ v.0 ∷ []
moved n c r v h k e = rw e (grind (arith, common_steps, drop-take, map_push, drop-map))

pub moved_within : (n : ℕ) (c r : List Centilitres) (v : Centilitres) → 1 ≤ n → n ≤ length c → r ≡ drop 1 c ++ take 1 c →
    held (volumes (take n (slice_set r (n - 1) v))) ≤ held (volumes (take n c)) + v.0
moved_within n c r v h k e = grind (arith, moved n c r v h k e, held-++, held_split 1 (volumes (take n c)))

-- the oldest of the used cells is the first of the array
pub oldest : (n : ℕ) (c : List Centilitres) (d : Centilitres) → 1 ≤ n → n ≤ length c →
    (slice_index_or c 0 d).0 ≡ slice_index (volumes (take n c)) 0
oldest n c d h k =
    let l = length-take-le n c k in
    let i : 0 < length (take n c) = omega arith in
    ap (λ x. x.0) (sym (get_or-take n c 0 d h)) ∙ sym (get_or-map (λ x. x.0) (take n c) 0 d 0 i)

-- what a sum over the cells has at its cell i
pub held_more : (c : List Centilitres) (i : ℕ) (d : Centilitres) → i < length c →
    held (volumes (take (i + 1) c)) ≡ held (volumes (take i c)) + (slice_index_or c i d).0
held_more c i d h =
    let e = held-++ (volumes (take i c)) ((slice_index_or c i d).0 ∷ []) in
    ap held (map_more (λ x. x.0) c i d h) ∙ omega arith

-- no cell of the first n of c is passed over by a sum over fewer
pub held_fewer : (c : List Centilitres) (i n : ℕ) → i ≤ n → held (volumes (take i c)) ≤ held (volumes (take n c))
held_fewer c zero n h = omega arith
held_fewer c (suc i) zero h = let z : ⊥ = omega arith in elim z [ ]
held_fewer [] (suc i) (suc n) h = omega arith
held_fewer (x ∷ c) (suc i) (suc n) h = let l : i ≤ n = omega arith in let e = held_fewer c i n l in omega arith

-- what cells hold, as the library sums it
pub held_in_use : (c : List Centilitres) → held (volumes c) ≡ sum_by (λ volume. volume.0) c
held_in_use = is_sum_by (λ c. held (volumes c)) (λ volume. volume.0) refl (λ _ _. refl)

volumes_zeros : (n : ℕ) → volumes (replicate n (record { 0 = 0 })) ≡ replicate n 0
volumes_zeros zero = refl
volumes_zeros (suc n) = ap (λ xs. 0 ∷ xs) (volumes_zeros n)

-- the first n of twelve cells of 0
pub cleared : (n : ℕ) → n ≤ 12 → volumes (take n (replicate 12 (record { 0 = 0 }))) ≡ replicate n 0
cleared n h = ap volumes (take-replicate n 12 (record { 0 = 0 }) h) ∙ volumes_zeros n

-- such cells are within what a reservoir may hold
pub cleared_within : (n : ℕ) → n ≤ 12 → held (volumes (take n (replicate 12 (record { 0 = 0 })))) ≤ capacity
cleared_within n h = let e = ap held (cleared n h) in let f = held_zeros n in omega arith

-- as many cells as are in use
pub length_used : (n : ℕ) (c : List Centilitres) → n ≤ length c → length (volumes (take n c)) ≡ n
length_used n c h = length-map (take n c) (λ x. x.0) ∙ length-take-le n c h

pub lag_fits : (n : ℕ) (c : List Centilitres) → length c ≡ 12 → (1 ≤ n) × (n ≤ 12) → Fits lag (steps n) (volumes (take n c))
lag_fits n c twelve used = (used, length_used n c (omega arith))

-- what the first cells of the array hold when it is summed, cleared and turned
pub ruleset of_used = (held_in_use, cleared, held_zeros, moved)
