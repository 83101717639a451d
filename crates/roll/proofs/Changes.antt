-- A roll with one mark and one cell changed.
use Rattle.std.proofs.Common.{◌≡◌, ℕ, zero, suc, ◌<◌, cond, ◌⊎◌, List, [], ◌∷◌, map, length, get_or, take, set, is_some, None, count_by, Option, sym, refl, ap, ◌∙◌, inl, inr, ⊎_elim, arith, length-take}
use lib.Seq.{take-set-lt}
use Rattle.std.proofs.lemmas.List.{get_or-set_same, get_or-set_other, get_or-take, map-set}
use Rattle.std.proofs.lemmas.List.Sums.{sum_by-set}
use Rattle.node.specs.declared.node.Node.{Node}
use Rattle.places.specs.States.{State}
use Rattle.roll.specs.Links.{marks_open, Usable, Used, Alone, Counted}
use Rattle.roll.specs.Rolls.{standing_in, standing_of, standings}
use Rattle.roll.specs.declared.mark.Mark.{Mark}
use Rattle.roll.specs.declared.mark.Mark.TheVariants.{New, Open, Withdrawn}
use Rattle.roll.proofs.Standings.{alike}

-- The mark at j becomes m and the cell i becomes x. No other number has that cell, and m has no other.
pub record Change {N : Type 0} (marks : List Mark) (cells : List (Option N)) (j : ℕ) (m : Mark) (i : ℕ) (x : Option N) : Type 0 where
  pub in_marks : j < length marks
  pub in_cells : i < length cells
  pub usable : i < 64
  pub others : (k : ℕ) → (k ≡ j → ⊥) → get_or marks k New ≡ Open i → ⊥
  pub own : (l : ℕ) → m ≡ Open l → l ≡ i
  pub before : marks_open (get_or marks j New) ≡ is_some (get_or cells i None)
  pub after : marks_open m ≡ is_some x

-- an open mark afterwards was there before, or is the new one
mark_set : (marks : List Mark) (j k l : ℕ) (m : Mark) → get_or (set marks j m) k New ≡ Open l →
    ((k ≡ j → ⊥) × (get_or marks k New ≡ Open l)) ⊎ ((k ≡ j) × (m ≡ Open l))
mark_set [] j k l m e = let z : ◌≡◌ {A = ℕ} 0 1 = cc in let f : ⊥ = omega arith in elim f [ ]
mark_set (y ∷ ys) zero zero l m e = inr (refl, e)
mark_set (y ∷ ys) zero (suc k) l m e = inl ((λ q. omega arith), e)
mark_set (y ∷ ys) (suc j) zero l m e = inl ((λ q. omega arith), e)
mark_set (y ∷ ys) (suc j) (suc k) l m e =
    ⊎_elim (λ p. inl ((λ q. p.0 (let z : k ≡ j = omega arith in z)), p.1)) (λ p. inr (ap suc p.0, p.1)) (mark_set ys j k l m e)

module _ {N : Type 0} (marks : List Mark) (cells : List (Option N)) (j : ℕ) (m : Mark) (i : ℕ) (x : Option N) (c : Change marks cells j m i x) where
  pub usable_changed : Usable marks → Usable (set marks j m)
  usable_changed u k l e =
      ⊎_elim (λ p. u k l p.1) (λ p. let q = c.own l p.1 in let r = c.usable in omega arith) (mark_set marks j k l m e)

  pub used_changed : Used marks cells → Used (set marks j m) (set cells i x)
  used_changed u k l e =
      ⊎_elim
      (λ p. ap is_some (get_or-set_other cells i l x None (λ q. c.others k p.0 (p.1 ∙ ap Open q))) ∙ u k l p.1)
      (λ p. ap (λ y. is_some (get_or (set cells i x) y None)) (c.own l p.1) ∙ ap is_some (get_or-set_same cells i x None c.in_cells)
      ∙ sym c.after ∙ ap marks_open p.1)
      (mark_set marks j k l m e)

  pub alone_changed : Alone marks → Alone (set marks j m)
  alone_changed a k l p =
      ⊎_elim
      (λ s. ⊎_elim (λ t. a k l (p.0, (s.1, t.1)))
      (λ t. elim (c.others k s.0 (s.1 ∙ ap Open (c.own p.0 t.1))) [ ]) (mark_set marks j l p.0 m p.1.1))
      (λ s. ⊎_elim (λ t. elim (c.others l t.0 (t.1 ∙ ap Open (c.own p.0 s.1))) [ ])
      (λ t. t.0 ∙ sym s.0) (mark_set marks j l p.0 m p.1.1))
      (mark_set marks j k p.0 m p.1.0)

  pub counted_changed : Counted marks cells → Counted (set marks j m) (set cells i x)
  counted_changed h =
      let f : Mark → ℕ = λ y. cond (marks_open y) 1 0 in
      let g : Option N → ℕ = λ o. cond (is_some o) 1 0 in
      let t : i < length (take 64 cells) = omega (arith, length-take 64 cells, c.in_cells, c.usable) in
      let a = sum_by-set f marks j m New c.in_marks in
      let b = sum_by-set g (take 64 cells) i x None t in
      let e = alike c.before in
      let e' = alike c.after in
      let d = ap g (get_or-take 64 cells i None c.usable) in
      let q = ap (count_by is_some) (take-set-lt 64 cells i x c.usable) in
      omega arith

-- two functions that agree everywhere but at j give the same list with another element there
agree : {X Y : Type 0} (f g : X → Y) (xs : List X) (d : X) → ((k : ℕ) → f (get_or xs k d) ≡ g (get_or xs k d)) → map f xs ≡ map g xs
agree f g [] d h = refl
agree f g (x ∷ xs) d h = let a = h zero in let b = agree f g xs d (λ k. h (suc k)) in cc

agree_but : {X Y : Type 0} (f g : X → Y) (xs : List X) (d : X) (j : ℕ) (y : Y) → ((k : ℕ) → (k ≡ j → ⊥) → f (get_or xs k d) ≡ g (get_or xs k d)) →
    set (map f xs) j y ≡ set (map g xs) j y
agree_but f g [] d j y h = refl
agree_but f g (x ∷ xs) d zero y h = ap (λ zs. y ∷ zs) (agree f g xs d (λ k. h (suc k) (λ q. omega arith)))
agree_but f g (x ∷ xs) d (suc j) y h =
    let a = h zero (λ q. omega arith) in
    let b = agree_but f g xs d j y (λ k n. h (suc k) (λ q. n (let z : k ≡ j = omega arith in z))) in cc

module _ {P : Type 0} (reservoirs : P → List State) (marks : List Mark) (cells : List (Option (Node P))) (j : ℕ) (m : Mark) (i : ℕ) (x : Option (Node P)) where
  same_standing : (y : Mark) → (y ≡ Open i → ⊥) → standing_of reservoirs (set cells i x) y ≡ standing_of reservoirs cells y
  same_standing New h = refl
  same_standing (Open l) h = ap (standing_in reservoirs) (get_or-set_other cells i l x None (λ q. h (ap Open q)))
  same_standing Withdrawn h = refl

  pub standings_changed : Change marks cells j m i x →
      standings reservoirs (set cells i x) (set marks j m) ≡ set (standings reservoirs cells marks) j (standing_of reservoirs (set cells i x) m)
  standings_changed c =
      map-set (standing_of reservoirs (set cells i x)) marks j m
      ∙ agree_but (standing_of reservoirs (set cells i x)) (standing_of reservoirs cells) marks New j (standing_of reservoirs (set cells i x) m)
      (λ k n. same_standing (get_or marks k New) (c.others k n))
