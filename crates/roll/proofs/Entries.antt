-- The three changes of a roll: a number entered, its node stepped, and the number withdrawn.
use Rattle.std.proofs.Common.{◌≡◌, ℕ, zero, suc, ◌-◌, ◌<◌, ◌≤◌, false, cond, List, [], ◌∷◌, length, ◌++◌, get_or, take, drop, set, replicate, is_some, Some, None, Ok, Err, vec_items, vec_len, count_by, Option, sym, refl, ap, ◌∙◌, subst, arith, append-nil}
use lib.ListN.{length-replicate}
use Rattle.std.proofs.lemmas.List.{get_or-set_same, length-set, set-get_or, take_all, drop_all}
use Rattle.std.proofs.lemmas.List.Sums.{sum_by-cons}
use Rattle.ground.specs.declared.forcing.Forcing.{Forcing}
use Rattle.model.specs.State.{Standing, outside, open_with, withdrawn, standing, entered}
use Rattle.node.specs.Answers.{store, Steps}
use Rattle.node.specs.Stores.{Store}
use Rattle.node.specs.declared.answer.Yield.{Yield}
use Rattle.node.specs.declared.fault.StepFault.{StepFault}
use Rattle.node.specs.declared.node.Node.{Node}
use Rattle.places.specs.States.{State}
use Rattle.reservoir.specs.Meaning.{Make}
use Rattle.roll.specs.Links.{marks_open, Linked}
use Rattle.roll.specs.Rolls.{standing_in, standings, Rolled, with_standing, OpenIn, Vacant, StepsAt}
use Rattle.roll.specs.declared.fault.DistrictFault.TheVariants.{Step}
use Rattle.roll.specs.declared.mark.Mark.{Mark}
use Rattle.roll.specs.declared.mark.Mark.TheVariants.{New, Open, Withdrawn}
use Rattle.roll.specs.declared.roll.Roll.{Roll}
use Rattle.roll.proofs.Standings.{alike}
use Rattle.roll.proofs.Verdicts.{step_refused}
use Rattle.roll.proofs.Changes.{Change, usable_changed, used_changed, alone_changed, counted_changed, standings_changed}

module _ {P : Type 0} (r : Roll P) where
  abbrev items : List (Option (Node P))
  items = vec_items r.cells

  pub linked_changed : (j : ℕ) (m : Mark) (i : ℕ) (x : Option (Node P)) → Change r.marks items j m i x → Linked (set r.marks j m) (set items i x)
  linked_changed j m i x c = record {
    numbers = length-set r.marks j m ∙ r.linked.numbers;
    usable = usable_changed r.marks items j m i x c r.linked.usable;
    used = used_changed r.marks items j m i x c r.linked.used;
    alone = alone_changed r.marks items j m i x c r.linked.alone;
    counted = counted_changed r.marks items j m i x c r.linked.counted;
  }

  within_items : (i : ℕ) → i < vec_len r.cells → i < length items
  within_items i h = omega (arith, r.cells.ok.0)

  pub entering : (k i : ℕ) (n : Node P) → Vacant r k i → Change r.marks items (k - 1) (Open i) i (Some n)
  entering k i n h = record {
    in_marks = omega (arith, h.marked.from_one, h.marked.to_last, r.linked.numbers);
    in_cells = within_items i h.within;
    usable = h.usable;
    others = λ j ne e. let t = sym (r.linked.used j i e) ∙ h.unused in let z : ◌≡◌ {A = ℕ} 0 1 = cc in omega arith;
    own = λ l e. cc;
    before = ap marks_open h.marked.is ∙ sym h.unused;
    after = refl;
  }

  -- in the cell of the number k there may be another node, or none
  module _ (k i : ℕ) (h : OpenIn r k i) where
    pub no_other : (j : ℕ) → (j ≡ k - 1 → ⊥) → get_or r.marks j New ≡ Open i → ⊥
    no_other j ne e = ne (r.linked.alone (k - 1) j (i, (h.marked.is, e)))

    place_in_marks : k - 1 < length r.marks
    place_in_marks = omega (arith, h.marked.from_one, h.marked.to_last, r.linked.numbers)

    pub stepping : (n : Node P) → Change r.marks items (k - 1) (Open i) i (Some n)
    stepping n = record {
      in_marks = place_in_marks;
      in_cells = within_items i h.within;
      usable = r.linked.usable (k - 1) i h.marked.is;
      others = no_other;
      own = λ l e. cc;
      before = ap marks_open h.marked.is ∙ sym h.used;
      after = refl;
    }

    pub withdrawing : (x : Option (Node P)) → x ≡ None → Change r.marks items (k - 1) Withdrawn i x
    withdrawing x e = record {
      in_marks = place_in_marks;
      in_cells = within_items i h.within;
      usable = r.linked.usable (k - 1) i h.marked.is;
      others = no_other;
      own = λ l e. let z : ◌≡◌ {A = ℕ} 0 1 = cc in let f : ⊥ = omega arith in elim f [ ];
      before = ap marks_open h.marked.is ∙ sym h.used;
      after = ap is_some (sym e);
    }

    same_marks : set r.marks (k - 1) (Open i) ≡ r.marks
    same_marks = ap (set r.marks (k - 1)) (sym h.marked.is) ∙ set-get_or r.marks (k - 1) New

    pub linked_stepped : (n : Node P) → Linked r.marks (set items i (Some n))
    linked_stepped n =
        let Q : List Mark → Type 0 = λ ms. Linked ms (set items i (Some n)) in
        subst Q same_marks (linked_changed (k - 1) (Open i) i (Some n) (stepping n))

-- what the roll then says
module _ {P : Type 0} (reservoirs : P → List State) (r : Roll P) where
  node_there : (i : ℕ) (n : Node P) → i < length (items r) → standing_in reservoirs (get_or (set (items r) i (Some n)) i None) ≡ open_with (store reservoirs n)
  node_there i n h = ap (standing_in reservoirs) (get_or-set_same (items r) i (Some n) None h)

  pub entered_as : (k i : ℕ) (n : Node P) → Vacant r k i →
      standings reservoirs (set (items r) i (Some n)) (set r.marks (k - 1) (Open i))
      ≡ set (standings reservoirs (items r) r.marks) (k - 1) (open_with (store reservoirs n))
  entered_as k i n h =
      let c = entering r k i n h in
      standings_changed reservoirs r.marks (items r) (k - 1) (Open i) i (Some n) c
      ∙ ap (set (standings reservoirs (items r) r.marks) (k - 1)) (node_there i n c.in_cells)

  pub stepped_as : (k i : ℕ) (n : Node P) → OpenIn r k i →
      standings reservoirs (set (items r) i (Some n)) r.marks
      ≡ set (standings reservoirs (items r) r.marks) (k - 1) (open_with (store reservoirs n))
  stepped_as k i n h =
      let c = stepping r k i h n in
      ap (standings reservoirs (set (items r) i (Some n))) (sym (same_marks r k i h))
      ∙ standings_changed reservoirs r.marks (items r) (k - 1) (Open i) i (Some n) c
      ∙ ap (set (standings reservoirs (items r) r.marks) (k - 1)) (node_there i n c.in_cells)

  pub withdrawn_as : (k i : ℕ) (x : Option (Node P)) → OpenIn r k i → x ≡ None →
      standings reservoirs (set (items r) i x) (set r.marks (k - 1) Withdrawn)
      ≡ set (standings reservoirs (items r) r.marks) (k - 1) withdrawn
  withdrawn_as k i x h e = standings_changed reservoirs r.marks (items r) (k - 1) Withdrawn i x (withdrawing r k i h x e)

-- a changed list of standings makes the whole roll's
pub as_rolled : (cells : ℕ) (a b : List Standing) → a ≡ b → ◌≡◌ {A = Rolled} (record { roll = a; cells = cells }) (record { roll = b; cells = cells })
as_rolled cells a b e = cc

-- a number entered as it stands
same_entered : (roll : List Standing) (k : ℕ) (s : Standing) → 1 ≤ k → standing roll k ≡ s → entered roll k s ≡ roll
same_entered roll zero s l e = let z : ⊥ = omega arith in elim z [ ]
same_entered roll (suc j) s l e =
    let p : suc j - 1 ≡ j = omega arith in
    ap (λ i. set roll i s) p ∙ ap (set roll j) (sym e) ∙ set-get_or roll j outside

-- a step of a number that stands with the node n, by what the node answers and leaves
module _ (makes : List Make) (l m : Rolled) (k : ℕ) (f : Forcing) (n after : Store) (e : standing l.roll k ≡ open_with n)
    (q : m ≡ with_standing l k (open_with after)) where
  pub step_accepted : (y : Yield) → Steps makes n f (Ok y) after → StepsAt makes (standing l.roll k) l k f (Ok y) m
  step_accepted y h =
      let Q : Standing → Type 0 = λ s. StepsAt makes s l k f (Ok y) m in
      subst Q (sym e) (h.answer, q ∙ ap (λ s. with_standing l k (open_with s)) h.leaves)

  pub step_refuses : (fault : StepFault) → 1 ≤ k → Steps makes n f (Err fault) after → StepsAt makes (standing l.roll k) l k f (Err (Step fault)) m
  step_refuses fault one h =
      let Q : Standing → Type 0 = λ s. StepsAt makes s l k f (Err (Step fault)) m in
      let r = step_refused makes n after f fault h in
      subst Q (sym e)
      (r.0, q ∙ as_rolled l.cells _ _ (ap (λ s. entered l.roll k (open_with s)) r.1 ∙ same_entered l.roll k (open_with n) one e))

-- as many elements written over the first of a list leave none of it
pub written_whole : {N : Type 0} (xs ys : List N) (n : ℕ) → length xs ≡ n → length ys ≡ n → take n (xs ++ drop (length xs) ys) ≡ xs
written_whole xs ys n e f =
    ap (λ zs. take n (xs ++ zs)) (drop_all (length xs) ys (omega arith)) ∙ ap (take n) (append-nil xs) ∙ take_all n xs (omega arith)

-- A new roll: no number is open, and no cell has a node.
new_mark : (n k : ℕ) → get_or (replicate n New) k New ≡ New
new_mark zero k = refl
new_mark (suc n) zero = refl
new_mark (suc n) (suc k) = new_mark n k

none_open : (n k i : ℕ) → get_or (replicate n New) k New ≡ Open i → ⊥
none_open n k i e = let h = new_mark n k in let z : ◌≡◌ {A = ℕ} 0 1 = cc in omega arith

none_counted : (n : ℕ) → count_by marks_open (replicate n New) ≡ 0
none_counted zero = refl
none_counted (suc n) = omega (arith, sum_by-cons (λ m. cond {A = ℕ} (marks_open m) 1 0) New (replicate n New), none_counted n)

none_used : {N : Type 0} (n : ℕ) (cells : List (Option N)) → ((k : ℕ) → k < length cells → is_some (get_or cells k None) ≡ false) → count_by is_some (take n cells) ≡ 0
none_used zero cells h = refl
none_used (suc n) [] h = refl
none_used (suc n) (x ∷ xs) h =
    let e = alike (h zero (omega arith)) in
    let i = none_used n xs (λ k l. h (suc k) (omega arith)) in
    omega (arith, sum_by-cons (λ o. cond {A = ℕ} (is_some o) 1 0) x (take n xs))

pub linked_new : {N : Type 0} (cells : List (Option N)) → ((k : ℕ) → k < length cells → is_some (get_or cells k None) ≡ false) → Linked (replicate 256 New) cells
linked_new cells h = record {
  numbers = length-replicate 256 New;
  usable = λ k i e. elim (none_open 256 k i e) [ ];
  used = λ k i e. elim (none_open 256 k i e) [ ];
  alone = λ k j p. elim (none_open 256 k p.0 p.1.0) [ ];
  counted = none_counted 256 ∙ sym (none_used 64 cells h);
}
