-- What the marks and cells of a roll say of its numbers.
use Rattle.std.proofs.Common.{◌≡◌, ℕ, zero, suc, ◌-◌, ◌<◌, ◌≤◌, min, Bool, true, false, cond, not, List, [], ◌∷◌, length, get_or, take, is_some, Some, None, vec_items, vec_len, sum_by, count_by, Option, Result, sym, refl, ap, ◌∙◌, subst, arith, length-take, MatchOption, MatchResult}
use lib.ListN.{length-map}
use Rattle.std.specs.Option.{ok_or}
use Rattle.std.specs.List.{position, position_or_len}
use Rattle.std.proofs.lemmas.Bool.{not-true, not-false}
use Rattle.std.proofs.lemmas.Grind.{common_steps}
use Rattle.std.proofs.lemmas.List.{get_or-map, get_or_past, get_or_default, get_or-take}
use Rattle.std.proofs.lemmas.List.Quantifiers.{position-Some}
use Rattle.std.proofs.lemmas.List.Sums.{sum_by-cons, count_by-le-length, fails_before_first}
use Rattle.model.specs.State.{Standing, outside, new, open_with, standing, is_open, open_count, stored, all_stored}
use Rattle.node.specs.Answers.{store}
use Rattle.node.specs.Stores.{Store}
use Rattle.node.specs.declared.node.Node.{Node}
use Rattle.places.specs.States.{State}
use Rattle.roll.specs.Links.{marks_open, Used}
use Rattle.roll.specs.Rolls.{standing_in, standing_of, standings, Rolled, rolled, Kept, Marked, OpenIn, NotOpen, CellLeft, NoCellLeft, Vacant, Openable, NotVacant}
use Rattle.roll.specs.declared.fault.DistrictFault.{DistrictFault}
use Rattle.roll.specs.declared.fault.DistrictFault.TheVariants.{NoUnusedCell}
use Rattle.roll.specs.declared.mark.Mark.{Mark}
use Rattle.roll.specs.declared.mark.Mark.TheVariants.{New, Open, Withdrawn}
use Rattle.roll.specs.declared.roll.Roll.{Roll}

-- equal tests count alike
pub alike : {a b : Bool} → a ≡ b → cond {A = ℕ} a 1 0 ≡ cond {A = ℕ} b 1 0
alike e = ap (λ t. cond {A = ℕ} t 1 0) e

module _ {P : Type 0} (reservoirs : P → List State) (cells : List (Option (Node P))) where
  pub standing_marked : (marks : List Mark) (k : ℕ) (m : Mark) → length marks ≡ 256 → Marked marks k m →
      standing (standings reservoirs cells marks) k ≡ standing_of reservoirs cells m
  standing_marked marks zero m e h = let z : ⊥ = omega (arith, h.from_one) in elim z [ ]
  standing_marked marks (suc j) m e h =
      let p : j ≡ suc j - 1 = omega arith in
      let l : j < length marks = omega (arith, h.to_last) in
      get_or-map (standing_of reservoirs cells) marks j New outside l
      ∙ ap (λ i. standing_of reservoirs cells (get_or marks i New)) p
      ∙ ap (standing_of reservoirs cells) h.is

  pub standing_outside : (marks : List Mark) (k : ℕ) → length marks ≡ 256 → (1 ≤ k → k ≤ 256 → ⊥) →
      standing (standings reservoirs cells marks) k ≡ outside
  standing_outside marks zero e h = refl
  standing_outside marks (suc j) e h =
      let l : length (standings reservoirs cells marks) ≤ j = simp length-map (grind arith) in
      get_or_past (standings reservoirs cells marks) j outside l

  -- an open number stands with the node of its cell
  pub standing_open : (marks : List Mark) (k i : ℕ) (d : Option (Node P)) (n : Node P) → length marks ≡ 256 → Marked marks k (Open i) → i < length cells →
      get_or cells i d ≡ Some n → standing (standings reservoirs cells marks) k ≡ open_with (store reservoirs n)
  standing_open marks k i d n e h l q =
      standing_marked marks k (Open i) e h ∙ ap (standing_in reservoirs) (get_or_default cells i None d l ∙ q)

  -- as many numbers stand open as marks are open
  open_in : (o : Option (Node P)) → is_some o ≡ true → is_open (standing_in reservoirs o) ≡ true
  open_in None e = e
  open_in (Some n) e = refl

  open_alike : (m : Mark) → ((i : ℕ) → m ≡ Open i → is_some (get_or cells i None) ≡ true) → is_open (standing_of reservoirs cells m) ≡ marks_open m
  open_alike New h = refl
  open_alike (Open i) h = open_in (get_or cells i None) (h i refl)
  open_alike Withdrawn h = refl

  pub open_marked : (marks : List Mark) → Used marks cells → open_count (standings reservoirs cells marks) ≡ count_by marks_open marks
  open_marked [] u = refl
  open_marked (m ∷ ms) u =
      let e = alike (open_alike m (λ i q. u zero i q)) in
      let h = open_marked ms (λ k. u (suc k)) in
      omega (arith, sum_by-cons (λ s. cond (is_open s) 1 0) (standing_of reservoirs cells m) (standings reservoirs cells ms), sum_by-cons (λ x. cond (marks_open x) 1 0) m ms)

  -- what is stored under all numbers, by their marks
  pub stored_by_marks : (marks : List Mark) → sum_by (λ m. stored (standing_of reservoirs cells m)) marks ≡ all_stored (standings reservoirs cells marks)
  stored_by_marks [] = refl
  stored_by_marks (m ∷ ms) =
      omega (
        arith,
        stored_by_marks ms,
        sum_by-cons (λ x. stored (standing_of reservoirs cells x)) m ms,
        sum_by-cons stored (standing_of reservoirs cells m) (standings reservoirs cells ms),
      )

-- a cell with a node is one of the cells
below : {N : Type 0} (cells : List (Option N)) (i : ℕ) → is_some (get_or cells i None) ≡ true → i < length cells
below [] i e = let z : ◌≡◌ {A = ℕ} 0 1 = cc in omega arith
below (x ∷ xs) zero e = omega arith
below (x ∷ xs) (suc i) e = let h = below xs i e in omega arith

pub marked_as : (marks : List Mark) (k : ℕ) (m n : Mark) → Marked marks k m → m ≡ n → Marked marks k n
marked_as marks k m n h e = record { from_one = h.from_one; to_last = h.to_last; is = h.is ∙ e }

-- of a roll: how a number stands by its mark, and where it is open
module _ {P : Type 0} (reservoirs : P → List State) (r : Roll P) (k : ℕ) where
  pub stands_by : (m n : Mark) → Marked r.marks k m → m ≡ n → standing (rolled reservoirs r).roll k ≡ standing_of reservoirs (vec_items r.cells) n
  stands_by m n h e = standing_marked reservoirs (vec_items r.cells) r.marks k n r.linked.numbers (marked_as r.marks k m n h e)

  pub is_open_in : (m : Mark) (i : ℕ) → Marked r.marks k m → m ≡ Open i → OpenIn r k i
  is_open_in m i h e =
      let marked = marked_as r.marks k m (Open i) h e in
      let used = r.linked.used (k - 1) i marked.is in
      record { marked = marked; within = omega (arith, below (vec_items r.cells) i used, r.cells.ok.0); used = used }

  node_in : (o : Option (Node P)) → is_some o ≡ true → (n : Store) × (standing_in reservoirs o ≡ open_with n)
  node_in None e = let z : ◌≡◌ {A = ℕ} 0 1 = cc in let f : ⊥ = omega arith in elim f [ ]
  node_in (Some n) e = (store reservoirs n, refl)

  pub stands_open : (i : ℕ) → OpenIn r k i → (n : Store) × (standing (rolled reservoirs r).roll k ≡ open_with n)
  stands_open i h =
      let s = node_in (get_or (vec_items r.cells) i None) h.used in
      (s.0, stands_by (Open i) (Open i) h.marked refl ∙ s.1)

-- the first n cells: all have a node, or one has none
pub all_used : {N : Type 0} (n : ℕ) (cells : List (Option N)) → ((k : ℕ) → k < min n (length cells) → is_some (get_or cells k None) ≡ true) →
    count_by is_some (take n cells) ≡ min n (length cells)
all_used zero cells h = omega arith
all_used (suc n) [] h = omega arith
all_used (suc n) (x ∷ xs) h =
    let f : zero < min (suc n) (suc (length xs)) = omega arith in
    let e = alike (h zero f) in
    let i = all_used n xs (λ k l. h (suc k) (omega arith)) in
    omega (arith, sum_by-cons (λ o. cond (is_some o) 1 0) x (take n xs))

at_most_one : (b : Bool) → cond b 1 0 ≤ 1
at_most_one true = omega arith
at_most_one false = omega arith

pub one_unused : {N : Type 0} (n : ℕ) (cells : List (Option N)) (i : ℕ) → i < n → i < length cells → is_some (get_or cells i None) ≡ false →
    count_by is_some (take n cells) < min n (length cells)
one_unused zero cells i l m e = let z : ⊥ = omega arith in elim z [ ]
one_unused (suc n) [] i l m e = let z : ⊥ = omega arith in elim z [ ]
one_unused (suc n) (x ∷ xs) zero l m e =
    let f = alike e in
    omega (arith, sum_by-cons (λ o. cond (is_some o) 1 0) x (take n xs), count_by-le-length is_some (take n xs), length-take n xs)
one_unused (suc n) (x ∷ xs) (suc i) l m e =
    let a : i < n = omega arith in
    let b : i < length xs = omega arith in
    let h = one_unused n xs i a b e in
    omega (arith, sum_by-cons (λ o. cond (is_some o) 1 0) x (take n xs), at_most_one (is_some x))

-- what is known of an option, at the result that it is made
pub ok_or_cases : {T E : Type 0} (o : Option T) (fault : E) (r : Result T E) (A : Type 0) (B : T → Type 0) (C : T → Type 0) (D : E → Type 0) →
    r ≡ ok_or o fault → MatchOption o A B → ((x : T) → B x → C x) → (A → D fault) → MatchResult r C D
ok_or_cases {T} {E} None fault r A B C D e h some none = let Q : Result T E → Type 0 = λ y. MatchResult y C D in subst Q (sym e) (none h)
ok_or_cases {T} {E} (Some x) fault r A B C D e h some none = let Q : Result T E → Type 0 = λ y. MatchResult y C D in subst Q (sym e) (some x h)

-- refusals by the standing
pub not_open_at : (s t : Standing) (fault : DistrictFault) → s ≡ t → NotOpen t fault → NotOpen s fault
not_open_at s t fault e h = let Q : Standing → Type 0 = λ x. NotOpen x fault in subst Q (sym e) h

pub not_vacant_at : (l : Rolled) (s t : Standing) (fault : DistrictFault) → s ≡ t → NotVacant l t fault → NotVacant l s fault
not_vacant_at l s t fault e h = let Q : Standing → Type 0 = λ x. NotVacant l x fault in subst Q (sym e) h

-- whether a cell is left, by the cells of a roll
module _ {P : Type 0} (reservoirs : P → List State) (r : Roll P) where
  pub a_cell_left : (i : ℕ) → i < 64 → i < vec_len r.cells → is_some (get_or (vec_items r.cells) i None) ≡ false → CellLeft (rolled reservoirs r)
  a_cell_left i h l e =
      let b : i < length (vec_items r.cells) = omega (arith, r.cells.ok.0) in
      omega (arith, one_unused 64 (vec_items r.cells) i h b e, open_marked reservoirs (vec_items r.cells) r.marks r.linked.used, r.linked.counted, r.cells.ok.0)

  pub no_cell_left : ((k : ℕ) → k < min 64 (vec_len r.cells) → is_some (get_or (vec_items r.cells) k None) ≡ true) → NoCellLeft (rolled reservoirs r)
  no_cell_left h =
      omega (
        arith,
        all_used 64 (vec_items r.cells) (λ k l. h k (omega (arith, r.cells.ok.0))),
        open_marked reservoirs (vec_items r.cells) r.marks r.linked.used,
        r.linked.counted,
        r.cells.ok.0,
      )

-- a number that is new, by what a search of the first 64 cells for one without a node finds
abbrev unused : {N : Type 0} → Option N → Bool
unused cell = not (is_some cell)

module _ {P : Type 0} (reservoirs : P → List State) (r : Roll P) (k : ℕ) (m : Marked r.marks k New) where
  abbrev first_cells : List (Option (Node P))
  first_cells = take 64 (vec_items r.cells)

  stands_new : standing (rolled reservoirs r).roll k ≡ new
  stands_new = stands_by reservoirs r k New New m refl

  cell_found : (i : ℕ) → Some i ≡ position unused first_cells → Vacant r k i × Openable (rolled reservoirs r) k
  cell_found i e =
      let p = position-Some unused first_cells i None (sym e) in
      let a : i < 64 = omega (arith, p.0, length-take 64 (vec_items r.cells)) in
      let b : i < vec_len r.cells = omega (arith, p.0, length-take 64 (vec_items r.cells), r.cells.ok.0) in
      let u = sym (ap is_some (get_or-take 64 (vec_items r.cells) i None a)) ∙ not-true _ p.1 in (
        record { marked = m; usable = a; within = b; unused = u },
        (stands_new, a_cell_left reservoirs r i a b u),
      )

  none_found : None ≡ position unused first_cells → NoCellLeft (rolled reservoirs r)
  none_found e =
      let past : length first_cells ≤ position_or_len unused first_cells = grind (arith, common_steps) in
      no_cell_left reservoirs r
      (λ j l. let a : j < 64 = omega arith in
      sym (ap is_some (get_or-take 64 (vec_items r.cells) j None a))
      ∙ not-false _ (fails_before_first unused first_cells j None (omega (arith, length-take 64 (vec_items r.cells), r.cells.ok.0))))

  found_by : (o : Option ℕ) → o ≡ position unused first_cells →
      MatchOption o (NoCellLeft (rolled reservoirs r)) (λ cell. Vacant r k cell × Openable (rolled reservoirs r) k)
  found_by None e = none_found e
  found_by (Some i) e = cell_found i e

  pub vacancy_found : (o : Option ℕ) (result : Result ℕ DistrictFault) → result ≡ ok_or o NoUnusedCell → o ≡ position unused first_cells →
      MatchResult result (λ cell. Vacant r k cell × Openable (rolled reservoirs r) k)
      (λ fault. NotVacant (rolled reservoirs r) (standing (rolled reservoirs r).roll k) fault)
  vacancy_found o result e f =
      ok_or_cases _ _ _ _ _ _ _ e (found_by o f) (λ cell h. h) (λ h. not_vacant_at (rolled reservoirs r) _ new _ stands_new (refl, h))

-- what every roll keeps
module _ {P : Type 0} (reservoirs : P → List State) (r : Roll P) where
  never_outside : (k : ℕ) (m : Mark) → Marked r.marks k m → standing (rolled reservoirs r).roll k ≡ outside → ⊥
  never_outside k New h e = let s = stands_by reservoirs r k New New h refl in let z : ◌≡◌ {A = ℕ} 0 1 = cc in omega arith
  never_outside k (Open i) h e = let s = stands_open reservoirs r k i (is_open_in reservoirs r k (Open i) i h refl) in let q = s.1 in let z : ◌≡◌ {A = ℕ} 0 1 = cc in omega arith
  never_outside k Withdrawn h e = let s = stands_by reservoirs r k Withdrawn Withdrawn h refl in let z : ◌≡◌ {A = ℕ} 0 1 = cc in omega arith

  pub kept_by : Kept (rolled reservoirs r)
  kept_by = record {
    numbers = simp length-map r.linked.numbers;
    stand = λ k one last. never_outside k (get_or r.marks (k - 1) New) (record { from_one = one; to_last = last; is = refl });
    cells = omega (arith, open_marked reservoirs (vec_items r.cells) r.marks r.linked.used, r.linked.counted, count_by-le-length is_some (take 64 (vec_items r.cells)), length-take 64 (vec_items r.cells), r.cells.ok.0);
  }
