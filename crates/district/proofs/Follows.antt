-- What the code of a call does is what the rules give.
use Rattle.std.proofs.Common.{◌≡◌, ℕ, suc, ◌+◌, ◌-◌, ◌^◌, ◌<◌, ◌≤◌, min, Bool, true, false, cond, ltb, leb, List, Ok, sym, ap, ◌∙◌, subst, ⊎_elim, arith}
use Rattle.std.proofs.lemmas.Bool.{cond-true, lt-ltb, le-leb, lt-leb, leb-true, cases_lt}
use Rattle.book.proofs.Totals.{opening_exact, step_exact, withdrawal_exact}
use Rattle.book.specs.Books.{opening_kept, step_kept, withdrawal_kept}
use Rattle.card.specs.declared.card.Card.{Card}
use Rattle.ground.specs.declared.forcing.Forcing.{Forcing}
use Rattle.model.specs.Calls.{Call, opening, stepping, withdrawing, looking, View, Answer, refused, granted, Done}
use Rattle.model.specs.Refusals.{Verdict, would_step, would_refuse, verdict, income_too_large}
use Rattle.model.specs.Rules.{does, refuses, opens, steps, withdraws, tries_opening, tries_step, tries_step_of, tries_withdrawal, tries_look}
use Rattle.model.specs.Runs.{Proper}
use Rattle.model.specs.Soundness.{Sound}
use Rattle.model.specs.State.{Standing, new, open_with, withdrawn, standing, open_count, income, largest_income, Book, District}
use Rattle.model.proofs.Kept.{keeps, open_node}
use Rattle.model.proofs.Offered.{contents_exact, open_storage_within}
use Rattle.node.specs.Answers.{yielded}
use Rattle.node.specs.Rules.{Yielded, rained, risen, yield_of, after}
use Rattle.node.specs.Stores.{Store, opened, storage}
use Rattle.node.specs.declared.answer.Yield.{Yield}
use Rattle.places.specs.States.{State, Meanings, each_holds, each_content}
use Rattle.reservoir.specs.Meaning.{Make}
use Rattle.reservoir.specs.declared.fault.Refusal.{Refusal}
use Rattle.roll.specs.Rolls.{Rolled, with_standing, CellLeft, StepsAt}
use Rattle.district.specs.Answers.{district_with, FollowsRules}

-- where the rules refuse, so that nothing changes
pub follows_refused : (makes : List Make) (d : District) (call : Call) (r : Refusal) → does makes d call ≡ refuses d r → FollowsRules makes d call (refused r) d
follows_refused makes d call r e s = (e, s)

-- where the rules give what is answered and left, which they keep sound
pub follows_given : (makes : List Make) → Meanings makes → (d : District) (call : Call) → Proper makes call → (o : Done call) (a : Answer call) (e : District) →
    does makes d call ≡ o → (Sound makes o.after → o ≡ record { answer = a; after = e }) → FollowsRules makes d call a e
follows_given makes mm d call p o a e q same s =
    let k = subst (λ (x : Done call). Sound makes x.after) q (keeps makes mm d call s p) in
    let z = same k in
    (q ∙ z, subst (λ (x : Done call). Sound makes x.after) z k)

-- a volume that stops at the largest fits the district's income where the whole of it does
leb_cut : (x t : ℕ) → leb (x + min t (2 ^ 64 - 1)) largest_income ≡ leb (x + t) largest_income
leb_cut x t =
    ⊎_elim
    (λ (h : x + t < suc largest_income). le-leb _ _ (let a : x + min t (2 ^ 64 - 1) ≤ largest_income = omega arith in a) ∙ sym (le-leb _ _ (let a : x + t ≤ largest_income = omega arith in a)))
    (λ (h : suc largest_income ≤ x + t). lt-leb _ _ (let a : largest_income < x + min t (2 ^ 64 - 1) = omega arith in a) ∙ sym (lt-leb _ _ (let a : largest_income < x + t = omega arith in a)))
    (cases_lt (x + t) (suc largest_income))

done_same : (call : Call) (a a' : Answer call) (m m' : Rolled) (b b' : Book) → a ≡ a' → m ≡ m' → b ≡ b' →
    ◌≡◌ {A = Done call} (record { answer = a; after = district_with m b }) (record { answer = a'; after = district_with m' b' })
done_same call a a' m m' b b' p q r =
    ap (λ (x : Answer call). record { answer = x; after = district_with m b }) p
    ∙ ap (λ (x : Rolled). record { answer = a'; after = district_with x b }) q
    ∙ ap (λ (x : Book). record { answer = a'; after = district_with m' x }) r

-- The number k of a district with the roll l and the book b. The roll becomes m and the book b'.
module _ (makes : List Make) (mm : Meanings makes) (l : Rolled) (b : Book) (k : ℕ) where
  -- an opening of a new number, with a cell left
  module _ (c : Card) (ss : List State) (v : ℕ) (cut : v ≡ min (storage (opened c ss)) (2 ^ 64 - 1)) (e : standing l.roll k ≡ new) (room : CellLeft l) where
    opening_by : (t : Bool) → leb (income b + v) largest_income ≡ t →
        does makes (district_with l b) (opening k c ss) ≡ cond t (opens (district_with l b) k c ss) (refuses (district_with l b) income_too_large)
    opening_by t fits =
        ap (tries_opening (district_with l b) k c ss) e
        ∙ cond-true (ltb (open_count l.roll) (min 64 l.cells)) _ _ (lt-ltb _ _ room)
        ∙ ap (λ x. cond x (opens (district_with l b) k c ss) (refuses (district_with l b) income_too_large))
        (sym (leb_cut (income b) (storage (opened c ss))) ∙ ap (λ x. leb (income b + x) largest_income) (sym cut) ∙ fits)

    pub opening_too_large : leb (income b + v) largest_income ≡ false → FollowsRules makes (district_with l b) (opening k c ss) (refused income_too_large) (district_with l b)
    opening_too_large fits = follows_refused makes (district_with l b) (opening k c ss) income_too_large (opening_by false fits)

    pub opening_granted : Proper makes (opening k c ss) → leb (income b + v) largest_income ≡ true → (m : Rolled) (b' : Book) →
        m ≡ with_standing l k (open_with (opened c ss)) → b' ≡ opening_kept b v →
        FollowsRules makes (district_with l b) (opening k c ss) (granted v) (district_with m b')
    opening_granted proper fits m b' q r =
        let whole : storage (opened c ss) ≡ v = omega (arith, leb-true _ _ fits) in
        follows_given makes mm (district_with l b) (opening k c ss) proper (opens (district_with l b) k c ss) (granted v) (district_with m b') (opening_by true fits)
        (λ s. done_same (opening k c ss) _ _ _ _ _ _ (ap granted whole) (sym q)
        (sym (opening_exact makes _ _ b (storage (opened c ss)) s) ∙ ap (opening_kept b) whole ∙ sym r))

  -- an open number, with the node n
  module _ (n : Store) (e : standing l.roll k ≡ open_with n) where
    stepping_by : (f : Forcing) (v : Verdict) → verdict n f ≡ v → does makes (district_with l b) (stepping k f) ≡ tries_step_of makes (district_with l b) k f n v
    stepping_by f v q = ap (tries_step makes (district_with l b) k f) e ∙ ap (tries_step_of makes (district_with l b) k f n) q

    pub step_refused_by : (f : Forcing) (r : Refusal) → verdict n f ≡ would_refuse r → FollowsRules makes (district_with l b) (stepping k f) (refused r) (district_with l b)
    step_refused_by f r q = follows_refused makes (district_with l b) (stepping k f) r (stepping_by f (would_refuse r) q)

    module _ (f : Forcing) (q : verdict n f ≡ would_step) (rain rise v : ℕ) (rains : rain ≡ rained n.card f) (rises : rise ≡ risen n.card f)
        (cut : v ≡ min (rain + rise) (2 ^ 64 - 1)) where
      fits_by : (t : Bool) → leb (income b + v) largest_income ≡ t →
          does makes (district_with l b) (stepping k f) ≡ cond t (steps makes (district_with l b) k f n) (refuses (district_with l b) income_too_large)
      fits_by t fits =
          let sum : income b + (rain + rise) ≡ income b + rained n.card f + risen n.card f = omega arith in
          stepping_by f would_step q
          ∙ ap (λ x. cond x (steps makes (district_with l b) k f n) (refuses (district_with l b) income_too_large))
          (ap (λ x. leb x largest_income) (sym sum) ∙ sym (leb_cut (income b) (rain + rise)) ∙ ap (λ x. leb (income b + x) largest_income) (sym cut) ∙ fits)

      pub step_too_large : leb (income b + v) largest_income ≡ false → FollowsRules makes (district_with l b) (stepping k f) (refused income_too_large) (district_with l b)
      step_too_large fits = follows_refused makes (district_with l b) (stepping k f) income_too_large (fits_by false fits)

      pub step_granted : leb (income b + v) largest_income ≡ true → (y : Yielded) (m : Rolled) (b' : Book) → y ≡ yield_of makes n f →
          m ≡ with_standing l k (open_with (after makes n f)) → b' ≡ step_kept b rain rise y →
          FollowsRules makes (district_with l b) (stepping k f) (granted y) (district_with m b')
      step_granted fits y m b' given left kept =
          let booked : b' ≡ step_kept b (rained n.card f) (risen n.card f) (yield_of makes n f) = cc in
          follows_given makes mm (district_with l b) (stepping k f) tt (steps makes (district_with l b) k f n) (granted y) (district_with m b') (fits_by true fits)
          (λ s. done_same (stepping k f) _ _ _ _ _ _ (ap granted (sym given)) (sym left)
          (sym (step_exact makes _ _ b n.card f (yield_of makes n f) s) ∙ sym booked))

    pub withdrawal_granted : (v : ℕ) (m : Rolled) (b' : Book) → v ≡ min (storage n) (2 ^ 64 - 1) → m ≡ with_standing l k withdrawn → b' ≡ withdrawal_kept b v →
        FollowsRules makes (district_with l b) (withdrawing k) (granted v) (district_with m b')
    withdrawal_granted v m b' cut q r sound =
        let whole : storage n ≡ v = omega (arith, open_storage_within makes (district_with l b) k n sound e) in
        follows_given makes mm (district_with l b) (withdrawing k) tt (withdraws (district_with l b) k n) (granted v) (district_with m b')
        (ap (tries_withdrawal (district_with l b) k) e)
        (λ s. done_same (withdrawing k) _ _ _ _ _ _ (ap granted whole) (sym q)
        (sym (withdrawal_exact makes _ _ b (storage n) s) ∙ ap (withdrawal_kept b) whole ∙ sym r)) sound

    pub look_granted : (moisture depression : ℕ) (contents : List ℕ) → moisture ≡ n.moisture → depression ≡ n.depression → contents ≡ each_content n.reservoirs →
        FollowsRules makes (district_with l b) (looking k) (granted (record { moisture = moisture; depression = depression; contents = contents })) (district_with l b)
    look_granted moisture depression contents p q r sound =
        let whole = contents_exact n.reservoirs (open_node makes mm (district_with l b) k n sound e).contents in
        let same : ◌≡◌ {A = View} (record { moisture = n.moisture; depression = n.depression; contents = each_holds n.reservoirs })
        (record { moisture = moisture; depression = depression; contents = contents }) = cc in
        (ap (tries_look (district_with l b) k) e ∙ ap (λ (x : View). record { answer = granted x; after = district_with l b }) same, sound)

-- what a roll's accepted step says of the node n of the number
pub step_answered : (makes : List Make) (l m : Rolled) (k : ℕ) (f : Forcing) (n : Store) (y : Yield) → standing l.roll k ≡ open_with n →
    StepsAt makes (standing l.roll k) l k f (Ok y) m → (yielded y ≡ yield_of makes n f) × (m ≡ with_standing l k (open_with (after makes n f)))
step_answered makes l m k f n y e h = let Q : Standing → Type 0 = λ s. StepsAt makes s l k f (Ok y) m in subst Q e h
