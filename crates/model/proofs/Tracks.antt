-- The steps of two numbers are pairs of steps of their nodes.
use Rattle.std.proofs.Common.{◌≡◌, ℕ, eqb, List, [], ◌∷◌, ◌++◌, length, replicate, sym, refl, ap, ◌∙◌, subst, ap₂, subst₂, arith}
use Rattle.std.specs.List.{AllByRecursion}
use Rattle.std.proofs.lemmas.Bool.{cond_both, eqb-true, eqb-false}
use Rattle.card.specs.declared.card.Card.{Card}
use Rattle.ground.specs.Laws.{Wetter}
use Rattle.ground.specs.declared.forcing.Forcing.{Forcing}
use Rattle.node.specs.Laws as node
use Rattle.node.specs.Laws.{Pair, PairRun, NoLess}
use Rattle.node.specs.Rules.{Accepted, yield_of, after}
use Rattle.node.specs.Stores.{Store, opened}
use Rattle.node.proofs.Steps.{more_rain_gives_no_less}
use Rattle.places.specs.States.{State, Meanings, EachFits, each_emptied}
use Rattle.reservoir.specs.Meaning.{Make}
use Rattle.reservoir.specs.declared.fault.Refusal.{Refusal}
use Rattle.model.specs.State.{Standing, new, open_with, standing, entered, District}
use Rattle.model.specs.Calls.{Call, opening, stepping, withdrawing, looking, reading, Answer, refused, granted}
use Rattle.model.specs.Rules.{does}
use Rattle.model.specs.Pairs.{Seen, seen, steps_of, NoWithdrawalOf, Together, WetterInPairs, AnswersNoLess, StoresNoLess, NoLessInPairs}
use Rattle.model.specs.Laws.{each_settings, MoreRainThroughDistricts}
use Rattle.model.proofs.Rolls.{entered_here, new_stands, open_stands}
use Rattle.model.proofs.Cases.{opening_cases, stepping_cases}
use Rattle.model.proofs.Unchanged.{not_refused, spared}

-- what a step of an open number answers, and the standing that it leaves: refused, with the node as it was, or a step of the node
data Went (makes : List Make) (n : Store) (k : ℕ) (f : Forcing) : Answer (stepping k f) → Standing → Type 0 where
  as_it_was : (r : Refusal) → Went makes n k f (refused r) (open_with n)
  stepped : Accepted makes n f (yield_of makes n f) (after makes n f) → Went makes n k f (granted (yield_of makes n f)) (open_with (after makes n f))

went : (makes : List Make) (d : District) (k : ℕ) (f : Forcing) (n : Store) → standing d.roll k ≡ open_with n →
    Went makes n k f (does makes d (stepping k f)).answer (standing (does makes d (stepping k f)).after.roll k)
went makes d k f n e =
    stepping_cases makes d k f (λ o. Went makes n k f o.answer (standing o.after.roll k))
    (λ r. subst (Went makes n k f (refused r)) (sym e) (as_it_was r))
    (λ m w a within.
    let same : m ≡ n = cc in
    subst (λ x. Went makes x k f (granted (yield_of makes m f)) (standing (entered d.roll k (open_with (after makes m f))) k)) same
    (subst (Went makes m k f (granted (yield_of makes m f))) (sym (entered_here d.roll k (open_with m) (open_with (after makes m f)) (open_stands d.roll k m w))) (stepped a)))

went_open : (makes : List Make) (n : Store) (k : ℕ) (f : Forcing) (a : Answer (stepping k f)) (s : Standing) → Went makes n k f a s → (m : Store) × (s ≡ open_with m)
went_open makes n k f a s (as_it_was r) = (n, refl)
went_open makes n k f a s (stepped x) = (after makes n f, refl)

-- the steps that are seen of k are those of a node that is n at first
abbrev Follows : List Make → (k : ℕ) → Store → List (Seen k) → Type 0
Follows makes k n [] = Unit {0}
Follows makes k n (p ∷ ps) =
    Went makes n k p.forcing p.answer p.leaves × ((m : Store) × ((p.leaves ≡ open_with m) × Follows makes k m ps))

-- an open number is spared by every call that does not step or withdraw it
no_opening : (roll : List Standing) (k : ℕ) (n : Store) → standing roll k ≡ open_with n → standing roll k ≡ new → ⊥
no_opening roll k n e w = let z : ◌≡◌ {A = ℕ} 0 1 = cc in omega arith

follows : (makes : List Make) (k : ℕ) (d : District) (n : Store) (calls : List Call) → standing d.roll k ≡ open_with n → AllByRecursion (NoWithdrawalOf k) calls →
    Follows makes k n (steps_of makes d k calls)
follows makes k d n [] e h = tt
follows makes k d n (opening i c ss ∷ calls) e h =
    follows makes k (does makes d (opening i c ss)).after n calls (spared makes d (opening i c ss) k (λ q. no_opening d.roll k n e) ∙ e) h.1
follows makes k d n (stepping i f ∷ calls) e h =
    cond_both (eqb i k) _ _ (λ (ps : List (Seen k)). Follows makes k n (ps ++ steps_of makes (does makes d (stepping i f)).after k calls))
    (λ t.
    let w = went makes d k f n e in
    let m = went_open makes n k f _ _ w in
    subst (λ l. Follows makes k n (seen makes d k f ∷ steps_of makes (does makes d (stepping l f)).after k calls)) (sym (eqb-true i k t))
    (w, (m.0, (m.1, follows makes k (does makes d (stepping k f)).after m.0 calls m.1 h.1))))
    (λ t. follows makes k (does makes d (stepping i f)).after n calls (spared makes d (stepping i f) k (λ q. elim (eqb-false i k t q) [ ]) ∙ e) h.1)
follows makes k d n (withdrawing i ∷ calls) e h =
    follows makes k (does makes d (withdrawing i)).after n calls (spared makes d (withdrawing i) k (λ q. elim (h.0 q) [ ]) ∙ e) h.1
follows makes k d n (looking i ∷ calls) e h =
    follows makes k (does makes d (looking i)).after n calls (spared makes d (looking i) k tt ∙ e) h.1
follows makes k d n (reading ∷ calls) e h = follows makes k d n calls e h.1

-- pairs of steps of two nodes by which Shown follows from the law of nodes
record Tracked (makes : List Make) (n m : Store) (Shown : Type 0) : Type 0 where
  pairs : List Pair
  run : PairRun makes n m pairs
  shows : NoLess n m pairs → Shown

one_pair : (makes : List Make) (n m x y : Store) (j k : ℕ) (f g : Forcing) (a : Answer (stepping j f)) (b : Answer (stepping k g)) (s t : Standing) (Rest : Type 0) →
    Went makes n j f a s → s ≡ open_with x → Went makes m k g b t → t ≡ open_with y → Wetter f g → Together a b → Tracked makes x y Rest →
    Tracked makes n m (AnswersNoLess a b × (StoresNoLess s t × Rest))
one_pair makes n m x y j k f g a b s t Rest (as_it_was q) p (as_it_was r) l w h i =
    let before : n ≡ x = cc in
    let before' : m ≡ y = cc in
    record {
      pairs = node.refused f g ∷ i.pairs;
      run = (w, subst₂ (λ u v. PairRun makes u v i.pairs) (sym before) (sym before') i.run);
      shows = λ o. (
        tt,
        (
          record { first = n; second = m; first_stands = refl; second_stands = refl; stores = o.0 },
          i.shows (subst₂ (λ u v. NoLess u v i.pairs) before before' o.1),
        ),
      );
    }
one_pair makes n m x y j k f g a b s t Rest (as_it_was q) p (stepped z) l w h i = elim h [ ]
one_pair makes n m x y j k f g a b s t Rest (stepped z) p (as_it_was r) l w h i = elim h [ ]
one_pair makes n m x y j k f g a b s t Rest (stepped u) p (stepped v) l w h i =
    record {
      pairs = node.accepted f (yield_of makes n f) x g (yield_of makes m g) y ∷ i.pairs;
      run = (w, (subst (Accepted makes n f (yield_of makes n f)) left u, (subst (Accepted makes m g (yield_of makes m g)) left' v, i.run)));
      shows = λ o. ((o.0, o.1.0), (record { first = x; second = y; first_stands = p; second_stands = l; stores = o.1.1.0 }, i.shows o.1.1.1));
    }
  where
    left : after makes n f ≡ x
    left = cc

    left' : after makes m g ≡ y
    left' = cc

tracked : (makes : List Make) (j k : ℕ) (n m : Store) (ps : List (Seen j)) (qs : List (Seen k)) → Follows makes j n ps → Follows makes k m qs →
    WetterInPairs ps qs → Tracked makes n m (NoLessInPairs ps qs)
tracked makes j k n m [] qs f g h = record { pairs = []; run = tt; shows = λ l. tt }
tracked makes j k n m (p ∷ ps) [] f g h = record { pairs = []; run = tt; shows = λ l. tt }
tracked makes j k n m (p ∷ ps) (q ∷ qs) f g h =
    one_pair makes n m f.1.0 g.1.0 j k p.forcing q.forcing p.answer q.answer p.leaves q.leaves (NoLessInPairs ps qs)
    f.0 f.1.1.0 g.0 g.1.1.0 h.0 h.1.0
    (tracked makes j k f.1.0 g.1.0 ps qs f.1.1.1 g.1.1.1 h.1.1)

-- an accepted opening leaves its number open with a node as opened
opens_with : (makes : List Make) (d : District) (k : ℕ) (c : Card) (ss : List State) (v : ℕ) → (does makes d (opening k c ss)).answer ≡ granted v →
    standing (does makes d (opening k c ss)).after.roll k ≡ open_with (opened c ss)
opens_with makes d k c ss v = opening_cases makes d k c ss (λ o. o.answer ≡ granted v → standing o.after.roll k ≡ open_with (opened c ss))
    (λ r h. elim (not_refused v r (sym h)) [ ])
    (λ e room within h. entered_here d.roll k new (open_with (opened c ss)) (new_stands d.roll k e))

-- reservoirs of one list of makes with equal settings are equal once they are emptied
emptied_alike : (makes : List Make) (ss ts : List State) → EachFits makes ss → EachFits makes ts → each_settings ss ≡ each_settings ts → each_emptied ss ≡ each_emptied ts
emptied_alike [] [] [] f g e = refl
emptied_alike [] [] (t ∷ ts) f g e = elim g [ ]
emptied_alike [] (s ∷ ss) ts f g e = elim f [ ]
emptied_alike (m ∷ ms) [] ts f g e = elim f [ ]
emptied_alike (m ∷ ms) (s ∷ ss) [] f g e = elim g [ ]
emptied_alike (m ∷ ms) (s ∷ ss) (t ∷ ts) f g e =
    let same : s.settings ≡ t.settings = cc in
    let others : each_settings ss ≡ each_settings ts = cc in
    let size : length s.cells ≡ length t.cells = f.0.1 ∙ ap m.size same ∙ sym g.0.1 in
    ap₂ (λ x xs. x ∷ xs) (ap₂ (λ a b. record { settings = a; cells = replicate b 0 }) same size) (emptied_alike ms ss ts f.1 g.1 others)

pub more_rain_through_districts : (makes : List Make) → Meanings makes → MoreRainThroughDistricts makes
more_rain_through_districts makes mm d e j k c ss ts v w calls others p q alike x y still still' h =
    let same : opened c ts ≡ opened c ss = ap (λ rs. record { card = c; moisture = (opened c ss).moisture; depression = 0; reservoirs = rs }) (sym (emptied_alike makes ss ts p.1 q.1 alike)) in
    let i = tracked makes j k (opened c ss) (opened c ss) _ _
    (follows makes j (does makes d (opening j c ss)).after (opened c ss) calls (opens_with makes d j c ss v x) still)
    (follows makes k (does makes e (opening k c ts)).after (opened c ss) others (opens_with makes e k c ts w y ∙ ap open_with same) still') h in
    i.shows (more_rain_gives_no_less makes mm c ss i.pairs p.0.soil p.1 i.run)
