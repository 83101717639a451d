-- The steps of one number among the calls to a district, and the steps of two numbers taken in pairs.
use Rattle.std.specs.Prelude.{◌≡◌, ℕ, cond, List, [], ◌∷◌, ◌++◌, ◌==◌}
use Rattle.ground.specs.Laws.{Wetter}
use Rattle.ground.specs.declared.forcing.Forcing.{Forcing}
use Rattle.node.specs.Laws.{EachStoreAtMost}
use Rattle.node.specs.Stores.{Store}
use Rattle.reservoir.specs.Cells.{AtMost}
use Rattle.reservoir.specs.Meaning.{Make}
use Rattle.model.specs.State.{Standing, open_with, standing, District}
use Rattle.model.specs.Calls.{Call, opening, stepping, withdrawing, looking, reading, Answer, refused, granted}
use Rattle.model.specs.Rules.{does}

-- a step of the number k as it is seen: the forcing, the answer, and the standing of k afterwards
pub record Seen (k : ℕ) : Type 0 where
  pub forcing : Forcing
  pub answer : Answer (stepping k forcing)
  pub leaves : Standing

abbrev pub seen : List Make → District → (k : ℕ) → Forcing → Seen k
seen makes d k f = record {
  forcing = f;
  answer = (does makes d (stepping k f)).answer;
  leaves = standing (does makes d (stepping k f)).after.roll k;
}

-- what is seen of k in one call: nothing, unless the call steps k
abbrev pub seen_in : List Make → District → (k : ℕ) → Call → List (Seen k)
seen_in makes d k (opening i c ss) = []
seen_in makes d k (stepping i f) = cond (i == k) (seen makes d k f ∷ []) []
seen_in makes d k (withdrawing i) = []
seen_in makes d k (looking i) = []
seen_in makes d k reading = []

-- the steps of k, accepted and refused, in a list of calls to a district
abbrev pub steps_of : List Make → District → (k : ℕ) → List Call → List (Seen k)
steps_of makes d k [] = []
steps_of makes d k (call ∷ calls) = seen_in makes d k call ++ steps_of makes (does makes d call).after k calls

-- any call but a withdrawal of k
abbrev pub NoWithdrawalOf : ℕ → Call → Type 0
NoWithdrawalOf k (opening i c ss) = Unit {0}
NoWithdrawalOf k (stepping i f) = Unit {0}
NoWithdrawalOf k (withdrawing i) = i ≡ k → ⊥
NoWithdrawalOf k (looking i) = Unit {0}
NoWithdrawalOf k reading = Unit {0}

-- both accepted or both refused, for whatever causes
abbrev pub Together : {j k : ℕ} {f g : Forcing} → Answer (stepping j f) → Answer (stepping k g) → Type 0
Together (granted y) (granted z) = Unit {0}
Together (granted y) (refused r) = ⊥
Together (refused q) (granted z) = ⊥
Together (refused q) (refused r) = Unit {0}

-- In each pair of steps, as far as there are steps of both numbers, the second forcing is at least as wet, and both are
-- accepted or both refused.
abbrev pub WetterInPairs : {j k : ℕ} → List (Seen j) → List (Seen k) → Type 0
WetterInPairs [] qs = Unit {0}
WetterInPairs (p ∷ ps) [] = Unit {0}
WetterInPairs (p ∷ ps) (q ∷ qs) = Wetter p.forcing q.forcing × (Together p.answer q.answer × WetterInPairs ps qs)

-- the second answer, if both steps were accepted, has at least each flow and each load of the first
abbrev pub AnswersNoLess : {j k : ℕ} {f g : Forcing} → Answer (stepping j f) → Answer (stepping k g) → Type 0
AnswersNoLess (granted y) (granted z) = AtMost y.flows z.flows × AtMost y.loads z.loads
AnswersNoLess (granted y) (refused r) = ⊥
AnswersNoLess (refused q) (granted z) = ⊥
AnswersNoLess (refused q) (refused r) = Unit {0}

-- both numbers are open, and the second node has at least as much in each store
pub record StoresNoLess (s t : Standing) : Type 0 where
  pub first : Store
  pub second : Store
  pub first_stands : s ≡ open_with first
  pub second_stands : t ≡ open_with second
  pub stores : EachStoreAtMost first second

-- in each pair of steps the second answers no less and leaves no less
abbrev pub NoLessInPairs : {j k : ℕ} → List (Seen j) → List (Seen k) → Type 0
NoLessInPairs [] qs = Unit {0}
NoLessInPairs (p ∷ ps) [] = Unit {0}
NoLessInPairs (p ∷ ps) (q ∷ qs) = AnswersNoLess p.answer q.answer × (StoresNoLess p.leaves q.leaves × NoLessInPairs ps qs)
