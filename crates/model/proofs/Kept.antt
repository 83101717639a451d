-- A new district is sound, and every proper call keeps it so.
use Rattle.std.proofs.Common.{◌≡◌, ℕ, zero, suc, cond, List, [], ◌∷◌, length, replicate, sum_by, refl, arith}
use lib.ListN.{length-replicate}
use Rattle.std.specs.List.{AllByRecursion}
use Rattle.std.proofs.ByRecursion.{All-set}
use Rattle.std.proofs.lemmas.List.{length-set}
use Rattle.std.proofs.lemmas.List.Sums.{sum_by-cons}
use Rattle.card.specs.Limits.{largest_concentration}
use Rattle.node.specs.Rules.{yield_of, after}
use Rattle.node.specs.Stores.{Store, opened}
use Rattle.node.proofs.Steps.{steps_balance}
use Rattle.places.specs.Laws.{total}
use Rattle.places.specs.States.{Meanings}
use Rattle.reservoir.specs.Meaning.{Make}
use Rattle.model.specs.State.{Standing, new, open_with, withdrawn, number_count, standing, entered, is_open, stored, District, new_district}
use Rattle.model.specs.Calls.{Call, opening, stepping, withdrawing, looking, reading}
use Rattle.model.specs.Rules.{does}
use Rattle.model.specs.Runs.{Proper, AllProper, after_all}
use Rattle.model.specs.Soundness.{SoundStanding, SoundNode, Sound}
use Rattle.model.proofs.Rolls.{new_stands, open_stands, sum_entered, all_stand}
use Rattle.model.proofs.Cases.{opening_cases, stepping_cases, withdrawing_cases, looking_cases}
use Rattle.model.proofs.Nodes.{sound_opened, sound_stepped, plus_loads_within, yield_loads_within}

-- the change of a standing keeps the roll's length
entered_length : (roll : List Standing) (k : ℕ) (s : Standing) → length roll ≡ number_count → length (entered roll k s) ≡ number_count
entered_length roll k s h = simp length-set h

module _ (makes : List Make) (mm : Meanings makes) where
  pub open_node : (d : District) (k : ℕ) (n : Store) → Sound makes d → standing d.roll k ≡ open_with n → SoundNode makes n
  open_node d k n s e = all_stand (SoundStanding makes) d.roll k (open_with n) (open_stands d.roll k n e) s.standings

  pub keeps : (d : District) (call : Call) → Sound makes d → Proper makes call → Sound makes (does makes d call).after
  keeps d (opening k c ss) s p = opening_cases makes d k c ss (λ o. Sound makes o.after) (λ r. s)
      (λ e room within.
      let h = new_stands d.roll k e in
      let x = open_with (opened c ss) in
      let count = sum_entered (λ y. cond (is_open y) 1 0) d.roll k new x h in
      let sums = sum_entered stored d.roll k new x h in
      let closed = s.closes in
      record {
        numbers = entered_length d.roll k x s.numbers;
        standings = All-set (SoundStanding makes) d.roll _ x (sound_opened makes c ss p.0 p.1) s.standings;
        cells = omega arith;
        closes = omega arith;
        within = omega arith;
        loads = s.loads;
      })
  keeps d (stepping k f) s p = stepping_cases makes d k f (λ o. Sound makes o.after) (λ r. s)
      (λ n e a within.
      let h = open_stands d.roll k n e in
      let x = open_with (after makes n f) in
      let y = yield_of makes n f in
      let sound = open_node d k n s e in
      let count = sum_entered (λ y. cond (is_open y) 1 0) d.roll k (open_with n) x h in
      let sums = sum_entered stored d.roll k (open_with n) x h in
      let closed = s.closes in
      let old = s.cells in
      let balance = steps_balance makes mm n (after makes n f) f y sound.node a in
      record {
        numbers = entered_length d.roll k x s.numbers;
        standings = All-set (SoundStanding makes) d.roll _ x (sound_stepped makes mm n (after makes n f) f y sound a) s.standings;
        cells = omega arith;
        closes = omega arith;
        within = omega arith;
        loads = plus_loads_within largest_concentration d.book.discharged (total y.flows) d.book.loads y.loads s.loads
            (yield_loads_within makes n f sound.card);
      })
  keeps d (withdrawing k) s p = withdrawing_cases makes d k (λ o. Sound makes o.after) (λ r. s)
      (λ n e.
      let h = open_stands d.roll k n e in
      let count = sum_entered (λ y. cond (is_open y) 1 0) d.roll k (open_with n) withdrawn h in
      let sums = sum_entered stored d.roll k (open_with n) withdrawn h in
      let closed = s.closes in
      let old = s.cells in
      record {
        numbers = entered_length d.roll k withdrawn s.numbers;
        standings = All-set (SoundStanding makes) d.roll _ withdrawn tt s.standings;
        cells = omega arith;
        closes = omega arith;
        within = s.within;
        loads = s.loads;
      })
  keeps d (looking k) s p = looking_cases makes d k (λ o. Sound makes o.after) (λ r. s) (λ n e. s)
  keeps d reading s p = s

-- a roll of new numbers
new_sum : (f : Standing → ℕ) → f new ≡ 0 → (n : ℕ) → sum_by f (replicate n new) ≡ 0
new_sum f h zero = refl
new_sum f h (suc n) = omega (arith, sum_by-cons f new (replicate n new), new_sum f h n)

new_standings : (makes : List Make) (n : ℕ) → AllByRecursion (SoundStanding makes) (replicate n new)
new_standings makes zero = tt
new_standings makes (suc n) = (tt, new_standings makes n)

pub starts : (makes : List Make) (cells : ℕ) → Sound makes (new_district cells)
starts makes cells =
    let count = new_sum (λ y. cond (is_open y) 1 0) refl number_count in
    let sums = new_sum stored refl number_count in
    record {
      numbers = length-replicate number_count new;
      standings = new_standings makes number_count;
      cells = omega arith;
      closes = omega arith;
      within = omega arith;
      loads = (omega arith, (omega arith, (omega arith, tt)));
    }

-- after every list of proper calls
pub all_kept : (makes : List Make) → Meanings makes → (d : District) (calls : List Call) → Sound makes d → AllProper makes calls →
    Sound makes (after_all makes d calls)
all_kept makes mm d [] s p = s
all_kept makes mm d (call ∷ calls) s p = all_kept makes mm (does makes d call).after calls (keeps makes mm d call s p.0) p.1
