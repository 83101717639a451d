-- The totals of a sound district are within their limits, and it stays sound.
use Rattle.std.proofs.Common.{◌*◌, ◌≤◌, List, arith}
use Rattle.std.proofs.ByRecursion.{All-weaker}
use Rattle.card.specs.Limits.{largest_concentration}
use Rattle.places.specs.States.{Meanings}
use Rattle.reservoir.specs.Meaning.{Make}
use Rattle.model.specs.State.{largest_income, District, new_district}
use Rattle.model.specs.Rules.{reading_of}
use Rattle.model.specs.Runs.{after_all}
use Rattle.model.specs.Soundness.{Sound}
use Rattle.model.specs.Laws.{TotalsWithin, TotalsStayWithin, StaysSound}
use Rattle.model.proofs.Kept.{open_node, keeps, starts, all_kept}

-- what a sound district's reading keeps within
pub totals_within : (makes : List Make) (d : District) → Sound makes d → TotalsWithin (reading_of d)
totals_within makes d s =
    let c = s.closes in
    let w = s.within in
    record {
      incomes = w;
      rain = omega arith;
      rise = omega arith;
      brought_in = omega arith;
      evaporated = omega arith;
      discharged = omega arith;
      sunk = omega arith;
      ceded = omega arith;
      storage = omega arith;
      loads = s.loads;
      largest_load = All-weaker (λ l. l ≤ largest_concentration * d.book.discharged) (λ l. l ≤ largest_concentration * largest_income) (λ l h. omega arith)
          d.book.loads s.loads;
    }

pub totals_stay_within : (makes : List Make) → Meanings makes → TotalsStayWithin makes
totals_stay_within makes mm cells calls p =
    let d = after_all makes (new_district cells) calls in
    let s = all_kept makes mm (new_district cells) calls (starts makes cells) p in
    (totals_within makes d s, λ k n e. (open_node makes mm d k n s e).contents)

pub stays_sound : (makes : List Make) → Meanings makes → StaysSound makes
stays_sound makes mm = record { starts = starts makes; keeps = keeps makes mm }
