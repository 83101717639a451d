-- The laws of a district, of a list of makes. They hold where each make has a reservoir's meaning.
use Rattle.std.specs.Prelude.{◌≡◌, ℕ, ◌*◌, ◌≤◌, min, List, map, Result}
use Rattle.std.specs.List.{AllByRecursion}
use Rattle.card.specs.Limits.{largest_concentration}
use Rattle.card.specs.declared.card.Card.{Card}
use Rattle.ground.specs.declared.forcing.Forcing.{Forcing}
use Rattle.node.specs.Answers.{Offers}
use Rattle.node.specs.Stores.{Store}
use Rattle.node.specs.declared.fault.StepFault.{StepFault}
use Rattle.places.specs.States.{State}
use Rattle.reservoir.specs.Meaning.{Make, Settings}
use Rattle.reservoir.specs.declared.fault.Refusal.{Refusal}
use Rattle.model.specs.State.{open_with, withdrawn, standing, income, largest_income, District, new_district}
use Rattle.model.specs.Calls.{Call, opening, stepping, withdrawing, looking, reading, Reading, refused, granted}
use Rattle.model.specs.Refusals.{by_district, verdict, verdict_told}
use Rattle.model.specs.Rules.{reading_of, does}
use Rattle.model.specs.Runs.{Proper, AllProper, after_all}
use Rattle.model.specs.Balance.{Closes, ClosesBetween}
use Rattle.model.specs.Soundness.{WithinCapacity, Sound, LoadsWithin}
use Rattle.model.specs.Tally.{tally_of, open_in_tally, tally_says}
use Rattle.model.specs.Pairs.{steps_of, NoWithdrawalOf, WetterInPairs, NoLessInPairs}

-- The book closes: after every list of proper calls to a new district a reading shows what the tally says, its balance closes,
-- and so do its differences from what any other such list leads to.
abbrev pub BookCloses : List Make → Type 0
BookCloses makes = (cells : ℕ) (calls : List Call) → AllProper makes calls →
    ((does makes (after_all makes (new_district cells) calls) reading).answer ≡ granted (tally_says makes cells calls))
    × Closes (tally_says makes cells calls)
    × ((others : List Call) → AllProper makes others → ClosesBetween (tally_says makes cells calls) (tally_says makes cells others))

-- the settings of reservoirs
abbrev pub each_settings : List State → List Settings
each_settings ss = map (λ s. s.settings) ss

-- More rain gives no less, through districts: of two numbers opened alike, on one card over reservoirs with equal settings,
-- whatever calls then follow but their withdrawal. Both may be numbers of one district: the calls after the one opening then
-- end with the calls after the other.
abbrev pub MoreRainThroughDistricts : List Make → Type 0
MoreRainThroughDistricts makes = (d e : District) (j k : ℕ) (c : Card) (ss ts : List State) (v w : ℕ) (calls others : List Call) →
    Proper makes (opening j c ss) → Proper makes (opening k c ts) → each_settings ss ≡ each_settings ts →
    (does makes d (opening j c ss)).answer ≡ granted v → (does makes e (opening k c ts)).answer ≡ granted w →
    AllByRecursion (NoWithdrawalOf j) calls → AllByRecursion (NoWithdrawalOf k) others →
    WetterInPairs (steps_of makes (does makes d (opening j c ss)).after j calls) (steps_of makes (does makes e (opening k c ts)).after k others) →
    NoLessInPairs (steps_of makes (does makes d (opening j c ss)).after j calls) (steps_of makes (does makes e (opening k c ts)).after k others)

-- the number k is withdrawn, and every call that names it is refused with cause 8
pub record Withdrawn (makes : List Make) (d : District) (k : ℕ) : Type 0 where
  pub stands : standing d.roll k ≡ withdrawn
  pub no_opening : (c : Card) (ss : List State) → (does makes d (opening k c ss)).answer ≡ refused (by_district 8)
  pub no_step : (f : Forcing) → (does makes d (stepping k f)).answer ≡ refused (by_district 8)
  pub no_withdrawal : (does makes d (withdrawing k)).answer ≡ refused (by_district 8)
  pub no_look : (does makes d (looking k)).answer ≡ refused (by_district 8)

-- Withdrawn stays withdrawn: after an accepted withdrawal and every list of further calls.
abbrev pub WithdrawnStays : List Make → Type 0
WithdrawnStays makes = (d : District) (k v : ℕ) (calls : List Call) → (does makes d (withdrawing k)).answer ≡ granted v →
    Withdrawn makes (after_all makes (does makes d (withdrawing k)).after calls) k

-- The verdict of the rules on a step is what the node answers when it is offered the step.
abbrev pub VerdictIsOffer : Type 0
VerdictIsOffer = (n : Store) (f : Forcing) (r : Result (Unit {0}) StepFault) → Offers n f r → verdict n f ≡ verdict_told r

-- No cell is left unused: an opening is refused with cause 9 only where the tally has as many open numbers as there are cells, of which
-- 64 are used at most.
abbrev pub NoCellLeftUnused : List Make → Type 0
NoCellLeftUnused makes = (cells : ℕ) (calls : List Call) (k : ℕ) (c : Card) (ss : List State) → AllProper makes calls →
    (does makes (after_all makes (new_district cells) calls) (opening k c ss)).answer ≡ refused (by_district 9) →
    open_in_tally (tally_of makes cells calls) ≡ min 64 cells

-- A refused call, a look and a reading change nothing, whatever the district.
pub record ChangesNothing (makes : List Make) : Type 0 where
  pub refusal : (d : District) (call : Call) (r : Refusal) → (does makes d call).answer ≡ refused r → (does makes d call).after ≡ d
  pub look : (d : District) (k : ℕ) → (does makes d (looking k)).after ≡ d
  pub reading : (d : District) → (does makes d reading).after ≡ d

-- no total and no storage passes the largest income, and no load what that much would carry at the largest concentration
pub record TotalsWithin (r : Reading) : Type 0 where
  pub incomes : income r.totals ≤ largest_income
  pub rain : r.totals.rain ≤ largest_income
  pub rise : r.totals.rise ≤ largest_income
  pub brought_in : r.totals.brought_in ≤ largest_income
  pub evaporated : r.totals.evaporated ≤ largest_income
  pub discharged : r.totals.discharged ≤ largest_income
  pub sunk : r.totals.sunk ≤ largest_income
  pub ceded : r.totals.ceded ≤ largest_income
  pub storage : r.storage ≤ largest_income
  pub loads : LoadsWithin r.totals
  pub largest_load : AllByRecursion (λ load. load ≤ largest_concentration * largest_income) r.totals.loads

-- every reservoir of every open node is within its capacity
abbrev pub ReservoirsWithin : District → Type 0
ReservoirsWithin d = (k : ℕ) (n : Store) → standing d.roll k ≡ open_with n → WithinCapacity n.reservoirs

-- Totals stay within: after every list of proper calls to a new district.
abbrev pub TotalsStayWithin : List Make → Type 0
TotalsStayWithin makes = (cells : ℕ) (calls : List Call) → AllProper makes calls →
    TotalsWithin (reading_of (after_all makes (new_district cells) calls)) × ReservoirsWithin (after_all makes (new_district cells) calls)

-- A district stays sound: it is when it is new, and every proper call leaves it so.
pub record StaysSound (makes : List Make) : Type 0 where
  pub starts : (cells : ℕ) → Sound makes (new_district cells)
  pub keeps : (d : District) (call : Call) → Sound makes d → Proper makes call → Sound makes (does makes d call).after
