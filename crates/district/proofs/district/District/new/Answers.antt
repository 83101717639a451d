use Rattle.model.proofs.Cells.{no_cell_left_unused}
use Rattle.model.proofs.Computed.{worked_calls}
use Rattle.model.proofs.Offered.{verdict_offered}
use Rattle.model.proofs.Tallies.{book_closes}
use Rattle.model.proofs.Tracks.{more_rain_through_districts}
use Rattle.model.proofs.Unchanged.{changes_nothing, withdrawn_stays}
use Rattle.model.proofs.Within.{totals_stay_within}
use Rattle.district.proofs.district.District.new.Goals as goal

pub returns-clause-book_closes : goal.returns-clause-book_closes
returns-clause-book_closes g c = book_closes g.P.Places.makes g.met.P.Places.meanings

pub returns-clause-more_rain_gives_no_less : goal.returns-clause-more_rain_gives_no_less
returns-clause-more_rain_gives_no_less g c = more_rain_through_districts g.P.Places.makes g.met.P.Places.meanings

pub returns-clause-no_cell_left_unused : goal.returns-clause-no_cell_left_unused
returns-clause-no_cell_left_unused g c = no_cell_left_unused g.P.Places.makes g.met.P.Places.meanings

pub returns-clause-withdrawn_stays : goal.returns-clause-withdrawn_stays
returns-clause-withdrawn_stays g c = withdrawn_stays g.P.Places.makes

pub returns-clause-changes_nothing : goal.returns-clause-changes_nothing
returns-clause-changes_nothing g c = changes_nothing g.P.Places.makes

pub returns-clause-totals_stay_within : goal.returns-clause-totals_stay_within
returns-clause-totals_stay_within g c = totals_stay_within g.P.Places.makes g.met.P.Places.meanings

pub returns-clause-verdict_is_offer : goal.returns-clause-verdict_is_offer
returns-clause-verdict_is_offer g c = verdict_offered

pub returns-clause-worked_calls : goal.returns-clause-worked_calls
returns-clause-worked_calls g c = worked_calls
