-- The rules of a district: what each call answers and leaves. The standing of its number is asked first, then what follows
-- in order. A refusal changes nothing.
use Rattle.std.specs.Prelude.{ℕ, ◌+◌, cond, List, nat_le, nat_lt}
use Rattle.card.specs.declared.card.Card.{Card}
use Rattle.ground.specs.declared.forcing.Forcing.{Forcing}
use Rattle.node.specs.Rules.{rained, risen, yield_of, after}
use Rattle.node.specs.Stores.{Store, opened, storage}
use Rattle.places.specs.States.{State, each_holds}
use Rattle.reservoir.specs.Meaning.{Make}
use Rattle.reservoir.specs.declared.fault.Refusal.{Refusal}
use Rattle.model.specs.State.{Standing, outside, new, open_with, withdrawn, standing, entered, open_count, all_stored, income, largest_income, District, usable_cells}
use Rattle.model.specs.Calls.{Call, opening, stepping, withdrawing, looking, reading, Reading, refused, granted, Done}
use Rattle.model.specs.Refusals.{number_outside, number_open, number_withdrawn, number_new, no_unused_cell, income_too_large, Verdict, would_step, would_refuse, verdict}
use Rattle.model.specs.Booking.{book_opening, book_step, book_withdrawal}

abbrev pub refuses : {call : Call} → District → Refusal → Done call
refuses d r = record { answer = refused r; after = d }

-- An opening.
abbrev pub opens : (d : District) (k : ℕ) (c : Card) (ss : List State) → Done (opening k c ss)
opens d k c ss = record {
  answer = granted (storage (opened c ss));
  after = record {
    roll = entered d.roll k (open_with (opened c ss));
    cells = d.cells;
    book = book_opening d.book (storage (opened c ss));
  };
}

abbrev pub tries_opening : (d : District) (k : ℕ) (c : Card) (ss : List State) → Standing → Done (opening k c ss)
tries_opening d k c ss outside = refuses d number_outside
tries_opening d k c ss (open_with n) = refuses d number_open
tries_opening d k c ss withdrawn = refuses d number_withdrawn
tries_opening d k c ss new =
    cond (nat_lt (open_count d.roll) (usable_cells d))
    (cond (nat_le (income d.book + storage (opened c ss)) largest_income) (opens d k c ss) (refuses d income_too_large))
    (refuses d no_unused_cell)

-- A step, of the node n.
abbrev pub steps : List Make → (d : District) (k : ℕ) (f : Forcing) → Store → Done (stepping k f)
steps makes d k f n = record {
  answer = granted (yield_of makes n f);
  after = record {
    roll = entered d.roll k (open_with (after makes n f));
    cells = d.cells;
    book = book_step d.book n.card f (yield_of makes n f);
  };
}

abbrev pub tries_step_of : List Make → (d : District) (k : ℕ) (f : Forcing) → Store → Verdict → Done (stepping k f)
tries_step_of makes d k f n (would_refuse r) = refuses d r
tries_step_of makes d k f n would_step =
    cond (nat_le (income d.book + rained n.card f + risen n.card f) largest_income) (steps makes d k f n) (refuses d income_too_large)

abbrev pub tries_step : List Make → (d : District) (k : ℕ) (f : Forcing) → Standing → Done (stepping k f)
tries_step makes d k f outside = refuses d number_outside
tries_step makes d k f new = refuses d number_new
tries_step makes d k f withdrawn = refuses d number_withdrawn
tries_step makes d k f (open_with n) = tries_step_of makes d k f n (verdict n f)

-- A withdrawal.
abbrev pub withdraws : (d : District) (k : ℕ) → Store → Done (withdrawing k)
withdraws d k n = record {
  answer = granted (storage n);
  after = record {
    roll = entered d.roll k withdrawn;
    cells = d.cells;
    book = book_withdrawal d.book (storage n);
  };
}

abbrev pub tries_withdrawal : (d : District) (k : ℕ) → Standing → Done (withdrawing k)
tries_withdrawal d k outside = refuses d number_outside
tries_withdrawal d k new = refuses d number_new
tries_withdrawal d k withdrawn = refuses d number_withdrawn
tries_withdrawal d k (open_with n) = withdraws d k n

-- A look.
abbrev pub looks : (d : District) (k : ℕ) → Store → Done (looking k)
looks d k n = record {
  answer = granted (record { moisture = n.moisture; depression = n.depression; contents = each_holds n.reservoirs });
  after = d;
}

abbrev pub tries_look : (d : District) (k : ℕ) → Standing → Done (looking k)
tries_look d k outside = refuses d number_outside
tries_look d k new = refuses d number_new
tries_look d k withdrawn = refuses d number_withdrawn
tries_look d k (open_with n) = looks d k n

-- what a reading shows
abbrev pub reading_of : District → Reading
reading_of d = record { totals = d.book; storage = all_stored d.roll }

-- what a call answers, and the district that it leaves
abbrev pub does : List Make → District → (call : Call) → Done call
does makes d (opening k c ss) = tries_opening d k c ss (standing d.roll k)
does makes d (stepping k f) = tries_step makes d k f (standing d.roll k)
does makes d (withdrawing k) = tries_withdrawal d k (standing d.roll k)
does makes d (looking k) = tries_look d k (standing d.roll k)
does makes d reading = record { answer = granted (reading_of d); after = d }
