-- The tally agrees with the book after every list of calls, and the balance closes.
use Rattle.std.proofs.Common.{◌≡◌, ℕ, zero, suc, ◌+◌, ◌-◌, ◌*◌, List, [], ◌∷◌, map, get_or, set, replicate, ℤ, pos, negsuc, sym, refl, ap, ◌∙◌, subst, ap₂, arith}
use Rattle.std.proofs.lemmas.List.{map-set, set-get_or}
use Rattle.std.proofs.lemmas.Int.{ints}
use Rattle.std.proofs.lemmas.List.Sums.{sum_by-cons}
use Rattle.card.specs.declared.card.Card.{Card}
use Rattle.ground.specs.Seepage.{rising_part}
use Rattle.ground.specs.declared.forcing.Forcing.{Forcing}
use Rattle.node.specs.Rules.{Yielded, yield_of}
use Rattle.node.specs.Stores.{storage}
use Rattle.places.specs.States.{Meanings, each_holds}
use Rattle.reservoir.specs.Meaning.{Make}
use Rattle.model.specs.State.{Standing, outside, new, open_with, withdrawn, number_count, standing, entered, stored, all_stored, Book, District, new_district}
use Rattle.model.specs.Calls.{Call, opening, stepping, withdrawing, looking, reading, Reading, granted}
use Rattle.model.specs.Booking.{plus_loads, book_opening, book_step}
use Rattle.model.specs.Rules.{tries_look, reading_of, does}
use Rattle.model.specs.Runs.{AllProper, after_all}
use Rattle.model.specs.Balance.{Closes, ClosesBetween}
use Rattle.model.specs.Tally.{Known, not_open, open_on, Tally, known, no_tally, above_zero, added_loads, tally_opening, tally_step, tally_withdrawal, hears, tallied, events, shown, shown_under, shown_from, tally_of, tally_says}
use Rattle.model.specs.Laws.{BookCloses}
use Rattle.model.proofs.Rolls.{Stands, open_stands}
use Rattle.model.proofs.Cases.{opening_cases, stepping_cases, withdrawing_cases, looking_cases}
use Rattle.model.proofs.Nodes.{sum_total, opened_storage}
use Rattle.model.proofs.Kept.{starts, all_kept}

-- what a tally should know of a standing
abbrev pub known_of : Standing → Known
known_of outside = not_open
known_of new = not_open
known_of (open_with n) = open_on n.card
known_of withdrawn = not_open

get_or_known : (roll : List Standing) (i : ℕ) → get_or (map known_of roll) i not_open ≡ known_of (get_or roll i outside)
get_or_known [] i = refl
get_or_known (x ∷ roll) zero = refl
get_or_known (x ∷ roll) (suc i) = get_or_known roll i

-- a number that is entered with the same card is known as before
known_same : (roll : List Standing) (k : ℕ) (x s : Standing) → Stands roll k x → known_of s ≡ known_of x → map known_of (entered roll k s) ≡ map known_of roll
known_same roll k x s h e =
    map-set known_of roll (k - 1) s ∙ ap (set (map known_of roll) (k - 1)) e ∙ sym (map-set known_of roll (k - 1) x)
    ∙ ap (λ y. map known_of (set roll (k - 1) y)) (sym h.is) ∙ ap (map known_of) (set-get_or roll (k - 1) outside)

-- The tally's sums are the book's.
above_rising : (z : ℤ) → above_zero z ≡ rising_part z
above_rising (pos n) = refl
above_rising (negsuc n) = refl

added_plus : (xs ys : List ℕ) → added_loads xs ys ≡ plus_loads xs ys
added_plus [] ys = refl
added_plus (x ∷ xs) [] = refl
added_plus (x ∷ xs) (y ∷ ys) = ap (λ zs. (x + y) ∷ zs) (added_plus xs ys)

same_step : (b : Book) (c : Card) (f : Forcing) (y : Yielded) → tally_step b (open_on c) f y ≡ book_step b c f y
same_step b c f y =
    let r = above_rising f.seepage in
    let s = sum_total y.flows in
    let l = added_plus b.loads y.loads in
    cc

-- the tally knows the cards of the open numbers, and has the book's totals
pub record Agrees (d : District) (t : Tally) : Type 0 where
  pub numbers : t.numbers ≡ map known_of d.roll
  pub totals : t.totals ≡ d.book

agrees : (makes : List Make) (d : District) (t : Tally) (call : Call) → Agrees d t → Agrees (does makes d call).after (hears t call (does makes d call).answer)
agrees makes d t (opening k c ss) h =
    opening_cases makes d k c ss (λ o. Agrees o.after (hears t (opening k c ss) o.answer)) (λ r. h)
    (λ e room within. record {
      numbers = ap (λ x. set x (k - 1) (open_on c)) h.numbers ∙ sym (map-set known_of d.roll (k - 1) _);
      totals = ap (λ b. tally_opening b c) h.totals ∙ ap (book_opening d.book) (sym (opened_storage c ss));
    })
agrees makes d t (stepping k f) h =
    stepping_cases makes d k f (λ o. Agrees o.after (hears t (stepping k f) o.answer)) (λ r. h)
    (λ n e a within.
    let knows : known t.numbers k ≡ open_on n.card =
    ap (λ x. known x k) h.numbers ∙ get_or_known (outside ∷ d.roll) k ∙ ap known_of e in
    record {
      numbers = h.numbers ∙ sym (known_same d.roll k (open_with n) _ (open_stands d.roll k n e) refl);
      totals = ap₂ (λ b x. tally_step b x f (yield_of makes n f)) h.totals knows ∙ same_step d.book n.card f (yield_of makes n f);
    })
agrees makes d t (withdrawing k) h =
    withdrawing_cases makes d k (λ o. Agrees o.after (hears t (withdrawing k) o.answer)) (λ r. h)
    (λ n e. record {
      numbers = ap (λ x. set x (k - 1) not_open) h.numbers ∙ sym (map-set known_of d.roll (k - 1) withdrawn);
      totals = ap (λ b. tally_withdrawal b (storage n)) h.totals;
    })
agrees makes d t (looking k) h = looking_cases makes d k (λ o. Agrees o.after (hears t (looking k) o.answer)) (λ r. h) (λ n e. h)
agrees makes d t reading h = h

all_agree : (makes : List Make) (d : District) (t : Tally) (calls : List Call) → Agrees d t → Agrees (after_all makes d calls) (tallied t (events makes d calls))
all_agree makes d t [] h = h
all_agree makes d t (call ∷ calls) h =
    all_agree makes (does makes d call).after (hears t call (does makes d call).answer) calls (agrees makes d t call h)

known_new : (n : ℕ) → replicate n not_open ≡ map known_of (replicate n new)
known_new zero = refl
known_new (suc n) = ap (λ xs. not_open ∷ xs) (known_new n)

-- Looking shows what is stored.
shows_standing : (makes : List Make) (d : District) (k : ℕ) (x : Standing) → standing d.roll k ≡ x → shown_under makes d k (known_of x) ≡ stored x
shows_standing makes d k outside e = refl
shows_standing makes d k new e = refl
shows_standing makes d k withdrawn e = refl
shows_standing makes d k (open_with n) e =
    ap (λ s. shown n.card (tries_look d k s).answer) e
    ∙ ap (λ v. v + (n.moisture + n.depression) * n.card.areas.unpaved.0) (sum_total (each_holds n.reservoirs))

shows_from : (makes : List Make) (d : District) (k : ℕ) (roll : List Standing) → ((i : ℕ) → standing d.roll (k + i) ≡ get_or roll i outside) →
    shown_from makes d k (map known_of roll) ≡ all_stored roll
shows_from makes d k [] h = refl
shows_from makes d k (x ∷ roll) h =
    let first : k + 0 ≡ k = omega arith in
    let here = shows_standing makes d k x (subst (λ i. standing d.roll i ≡ x) first (h 0)) in
    let rest = shows_from makes d (suc k) roll (λ i. let next : k + suc i ≡ suc k + i = omega arith in subst (λ j. standing d.roll j ≡ get_or roll i outside) next (h (suc i))) in
    ap₂ ◌+◌ here rest ∙ sym (sum_by-cons stored x roll)

shows_all : (makes : List Make) (d : District) → shown_from makes d 1 (map known_of d.roll) ≡ all_stored d.roll
shows_all makes d = shows_from makes d 1 d.roll (λ i. let next : suc i ≡ 1 + i = omega arith in subst (λ j. standing d.roll j ≡ get_or d.roll i outside) next refl)

pub agreed : (makes : List Make) (cells : ℕ) (calls : List Call) → Agrees (after_all makes (new_district cells) calls) (tally_of makes cells calls)
agreed makes cells calls = all_agree makes (new_district cells) no_tally calls (record { numbers = known_new number_count; totals = refl })

-- a reading of the district is what the tally says
says : (makes : List Make) (cells : ℕ) (calls : List Call) → reading_of (after_all makes (new_district cells) calls) ≡ tally_says makes cells calls
says makes cells calls =
    let d = after_all makes (new_district cells) calls in
    let h = agreed makes cells calls in
    ap₂ (λ b v. record { totals = b; storage = v }) (sym h.totals) (sym (ap (shown_from makes d 1) h.numbers ∙ shows_all makes d))

closes_between : (q r : Reading) → Closes q → Closes r → ClosesBetween q r
closes_between q r h k = omega (arith, ints)

pub book_closes : (makes : List Make) → Meanings makes → BookCloses makes
book_closes makes mm cells calls p =
    let closed : (cs : List Call) → AllProper makes cs → Closes (tally_says makes cells cs) =
    λ cs q. subst Closes (says makes cells cs) (all_kept makes mm (new_district cells) cs (starts makes cells) q).closes in
    (ap granted (says makes cells calls), closed calls p, λ others q. closes_between (tally_says makes cells calls) (tally_says makes cells others) (closed calls p) (closed others q))
