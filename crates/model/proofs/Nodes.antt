-- Opened and stepped nodes are sound; and loads within their bound.
use Rattle.std.proofs.Common.{◌≡◌, ℕ, ◌+◌, ◌*◌, ◌≤◌, List, [], ◌∷◌, length, sum, refl, ap, ◌∙◌, subst, arith}
use Rattle.std.specs.List.{AllByRecursion}
use Rattle.std.proofs.ByRecursion.{All-weaker}
use Rattle.std.proofs.lemmas.List.Sums.{sum_by-cons}
use Rattle.card.specs.Limits.{largest_concentration}
use Rattle.card.specs.declared.card.Card.{Card}
use Rattle.card.proofs.Laws.{loads_bounded}
use Rattle.ground.specs.Limits.{field_capacity}
use Rattle.ground.specs.declared.forcing.Forcing.{Forcing}
use Rattle.node.specs.Rules.{Yielded, Accepted, inflows, soaking, flows_of, yield_of, after}
use Rattle.node.specs.Stores.{Store, opened, storage}
use Rattle.node.proofs.Steps.{sound_after, opened_sound}
use Rattle.places.specs.Laws.{total}
use Rattle.places.specs.States.{State, Meanings, EachFits, EachAccepts, each_leaves, each_emptied, each_holds}
use Rattle.quantity.specs.Amounts.{volume_of}
use Rattle.reservoir.specs.Meaning.{Make}
use Rattle.reservoir.specs.Lists.{held_zeros}
use Rattle.model.specs.Booking.{plus_loads}
use Rattle.model.specs.Runs.{Checked}
use Rattle.model.specs.Soundness.{WithinCapacity, SoundNode}

-- the two sums of a list are one
pub sum_total : (xs : List ℕ) → sum xs ≡ total xs
sum_total [] = refl
sum_total (x ∷ xs) = sum_by-cons (λ y. y) x xs ∙ ap (λ n. x + n) (sum_total xs)

emptied_total : (ss : List State) → total (each_holds (each_emptied ss)) ≡ 0
emptied_total [] = refl
emptied_total (s ∷ ss) = omega (arith, held_zeros (length s.cells), emptied_total ss)

emptied_within : (ss : List State) → WithinCapacity (each_emptied ss)
emptied_within [] = tt
emptied_within (s ∷ ss) = (omega (arith, held_zeros (length s.cells)), emptied_within ss)

-- a reservoir that had room is within its capacity afterwards
leaves_within : (makes : List Make) → Meanings makes → (ss : List State) (vs : List ℕ) → EachFits makes ss → EachAccepts ss vs →
    WithinCapacity (each_leaves makes ss vs)
leaves_within [] mm ss vs f r = tt
leaves_within (m ∷ ms) mm [] vs f r = elim f [ ]
leaves_within (m ∷ ms) mm (s ∷ ss) [] f r = elim r [ ]
leaves_within (m ∷ ms) mm (s ∷ ss) (v ∷ vs) f r =
    let h = r.0 in
    (omega (arith, mm.0.balance s.settings s.cells v f.0 r.0), leaves_within ms mm.1 ss vs f.1 r.1)

pub sound_opened : (makes : List Make) (c : Card) (ss : List State) → Checked c → EachFits makes ss → SoundNode makes (opened c ss)
sound_opened makes c ss checked fits =
    record { card = checked; node = opened_sound makes c ss checked.soil fits; contents = emptied_within ss }

pub sound_stepped : (makes : List Make) → Meanings makes → (n m : Store) (f : Forcing) (y : Yielded) → SoundNode makes n → Accepted makes n f y m →
    SoundNode makes (after makes n f)
sound_stepped makes mm n m f y s a = record {
  card = s.card;
  node = sound_after makes mm n f s.node a.room;
  contents = leaves_within makes mm n.reservoirs (inflows n.card f (soaking n f)) s.node.fits a.room;
}

-- a node is opened with its soil at field capacity, and nothing else
pub opened_storage : (c : Card) (ss : List State) → storage (opened c ss) ≡ volume_of (field_capacity c.soil) c.areas.unpaved.0
opened_storage c ss = let h = emptied_total ss in omega arith

-- loads within m times a, and more loads within m times b, are together within m times both
pub plus_loads_within : (m a b : ℕ) (xs ys : List ℕ) → AllByRecursion (λ x. x ≤ m * a) xs → AllByRecursion (λ y. y ≤ m * b) ys →
    AllByRecursion (λ z. z ≤ m * (a + b)) (plus_loads xs ys)
plus_loads_within m a b [] ys h k = tt
plus_loads_within m a b (x ∷ xs) [] h k =
    All-weaker (λ l. l ≤ m * a) (λ l. l ≤ m * (a + b)) (λ l g. omega arith) (x ∷ xs) h
plus_loads_within m a b (x ∷ xs) (y ∷ ys) h k =
    let g = h.0 in let l = k.0 in (omega arith, plus_loads_within m a b xs ys h.1 k.1)

pub yield_loads_within : (makes : List Make) (n : Store) (f : Forcing) → Checked n.card →
    AllByRecursion (λ load. load ≤ largest_concentration * total (yield_of makes n f).flows) (yield_of makes n f).loads
yield_loads_within makes n f checked =
    let flows = flows_of makes n f in
    let P : ℕ → Type 0 = λ t. AllByRecursion (λ load. load ≤ largest_concentration * t) (yield_of makes n f).loads in
    subst P (sum_total flows) (loads_bounded flows n.card.concentrations.by_flow checked.concentrations)
