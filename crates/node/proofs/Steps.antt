-- The balance of a step, and that more rain gives no less.
use Rattle.std.proofs.Common.{◌≡◌, ℕ, ◌+◌, ◌-◌, ◌*◌, ◌^◌, ◌≤◌, min, List, [], ◌∷◌, length, sym, refl, ap, ◌∙◌, subst, mul-le-mul_right, arith}
use lib.ListN.{length-replicate}
use Rattle.card.specs.Limits.{all_areas, hard_areas}
use Rattle.card.specs.Loads.{loads_of}
use Rattle.card.specs.declared.card.Card.{Card}
use Rattle.card.proofs.Laws.{loads_grow}
use Rattle.ground.specs.Laws.{Wetter}
use Rattle.ground.specs.Laws as ground_laws
use Rattle.ground.specs.Limits.{Admissible}
use Rattle.ground.specs.Rules.{Soaked, soaked, slow_part, quick_part}
use Rattle.ground.specs.declared.forcing.Forcing.{Forcing}
use Rattle.ground.proofs.Flows.{seepage_law, slow_share_laws}
use Rattle.ground.proofs.Steps as ground_steps
use Rattle.places.specs.Laws.{total, EachAtMost}
use Rattle.places.specs.States.{State, Meanings, EachFits, EachAccepts, each_gives, each_leaves, each_emptied, each_holds, each_content}
use Rattle.places.proofs.Together as together
use Rattle.quantity.specs.Amounts.{volume_of}
use Rattle.reservoir.specs.Cells.{AtMost}
use Rattle.reservoir.specs.Meaning.{Make}
use Rattle.reservoir.specs.Lists.{held-++, at_most-++}
use Rattle.node.specs.Stores.{Store, opened, storage}
use Rattle.node.specs.Rules.{hard_evaporation, hard_runoff, soaking, inflows, rained, risen, flows_of, after}
use Rattle.node.specs.Laws.{Sound, StaysSound, StepsBalance, Pair, accepted, refused, PairRun, EachStoreAtMost, NoLess, MoreRainGivesNoLess}

-- Over plain numbers: h is the hard runoff and e the hard evaporation, of which the rain r is made; on the unpaved area u
-- the ground turns r, m and b into x, t, p, k, n and d; and p over u is parted into q and l.
balance_of_numbers : (h e r o v w u m b x t p k n d q l : ℕ) → h + e ≡ r → r + m + b ≡ x + t + p + k + n + d → q + l ≡ p * u →
    r * (o + v + w + u) + (m + b) * u
    ≡ (h * o + (h * v + (h * w + (x * u + (q + (l + 0)))))) + e * (o + v + w) + t * u + k * u + (n + d) * u
balance_of_numbers h e r o v w u m b x t p k n d q l hard ground parts =
    let a = ap (λ y. y * (o + v + w)) hard in
    let c = ap (λ y. y * u) ground in omega arith

-- what a step brings into the reservoirs, with what evaporates, sinks and is left, is the rain and what was there
balance_of_ground : (c : Card) (f : Forcing) (m b : ℕ) → Admissible c.soil →
    rained c f + volume_of (m + b) c.areas.unpaved.0
    ≡ total (inflows c f (soaked c.soil m b f)) + volume_of (hard_evaporation f) (hard_areas c.areas)
    + volume_of (soaked c.soil m b f).transpiration c.areas.unpaved.0
    + volume_of (soaked c.soil m b f).sinking c.areas.unpaved.0
    + volume_of ((soaked c.soil m b f).moisture + (soaked c.soil m b f).depression) c.areas.unpaved.0
balance_of_ground c f m b s =
    let r = soaked c.soil m b f in
    let g = (ground_steps.balance c.soil s m b f).ground in
    let w = (slow_share_laws c.soil s).within (r.percolation * c.areas.unpaved.0) in
    let hard : hard_runoff f + hard_evaporation f ≡ f.rain.0 = omega arith in
    balance_of_numbers (hard_runoff f) (hard_evaporation f) f.rain.0 c.areas.open.0 c.areas.paved.0 c.areas.sewer.0 c.areas.unpaved.0 m b
    r.excess r.transpiration r.percolation r.sinking r.moisture r.depression
    (quick_part c.soil (r.percolation * c.areas.unpaved.0)) (slow_part c.soil (r.percolation * c.areas.unpaved.0)) hard g (omega arith)

pub steps_balance : (makes : List Make) → Meanings makes → StepsBalance makes
steps_balance makes mm n m f y s a =
    let i = inflows n.card f (soaking n f) in
    let g = balance_of_ground n.card f n.moisture n.depression s.soil in
    let p = together.balance makes mm n.reservoirs i s.fits a.room in
    let q = held-++ (each_gives makes n.reservoirs i) (risen n.card f ∷ []) in
    subst (λ z. rained n.card f + risen n.card f + storage n ≡ y.evaporated + total y.flows + y.sunk + storage z) (sym a.leaves)
    (subst (λ z. rained n.card f + risen n.card f + storage n ≡ z.evaporated + total z.flows + z.sunk + storage (after makes n f)) (sym a.answer) (omega arith))

-- a node by its card and stores
abbrev node_of : Card → ℕ → ℕ → List State → Store
node_of c m d ss = record { card = c; moisture = m; depression = d; reservoirs = ss }

hard_runoff_more : (f g : Forcing) → Wetter f g → hard_runoff f ≤ hard_runoff g
hard_runoff_more f g w = let r = w.rain in let e = w.evaporation in omega arith

-- at least as much goes into each reservoir
inflows_more : (c : Card) (f g : Forcing) (q r : Soaked) → Admissible c.soil → Wetter f g → ground_laws.NoLess q r →
    AtMost (inflows c f q) (inflows c g r)
inflows_more c f g q r s w h =
    let k = hard_runoff_more f g w in
    let p = (slow_share_laws c.soil s).more (volume_of q.percolation c.areas.unpaved.0) (volume_of r.percolation c.areas.unpaved.0)
    (mul-le-mul_right c.areas.unpaved.0 h.percolation) in (
      mul-le-mul_right c.areas.open.0 k,
      (
        mul-le-mul_right c.areas.paved.0 k,
        (
          mul-le-mul_right c.areas.sewer.0 k,
          (mul-le-mul_right c.areas.unpaved.0 h.excess, (p.1, (p.0, tt))),
        ),
      ),
    )

-- what one pair of accepted steps shows, from two nodes on one card
record Onward (makes : List Make) (c : Card) (f g : Forcing) (m n d e : ℕ) (ss ts : List State) : Type 0 where
  flows : AtMost (flows_of makes (node_of c m d ss) f) (flows_of makes (node_of c n e ts) g)
  stores : EachStoreAtMost (after makes (node_of c m d ss) f) (after makes (node_of c n e ts) g)

onward : (makes : List Make) → Meanings makes → (c : Card) (f g : Forcing) (m n d e : ℕ) (ss ts : List State) →
    Sound makes (node_of c m d ss) → Sound makes (node_of c n e ts) → EachStoreAtMost (node_of c m d ss) (node_of c n e ts) → Wetter f g →
    EachAccepts ss (inflows c f (soaked c.soil m d f)) → EachAccepts ts (inflows c g (soaked c.soil n e g)) →
    Onward makes c f g m n d e ss ts
onward makes mm c f g m n d e ss ts s t h w x y =
    let k = ground_steps.more_gives_no_less c.soil s.soil m n d e f g h.moisture t.within.in_soil h.depression w in
    let i = inflows_more c f g (soaked c.soil m d f) (soaked c.soil n e g) s.soil w k in
    let p = together.more makes mm ss ts (inflows c f (soaked c.soil m d f)) (inflows c g (soaked c.soil n e g)) s.fits t.fits x y h.reservoirs i in
    record {
      flows = at_most-++ (each_gives makes ss (inflows c f (soaked c.soil m d f))) (each_gives makes ts (inflows c g (soaked c.soil n e g)))
          (risen c f ∷ []) (risen c g ∷ []) p.0 (mul-le-mul_right (all_areas c.areas) (seepage_law f.seepage g.seepage w.seepage).0, tt);
      stores = record { moisture = k.moisture; depression = k.depression; reservoirs = p.1 };
    }

-- an accepted step leaves a sound node
pub sound_after : (makes : List Make) → Meanings makes → (n : Store) (f : Forcing) → Sound makes n →
    EachAccepts n.reservoirs (inflows n.card f (soaking n f)) → Sound makes (after makes n f)
sound_after makes mm n f s x = record {
  soil = s.soil;
  within = ground_steps.stays_within n.card.soil s.soil n.moisture n.depression f s.within;
  fits = together.keeps makes mm n.reservoirs (inflows n.card f (soaking n f)) s.fits x;
}

no_less : (makes : List Make) → Meanings makes → (c : Card) (m n d e : ℕ) (ss ts : List State) (ps : List Pair) →
    Sound makes (node_of c m d ss) → Sound makes (node_of c n e ts) → EachStoreAtMost (node_of c m d ss) (node_of c n e ts) →
    PairRun makes (node_of c m d ss) (node_of c n e ts) ps → NoLess (node_of c m d ss) (node_of c n e ts) ps
no_less makes mm c m n d e ss ts [] s t h r = tt
no_less makes mm c m n d e ss ts (accepted f y a g z b ∷ ps) s t h r =
    let v = r.1.0 in
    let w = r.1.1.0 in
    let o = onward makes mm c f g m n d e ss ts s t h r.0 v.room w.room in
    let i = no_less makes mm c
    (soaked c.soil m d f).moisture (soaked c.soil n e g).moisture (soaked c.soil m d f).depression (soaked c.soil n e g).depression
    (each_leaves makes ss (inflows c f (soaked c.soil m d f))) (each_leaves makes ts (inflows c g (soaked c.soil n e g))) ps
    (sound_after makes mm (node_of c m d ss) f s v.room) (sound_after makes mm (node_of c n e ts) g t w.room) o.stores
    (subst (λ q. PairRun makes q (after makes (node_of c n e ts) g) ps) v.leaves (subst (λ q. PairRun makes a q ps) w.leaves r.1.1.1)) in
    let x : (AtMost y.flows z.flows) × (AtMost y.loads z.loads) =
    subst (λ q. (AtMost q.flows z.flows) × (AtMost q.loads z.loads)) (sym v.answer)
    (subst (λ q. (AtMost (flows_of makes (node_of c m d ss) f) q.flows) × (AtMost (loads_of (flows_of makes (node_of c m d ss) f) c.concentrations.by_flow) q.loads)) (sym w.answer)
    (o.flows, loads_grow (flows_of makes (node_of c m d ss) f) (flows_of makes (node_of c n e ts) g) c.concentrations.by_flow o.flows)) in
    let k : (EachStoreAtMost a b) × (NoLess a b ps) =
    subst (λ q. (EachStoreAtMost q b) × (NoLess q b ps)) (sym v.leaves)
    (subst (λ q. (EachStoreAtMost (after makes (node_of c m d ss) f) q) × (NoLess (after makes (node_of c m d ss) f) q ps)) (sym w.leaves) (o.stores, i)) in
    (x.0, (x.1, (k.0, k.1)))
no_less makes mm c m n d e ss ts (refused f g ∷ ps) s t h r = (h, no_less makes mm c m n d e ss ts ps s t h r.1)

at_most_self : (c : List ℕ) → AtMost c c
at_most_self [] = tt
at_most_self (x ∷ c) = (omega arith, at_most_self c)

each_at_most_self : (ss : List State) → EachAtMost ss ss
each_at_most_self [] = tt
each_at_most_self (s ∷ ss) = ((refl, at_most_self s.cells), each_at_most_self ss)

each_emptied_fits : (makes : List Make) (ss : List State) → EachFits makes ss → EachFits makes (each_emptied ss)
each_emptied_fits [] [] f = tt
each_emptied_fits [] (s ∷ ss) f = elim f [ ]
each_emptied_fits (m ∷ ms) [] f = elim f [ ]
each_emptied_fits (m ∷ ms) (s ∷ ss) f = ((f.0.0, length-replicate (length s.cells) 0 ∙ f.0.1), each_emptied_fits ms ss f.1)

pub opened_sound : (makes : List Make) (c : Card) (ss : List State) → Admissible c.soil → EachFits makes ss → Sound makes (opened c ss)
opened_sound makes c ss s f = record {
  soil = s;
  within = record { in_soil = omega arith; in_storage = omega arith };
  fits = each_emptied_fits makes ss f;
}

pub stays_sound : (makes : List Make) → Meanings makes → StaysSound makes
stays_sound makes mm = record {
  opens = opened_sound makes;
  steps = λ n m f y s a. subst (Sound makes) (sym a.leaves) (sound_after makes mm n f s a.room);
}

pub more_rain_gives_no_less : (makes : List Make) → Meanings makes → MoreRainGivesNoLess makes
more_rain_gives_no_less makes mm c ss ps s f r =
    let o = opened_sound makes c ss s f in
    no_less makes mm c (opened c ss).moisture (opened c ss).moisture 0 0 (each_emptied ss) (each_emptied ss) ps o o
    (record { moisture = omega arith; depression = omega arith; reservoirs = each_at_most_self (each_emptied ss) }) r

-- the sum of what volumes can tell of the reservoirs' contents tells as much as a volume can of their sum
pub contents_total : (ss : List State) → min (total (each_content ss)) (2 ^ 64 - 1) ≡ min (total (each_holds ss)) (2 ^ 64 - 1)
contents_total [] = refl
contents_total (s ∷ ss) = let h = contents_total ss in omega arith
