-- A refused line leaves the district as it was and no half-made card.
use Rattle.std.proofs.Common.{◌≡◌, ℕ, List, Some, None, Ok, Err, Option, Result, refl, ap, arith}
use Rattle.card.specs.declared.areas.Areas.{Areas}
use Rattle.card.specs.declared.card.Card.{Card}
use Rattle.card.specs.declared.fault.CardFault.{CardFault}
use Rattle.command.specs.declared.command.Command.{Command}
use Rattle.command.specs.declared.command.Command.TheVariants.{Begin, Ground, Equip, Open, Step, Withdraw, Read}
use Rattle.ground.specs.declared.soil.Soil.{Soil}
use Rattle.model.specs.Calls as calls
use Rattle.model.specs.Calls.{Call, opening, stepping, withdrawing, reading, Granted, refused, granted}
use Rattle.model.specs.Rules.{does}
use Rattle.model.specs.State.{District}
use Rattle.model.proofs.Unchanged.{changes_nothing}
use Rattle.places.specs.States.{State}
use Rattle.places.specs.declared.fault.PlacedFault.{PlacedFault}
use Rattle.reservoir.specs.Meaning.{Make}
use Rattle.reservoir.specs.declared.fault.Refusal.{Refusal}
use Rattle.session.specs.Entries.{Entry, Answer, opened, stepped, withdrawn, balance}
use Rattle.session.specs.Equipments.{Equipping}
use Rattle.session.specs.Laws.{RefusedLineDropsCard}
use Rattle.session.specs.Rules.{Done, called, entry_of, ends, obeys, takes_soil, takes_fractions, takes_concentrations, commanded, equips}
use Rattle.session.specs.Stages.{Stage, idle, has_areas, has_soil, has_reservoirs, idling}

-- where an answer is a refusal, the district is left as it was and no card is
abbrev DropsCard : District → Done → Type 0
DropsCard d done = (r : Refusal) → done.answer ≡ Err r → done.after ≡ idling d

accepted : (x : Option Entry) (r : Refusal) → ◌≡◌ {A = Answer} (Ok x) (Err r) → ⊥
accepted x r e = let z : ◌≡◌ {A = ℕ} 0 1 = cc in omega arith

answer_drops : (makes : List Make) (d : District) (call : Call) (entry : Granted call → Entry) (a : calls.Answer call) → (does makes d call).answer ≡ a →
    (r : Refusal) → entry_of call entry a ≡ Err r → (does makes d call).after ≡ d
answer_drops makes d call entry (refused q) e r h = (changes_nothing makes).refusal d call q e
answer_drops makes d call entry (granted x) e r h = elim (accepted (Some (entry x)) r h) [ ]

call_drops : (makes : List Make) (d : District) (call : Call) (entry : Granted call → Entry) → DropsCard d (called call entry (does makes d call))
call_drops makes d call entry r h = ap idling (answer_drops makes d call entry (does makes d call).answer refl r h)

idle_drops : (makes : List Make) (d : District) (c : Command) → DropsCard d (obeys makes d c)
idle_drops makes d (Begin n a) r h = elim (accepted None r h) [ ]
idle_drops makes d (Ground g) r h = refl
idle_drops makes d (Equip fs) r h = refl
idle_drops makes d (Open cs) r h = refl
idle_drops makes d (Step n f) r h = call_drops makes d (stepping n f) (λ y. stepped n y.flows) r h
idle_drops makes d (Withdraw n) r h = call_drops makes d (withdrawing n) (withdrawn n) r h
idle_drops makes d Read r h = call_drops makes d reading balance r h

areas_drop : (d : District) (k : ℕ) (a : Areas) (c : Command) → DropsCard d (takes_soil d k a c)
areas_drop d k a (Begin n b) r h = refl
areas_drop d k a (Ground g) r h = elim (accepted None r h) [ ]
areas_drop d k a (Equip fs) r h = refl
areas_drop d k a (Open cs) r h = refl
areas_drop d k a (Step n f) r h = refl
areas_drop d k a (Withdraw n) r h = refl
areas_drop d k a Read r h = refl

equips_drop : (d : District) (k : ℕ) (a : Areas) (g : Soil) (x : Result (List State) PlacedFault) → DropsCard d (equips d k a g x)
equips_drop d k a g (Ok ss) r h = elim (accepted None r h) [ ]
equips_drop d k a g (Err f) r h = refl

soil_drops : (equipped : Equipping) (d : District) (k : ℕ) (a : Areas) (g : Soil) (c : Command) → DropsCard d (takes_fractions equipped d k a g c)
soil_drops equipped d k a g (Begin n b) r h = refl
soil_drops equipped d k a g (Ground s) r h = refl
soil_drops equipped d k a g (Equip fs) r h = equips_drop d k a g (equipped fs) r h
soil_drops equipped d k a g (Open cs) r h = refl
soil_drops equipped d k a g (Step n f) r h = refl
soil_drops equipped d k a g (Withdraw n) r h = refl
soil_drops equipped d k a g Read r h = refl

ends_drop : (makes : List Make) (d : District) (k : ℕ) (card : Card) (ss : List State) (f : Option CardFault) → DropsCard d (ends makes d k card ss f)
ends_drop makes d k card ss (Some f) r h = refl
ends_drop makes d k card ss None r h = call_drops makes d (opening k card ss) (opened k) r h

reservoirs_drop : (makes : List Make) (d : District) (k : ℕ) (a : Areas) (g : Soil) (ss : List State) (c : Command) → DropsCard d (takes_concentrations makes d k a g ss c)
reservoirs_drop makes d k a g ss (Begin n b) r h = refl
reservoirs_drop makes d k a g ss (Ground s) r h = refl
reservoirs_drop makes d k a g ss (Equip fs) r h = refl
reservoirs_drop makes d k a g ss (Open cs) r h = ends_drop makes d k _ ss _ r h
reservoirs_drop makes d k a g ss (Step n f) r h = refl
reservoirs_drop makes d k a g ss (Withdraw n) r h = refl
reservoirs_drop makes d k a g ss Read r h = refl

stage_drops : (makes : List Make) (equipped : Equipping) (d : District) (stage : Stage) (c : Command) → DropsCard d (commanded makes equipped d stage c)
stage_drops makes equipped d idle c r h = idle_drops makes d c r h
stage_drops makes equipped d (has_areas k a) c r h = areas_drop d k a c r h
stage_drops makes equipped d (has_soil k a g) c r h = soil_drops equipped d k a g c r h
stage_drops makes equipped d (has_reservoirs k a g ss) c r h = reservoirs_drop makes d k a g ss c r h

pub refused_line_drops_card : (makes : List Make) → RefusedLineDropsCard makes
refused_line_drops_card makes equipped s (Err fault) r e = refl
refused_line_drops_card makes equipped s (Ok None) r e = elim (accepted None r e) [ ]
refused_line_drops_card makes equipped s (Ok (Some command)) r e = stage_drops makes equipped s.district s.stage command r e
