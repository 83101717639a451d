-- The laws over all places together, of any list of makes with a reservoir's meaning.
use Rattle.std.proofs.Common.{List, [], ◌∷◌, refl, arith}
use Rattle.reservoir.specs.Meaning.{Make}
use Rattle.places.specs.States.{Meanings}
use Rattle.places.specs.Laws.{Balance, Keeps, More, Laws}

pub balance : (makes : List Make) → Meanings makes → Balance makes
balance [] mm [] [] f r = omega arith
balance [] mm [] (v ∷ vs) f r = elim r [ ]
balance [] mm (s ∷ ss) vs f r = elim f [ ]
balance (m ∷ ms) mm [] vs f r = elim f [ ]
balance (m ∷ ms) mm (s ∷ ss) [] f r = elim r [ ]
balance (m ∷ ms) mm (s ∷ ss) (v ∷ vs) f r =
    let x = mm.0.balance s.settings s.cells v f.0 r.0 in
    let y = balance ms mm.1 ss vs f.1 r.1 in omega arith

pub keeps : (makes : List Make) → Meanings makes → Keeps makes
keeps [] mm [] vs f r = tt
keeps [] mm (s ∷ ss) vs f r = elim f [ ]
keeps (m ∷ ms) mm [] vs f r = elim f [ ]
keeps (m ∷ ms) mm (s ∷ ss) [] f r = elim r [ ]
keeps (m ∷ ms) mm (s ∷ ss) (v ∷ vs) f r =
    ((f.0.0, mm.0.keeps s.settings s.cells v f.0 r.0), keeps ms mm.1 ss vs f.1 r.1)

pub more : (makes : List Make) → Meanings makes → More makes
more [] mm ss ts vs ws f g r q h k = (tt, tt)
more (m ∷ ms) mm [] ts vs ws f g r q h k = elim f [ ]
more (m ∷ ms) mm (s ∷ ss) [] vs ws f g r q h k = elim g [ ]
more (m ∷ ms) mm (s ∷ ss) (t ∷ ts) [] ws f g r q h k = elim r [ ]
more (m ∷ ms) mm (s ∷ ss) (t ∷ ts) (v ∷ vs) [] f g r q h k = elim q [ ]
more (m ∷ ms) mm (s ∷ ss) (t ∷ ts) (v ∷ vs) (w ∷ ws) f g r q h k =
    let e = h.0.0 in
    let x = mm.0.more s.settings s.cells t.cells v w f.0 (rw (← e) at g.0) r.0 q.0 h.0.1 k.0 in
    let y = more ms mm.1 ss ts vs ws f.1 g.1 r.1 q.1 h.1 k.1 in
    rw (← e) ((x.0, y.0), ((refl, x.1), y.1))

pub laws : (makes : List Make) → Meanings makes → Laws makes
laws makes mm = record { balance = balance makes mm; keeps = keeps makes mm; more = more makes mm }
