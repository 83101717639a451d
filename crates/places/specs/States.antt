-- Reservoirs in a list, an entry for each place, with a list of makes and a list of volumes beside them.
use Rattle.std.specs.Prelude.{ℕ, zero, suc, ◌+◌, ◌-◌, ◌^◌, ◌<◌, min, List, [], ◌∷◌}
use Rattle.reservoir.specs.Cells.{capacity, held, emptied}
use Rattle.reservoir.specs.Meaning.{Settings, Make, Meaning, Fits, Accepts}

-- a reservoir's settings and cells
pub record State : Type 0 where
  pub settings : Settings
  pub cells : List ℕ

-- the state of a reservoir of the type R; the first two arguments say which settings and cells it has
abbrev pub state : {R : Type 0} → (R → Settings) → (R → List ℕ) → R → State
state settings cells r = record { settings = settings r; cells = cells r }

-- every make has a reservoir's meaning
abbrev pub Meanings : List Make → Type 0
Meanings [] = Unit {0}
Meanings (m ∷ ms) = Meaning m × Meanings ms

-- as many reservoirs as makes, and each fits its make
abbrev pub EachFits : List Make → List State → Type 0
EachFits [] [] = Unit {0}
EachFits [] (s ∷ ss) = ⊥
EachFits (m ∷ ms) [] = ⊥
EachFits (m ∷ ms) (s ∷ ss) = Fits m s.settings s.cells × EachFits ms ss

-- as many volumes as reservoirs, and each reservoir has room for its volume
abbrev pub EachAccepts : List State → List ℕ → Type 0
EachAccepts [] [] = Unit {0}
EachAccepts [] (v ∷ vs) = ⊥
EachAccepts (s ∷ ss) [] = ⊥
EachAccepts (s ∷ ss) (v ∷ vs) = Accepts s.cells v × EachAccepts ss vs

-- the reservoir of the number k, from 1, has no room for its volume, and each before it has
abbrev pub FirstRefusal : ℕ → List State → List ℕ → Type 0
FirstRefusal k [] vs = ⊥
FirstRefusal k (s ∷ ss) [] = ⊥
FirstRefusal zero (s ∷ ss) (v ∷ vs) = ⊥
FirstRefusal (suc zero) (s ∷ ss) (v ∷ vs) = capacity < held s.cells + v
FirstRefusal (suc (suc k)) (s ∷ ss) (v ∷ vs) = Accepts s.cells v × FirstRefusal (suc k) ss vs

-- what each gives when it takes its volume
abbrev pub each_gives : List Make → List State → List ℕ → List ℕ
each_gives [] ss vs = []
each_gives (m ∷ ms) [] vs = []
each_gives (m ∷ ms) (s ∷ ss) [] = []
each_gives (m ∷ ms) (s ∷ ss) (v ∷ vs) = m.gives s.settings s.cells v ∷ each_gives ms ss vs

-- what each is then: the same settings, and the cells that its make leaves
abbrev pub each_leaves : List Make → List State → List ℕ → List State
each_leaves [] ss vs = []
each_leaves (m ∷ ms) [] vs = []
each_leaves (m ∷ ms) (s ∷ ss) [] = []
each_leaves (m ∷ ms) (s ∷ ss) (v ∷ vs) =
    record { settings = s.settings; cells = m.leaves s.settings s.cells v } ∷ each_leaves ms ss vs

-- each with its settings, and every cell 0
abbrev pub each_emptied : List State → List State
each_emptied [] = []
each_emptied (s ∷ ss) = record { settings = s.settings; cells = emptied s.cells } ∷ each_emptied ss

-- what each holds
abbrev pub each_holds : List State → List ℕ
each_holds [] = []
each_holds (s ∷ ss) = held s.cells ∷ each_holds ss

-- what each holds as far as a volume can tell: a sum too large for a volume is the largest volume
abbrev pub each_content : List State → List ℕ
each_content [] = []
each_content (s ∷ ss) = min (held s.cells) (2 ^ 64 - 1) ∷ each_content ss
