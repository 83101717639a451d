-- The first bytes of lines.
use Rattle.std.specs.Prelude.{ℕ, List, [], ◌∷◌}

abbrev pub letter_o : ℕ
letter_o = 111

abbrev pub letter_g : ℕ
letter_g = 103

abbrev pub letter_k : ℕ
letter_k = 107

abbrev pub letter_c : ℕ
letter_c = 99

abbrev pub letter_s : ℕ
letter_s = 115

abbrev pub letter_w : ℕ
letter_w = 119

abbrev pub letter_r : ℕ
letter_r = 114

-- the mark of a remark, #
abbrev pub mark : ℕ
mark = 35

abbrev pub letters : List ℕ
letters = letter_o ∷ letter_g ∷ letter_k ∷ letter_c ∷ letter_s ∷ letter_w ∷ letter_r ∷ mark ∷ []
