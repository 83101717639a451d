-- Emptied cells of the makes with which a storm is routed, and what a line of three numbers says.
use Rattle.std.proofs.Common.{◌≡◌, ℕ, List, [], ◌∷◌, length, get_or, replicate, Ok, Err, Result, ap, ◌∙◌, arith, MatchResult}
use lib.ListN.{length-replicate}
use Rattle.decimal.specs.Reading.{WritesAll}
use Rattle.hydrograph.specs.Refusals.{Written, RefusesNumbers, RefusesSettings}
use Rattle.hydrograph.specs.declared.refused.SettingsFault.{SettingsFault}
use Rattle.hydrograph.specs.declared.refused.SettingsFault.TheVariants.{NotThreeNumbers, Linear, Lag}
use Rattle.hydrograph.specs.declared.storm.Settings.{Settings}
use Rattle.reservoir.specs.Cells.{emptied}

pub emptied_zeros : (n : ℕ) (c : List ℕ) → c ≡ replicate n 0 → emptied c ≡ replicate n 0
emptied_zeros n c e = ap (λ k. replicate k 0) (ap length e ∙ length-replicate n 0)

-- the settings that three numbers are
abbrev settings_of : List ℕ → Settings
settings_of ns = record { recession = get_or ns 0 0; retention = get_or ns 1 0; steps = get_or ns 2 0 }

written : (line ns : List ℕ) (P : Settings → Type 0) → WritesAll 3 line ns → P (settings_of ns) → Written line P
written line [] P w h = absurd (omega (arith, w.0))
written line (a ∷ []) P w h = absurd (omega (arith, w.0))
written line (a ∷ b ∷ []) P w h = absurd (omega (arith, w.0))
written line (a ∷ b ∷ n ∷ []) P w h = record { settings = settings_of (a ∷ b ∷ n ∷ []); writes = w; holds = h }
written line (a ∷ b ∷ n ∷ m ∷ ms) P w h = absurd (omega (arith, w.0))

pub prepared : {M : Type 0} (line ns : List ℕ) (P : Settings → M → Type 0) (r : Result M SettingsFault) → WritesAll 3 line ns →
    MatchResult r (P (settings_of ns)) (RefusesNumbers (settings_of ns)) → MatchResult r (λ made. Written line (λ s. P s made)) (RefusesSettings line)
prepared line ns P (Ok made) w h = written line ns (λ s. P s made) w h
prepared line ns P (Err NotThreeNumbers) w h = absurd h
prepared line ns P (Err (Linear fault)) w h = written line ns (λ s. RefusesNumbers s (Linear fault)) w h
prepared line ns P (Err (Lag fault)) w h = written line ns (λ s. RefusesNumbers s (Lag fault)) w h
