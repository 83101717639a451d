-- The laws of the rules, one by one.
use Rattle.std.proofs.Common.{◌≡◌, ℕ, ◌+◌, ◌-◌, ◌*◌, ◌/◌, ◌<◌, ◌≤◌, min, pos, negsuc, ap, ◌∙◌, mul-div_cancel, arith}
use Rattle.std.proofs.lemmas.Int.{ints}
use Rattle.ground.specs.Limits.{field_capacity, percolation_limit, drainable_depth}
use Rattle.ground.specs.Seepage.{SeepageLaw}
use Rattle.ground.specs.Rules.{percolation_of}
use Rattle.ground.specs.Laws.{EveryAdmissible, InfiltrationLaws, SurfaceLaws, TranspirationLaws, PercolationLaws, SinkingLaws, SlowShareLaws}
use Rattle.ground.proofs.Shares.{share_more, share_slower, share_within}

pub seepage_law : SeepageLaw
seepage_law (pos a) (pos b) h = (omega (arith, ints), omega (arith, ints))
seepage_law (pos a) (negsuc b) h = (omega (arith, ints), omega (arith, ints))
seepage_law (negsuc a) (pos b) h = (omega (arith, ints), omega (arith, ints))
seepage_law (negsuc a) (negsuc b) h = (omega (arith, ints), omega (arith, ints))

pub infiltration_laws : EveryAdmissible InfiltrationLaws
infiltration_laws s a = record {
  within = λ m u h. (omega arith, omega arith);
  more = λ m n u v h k l. (omega arith, omega arith);
}

pub surface_laws : EveryAdmissible SurfaceLaws
surface_laws s a = record { balance = λ u. omega arith; more = λ u v h. (omega arith, omega arith) }

pub transpiration_laws : EveryAdmissible TranspirationLaws
transpiration_laws s a = record {
  within = λ m e. omega arith;
  more = λ m n d e h k. let demand = share_more s.crop_factor 100 e d (omega arith) k in omega arith;
}

pub percolation_laws : EveryAdmissible PercolationLaws
percolation_laws s a = record {
  within = λ m.
      let d : ℕ = min (m - field_capacity s) (drainable_depth s) in
      let w = share_within (percolation_limit s) (drainable_depth s) d a.percolation_limit in omega arith;
  full = λ m h.
      let e : min (m - field_capacity s) (drainable_depth s) ≡ drainable_depth s = omega arith in
      let some : 0 < drainable_depth s = omega arith in
      ap (λ d. percolation_limit s * d / drainable_depth s) e ∙ mul-div_cancel (percolation_limit s) some;
  more = λ m n h.
      let k : ℕ = drainable_depth s in
      let d : ℕ = min (m - field_capacity s) k in
      let e : ℕ = min (n - field_capacity s) k in
      let up : percolation_of s m ≤ percolation_of s n = share_more (percolation_limit s) k d e (omega arith) (omega arith) in
      let slower : percolation_of s n ≤ percolation_of s m + (e - d) = share_slower (percolation_limit s) k d e (omega arith) a.percolation_limit (omega arith) in
      (up, omega arith);
}

pub sinking_laws : EveryAdmissible SinkingLaws
sinking_laws s a = record { within = λ m k. omega arith; more = λ m n j k h l. omega arith }

pub slow_share_laws : EveryAdmissible SlowShareLaws
slow_share_laws s a = record {
  within = λ x. share_within s.slow_share 100 x a.slow_share;
  more = λ x y h.
      let slower = share_slower s.slow_share 100 x y (omega arith) a.slow_share h in
      (share_more s.slow_share 100 x y (omega arith) h, omega arith);
}
