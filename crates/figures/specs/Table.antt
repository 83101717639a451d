-- The worked figures.
use Rattle.std.specs.Prelude.{List, [], ◌∷◌, pos, neg_ℤ}
use Rattle.ground.specs.declared.soil.Soil.{Soil}
use Rattle.figures.specs.Figures.{Figure, from_empty, soaks, carries, soil_of, forcing_of, linear_of, lag_of, series_of, gives, refused}

abbrev loam : Soil
loam = soil_of 10000 30000 40000 2000 1000 500 80 50

abbrev pub table : List Figure
table =
    -- a linear reservoir that keeps a half of its storage and three quarters of what it takes
    from_empty (linear_of 32768 49152) (gives 100 25 ∷ gives 0 38 ∷ gives 0 19 ∷ []) 18
    -- what is kept is rounded down, so that one centilitre is given
    ∷ from_empty (linear_of 32768 49152) (gives 1 1 ∷ []) 0
    -- a lag of two steps
    ∷ from_empty (lag_of 2) (gives 5 0 ∷ gives 7 0 ∷ gives 0 5 ∷ gives 0 7 ∷ []) 0
    -- that linear reservoir, then a lag of one step
    ∷ from_empty (series_of (linear_of 32768 49152) (lag_of 1)) (gives 100 0 ∷ gives 0 25 ∷ []) 75
    -- at the capacity of 10^14 nothing more is taken, and taking nothing is accepted
    ∷ from_empty (lag_of 2) (gives 100000000000000 0 ∷ gives 0 0 ∷ []) 100000000000000
    ∷ from_empty (lag_of 2) (gives 100000000000000 0 ∷ refused 1 ∷ []) 100000000000000
    -- two steps of one soil: 30 mm of rain and 4 mm of evaporation at field capacity, then no rain and 20 mm of sinking seepage
    ∷ soaks loam 30000 0 (forcing_of 3000 400 (pos 0))
    (record { infiltration = 2000; excess = 500; transpiration = 320; percolation = 168; sinking = 0; moisture = 31512; depression = 500 })
    ∷ soaks loam 31512 500 (forcing_of 0 0 (neg_ℤ (pos 2000)))
    (record { infiltration = 500; excess = 0; transpiration = 0; percolation = 201; sinking = 1811; moisture = 30000; depression = 0 })
    -- 50,000 centilitres at 6.9 mg/l
    ∷ carries 50000 690 3 4500000
    ∷ []
