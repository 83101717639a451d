-- The numbers of a reservoir's faults. The reservoirs are layer 4; a reservoir by itself has no place.
use Rattle.std.specs.Prelude.{◌≡◌}
use Rattle.reservoir.specs.declared.fault.Fault.{Fault}
use Rattle.reservoir.specs.declared.fault.Fault.TheVariants.{InvalidSettings, OverCapacity}
use Rattle.reservoir.specs.declared.fault.Refusal.{Refusal}

abbrev pub refusal : Fault → Refusal
refusal InvalidSettings = record { cause = 4; layer = 4; place = 0 }
refusal OverCapacity = record { cause = 5; layer = 4; place = 0 }

-- refused with cause 4: the settings are not valid
abbrev pub Invalid : Fault → Type 0
Invalid fault = refusal fault ≡ record { cause = 4; layer = 4; place = 0 }

-- refused with cause 5: there is no room
abbrev pub Full : Fault → Type 0
Full fault = refusal fault ≡ record { cause = 5; layer = 4; place = 0 }
