-- The numbers of a district's faults. The district is layer 2; a node's fault and a reservoir's keep their own.
use Rattle.model.specs.Refusals.{number_outside, number_open, number_withdrawn, no_unused_cell, income_too_large, number_new}
use Rattle.node.specs.Faults.{step_refusal}
use Rattle.reservoir.specs.declared.fault.Refusal.{Refusal}
use Rattle.roll.specs.declared.fault.DistrictFault.{DistrictFault}
use Rattle.roll.specs.declared.fault.DistrictFault.TheVariants.{NumberOutside, NumberOpen, NumberWithdrawn, NoUnusedCell, IncomeTooLarge, NumberNew, Step}

abbrev pub district_refusal : DistrictFault → Refusal
district_refusal NumberOutside = number_outside
district_refusal NumberOpen = number_open
district_refusal NumberWithdrawn = number_withdrawn
district_refusal NoUnusedCell = no_unused_cell
district_refusal IncomeTooLarge = income_too_large
district_refusal NumberNew = number_new
district_refusal (Step fault) = step_refusal fault
