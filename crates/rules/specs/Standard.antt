-- The units that each standard rule gives a slot, at the assessed capacity.
use Rattle.std.specs.Prelude.{ℕ, ◌-◌, ◌*◌, min, Bool, true, false, not, ◌&&◌, if◌then◌else◌}
use Rattle.records.specs.declared.slot.Slot.{Slot}
use Rattle.records.specs.declared.slot.Outage.{Outage}
use Rattle.records.specs.declared.slot.Outage.TheVariants.{NoOutage, PlannedStop, UnplannedStop, PlannedSuppression, UnplannedSuppression}
use Rattle.records.specs.Slots.{stopped}

-- how many times a missing kilowatt counts under an outage
abbrev pub weight : Outage → ℕ
weight NoOutage = 0
weight PlannedStop = 1
weight UnplannedStop = 5
weight PlannedSuppression = 1
weight UnplannedSuppression = 5

abbrev pub suppressed : Outage → Bool
suppressed NoOutage = false
suppressed PlannedStop = false
suppressed UnplannedStop = false
suppressed PlannedSuppression = true
suppressed UnplannedSuppression = true

-- rule 1
abbrev pub outage_units : ℕ → Slot → ℕ
outage_units assessed s = weight s.outage * (assessed - s.supply)

-- what could have been sold: the available output that was not planned
abbrev pub surplus : ℕ → Slot → ℕ
surplus assessed s = min assessed s.supply - s.plan

-- an offer counts only with its papers
abbrev pub counted_offer : Slot → ℕ
counted_offer s = if s.papers then s.offer else 0

-- rule 2
abbrev pub market_units : ℕ → Slot → ℕ
market_units assessed s =
    if s.low_reserve && not (stopped s.outage) then surplus assessed s - counted_offer s else 0

-- what a dispatch instruction can ask for
abbrev pub basis : ℕ → Slot → ℕ
basis assessed s = if suppressed s.outage then s.supply else assessed

-- rule 3: a kilowatt-hour of the meter is two units
abbrev pub dispatch_units : ℕ → Slot → ℕ
dispatch_units assessed s =
    if s.low_reserve && s.dispatched && not (stopped s.outage) then basis assessed s - 2 * s.meter else 0
