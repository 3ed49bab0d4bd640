-- The limits of a slot, and when a slot is no worse than another.
use Rattle.std.specs.Prelude.{◌≡◌, ◌≤◌, ◌⊎◌, Bool, true, false, IsTrue}
use Rattle.records.specs.declared.slot.Slot.{Slot}
use Rattle.records.specs.declared.slot.Outage.{Outage}
use Rattle.records.specs.declared.slot.Outage.TheVariants.{NoOutage, PlannedStop, UnplannedStop, PlannedSuppression, UnplannedSuppression}

-- each number is at most its limit
pub record Within (s : Slot) : Type 0 where
  pub supply : s.supply ≤ 2000000
  pub plan : s.plan ≤ 2000000
  pub offer : s.offer ≤ 2000000
  pub meter : s.meter ≤ 1000000

-- the plant stands still
abbrev pub stopped : Outage → Bool
stopped NoOutage = false
stopped PlannedStop = true
stopped UnplannedStop = true
stopped PlannedSuppression = false
stopped UnplannedSuppression = false

-- the same outage, or the planned one in place of the unplanned one
abbrev pub NoWorseOutage : Outage → Outage → Type 0
NoWorseOutage b a =
    (b ≡ a)
    ⊎ ((b ≡ PlannedStop) × (a ≡ UnplannedStop))
    ⊎ ((b ≡ PlannedSuppression) × (a ≡ UnplannedSuppression))

-- the same supply, or of a plant that stands still at least as much
abbrev pub NoWorseSupply : Slot → Slot → Type 0
NoWorseSupply b a = (b.supply ≡ a.supply) ⊎ (IsTrue (stopped b.outage) × (a.supply ≤ b.supply))

-- the slot b is no worse than the slot a
pub record NoWorse (b a : Slot) : Type 0 where
  pub outage : NoWorseOutage b.outage a.outage
  pub low_reserve : IsTrue b.low_reserve → IsTrue a.low_reserve
  pub dispatched : IsTrue b.dispatched → IsTrue a.dispatched
  pub papers : IsTrue a.papers → IsTrue b.papers
  pub plan : a.plan ≤ b.plan
  pub offer : a.offer ≤ b.offer
  pub meter : a.meter ≤ b.meter
  pub supply : NoWorseSupply b a
