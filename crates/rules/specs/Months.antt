-- Which slot lists can be assessed, and what rules come to over them.
use Rattle.std.specs.Prelude.{◌≡◌, ℕ, ◌<◌, ◌≤◌, IsTrue, List, length, Some, All, HoldsAt, sum_by}
use Rattle.std.specs.List.{AllWithin}
use Rattle.calendar.specs.Calendar.{slots_in}
use Rattle.records.specs.declared.slot.Slot.{Slot}
use Rattle.records.specs.Slots.{Within, NoWorse}
use Rattle.rules.specs.declared.assessment.OpenMonth.{OpenMonth}
use Rattle.rules.specs.declared.assessment.PerRule.{PerRule}
use Rattle.rules.specs.declared.assessment.SlotsRefusal.{SlotsRefusal}
use Rattle.rules.specs.declared.assessment.SlotsRefusal.TheVariants.{WrongSlotCount, UnfitSlot}
use Rattle.rules.specs.Standard.{suppressed}

-- a rule as the books know it: its number, and the units that it gives a slot
pub record RuleOf : Type 0 where
  pub number : ℕ
  pub units : Slot → ℕ

-- what every rule shows: its number from 1 to 255, its range, and that a slot no worse than another never gets more units
pub record Lawful (rule : RuleOf) : Type 0 where
  pub numbered : (1 ≤ rule.number) × (rule.number ≤ 255)
  pub range : (s : Slot) → Within s → rule.units s ≤ 10000000
  pub no_worse : (b a : Slot) → Within b → Within a → NoWorse b a → rule.units b ≤ rule.units a

-- a slot can be assessed: it is within its limits, and a suppressed plant supplies at most the assessed capacity
pub record Fit (assessed : ℕ) (s : Slot) : Type 0 where
  pub within : Within s
  pub suppression : IsTrue (suppressed s.outage) → s.supply ≤ assessed

-- the first slot that cannot be assessed stands at the place, counted from 0
pub record FirstUnfit (assessed : ℕ) (slots : List Slot) (place : ℕ) : Type 0 where
  pub in_list : place < length slots
  pub fit_before : AllWithin (Fit assessed) slots 0 place
  pub unfit : HoldsAt (λ s. ¬ Fit assessed s) slots place

-- as many slots as the month has, each fit
pub record FitSlots (month : OpenMonth) (slots : List Slot) : Type 0 where
  pub counted : slots_in month.year month.month ≡ Some (length slots)
  pub fit : All (Fit month.assessed) slots

-- when each refusal of a slot list is given
abbrev pub Refuses : OpenMonth → List Slot → SlotsRefusal → Type 0
Refuses month slots WrongSlotCount = slots_in month.year month.month ≡ Some (length slots) → ⊥
Refuses month slots (UnfitSlot place) = (slots_in month.year month.month ≡ Some (length slots)) × FirstUnfit month.assessed slots place

-- the units of all the slots together
abbrev pub month_units : (Slot → ℕ) → List Slot → ℕ
month_units units slots = sum_by units slots

abbrev pub numbers_of : PerRule RuleOf → PerRule ℕ
numbers_of rules = record { outage = rules.outage.number; market = rules.market.number; dispatch = rules.dispatch.number }

abbrev pub units_of : PerRule RuleOf → List Slot → PerRule ℕ
units_of rules slots = record {
  outage = month_units rules.outage.units slots;
  market = month_units rules.market.units slots;
  dispatch = month_units rules.dispatch.units slots;
}

-- what is answered for a slot list that can be assessed
pub record Assesses (month : OpenMonth) (slots : List Slot) (rules : PerRule RuleOf) (numbers units : PerRule ℕ) : Type 0 where
  pub fit : FitSlots month slots
  pub own_numbers : numbers ≡ numbers_of rules
  pub summed : units ≡ units_of rules slots
