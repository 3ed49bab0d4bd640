-- Slot lists that can be assessed.
use Rattle.std.proofs.Common.{◌≡◌, ◌≤◌, List, [], ◌∷◌, length, All, arith}
use Rattle.std.specs.List.{AllZip}
use Rattle.std.proofs.lemmas.List.Elements.{All-head, All-tail, All-weaker}
use Rattle.std.proofs.lemmas.List.Sums.{sum_by-cons, sum_by-le}
use Rattle.calendar.proofs.Slots.{slots_upto}
use Rattle.records.specs.declared.slot.Slot.{Slot}
use Rattle.records.specs.Slots.{Within, NoWorse}
use Rattle.rules.specs.declared.assessment.OpenMonth.{OpenMonth}
use Rattle.rules.specs.Months.{RuleOf, Lawful, Fit, FitSlots, month_units}

module _ {month : OpenMonth} {slots : List Slot} (f : FitSlots month slots) where
  pub few : length slots ≤ 1488
  few = slots_upto month.year month.month (length slots) f.counted

  pub within : All Within slots
  within = All-weaker (Fit month.assessed) Within (λ s h. h.within) slots f.fit

-- a month has at most 14,880,000,000 units
pub units_limit : (rule : RuleOf) → Lawful rule → (slots : List Slot) → length slots ≤ 1488 → All Within slots → month_units rule.units slots ≤ 14880000000
units_limit rule law slots short fit =
    omega (arith, sum_by-le rule.units 10000000 slots (All-weaker Within (λ s. rule.units s ≤ 10000000) law.range slots fit))

-- slots that are no worse, place by place, never come to more
pub no_more : (x y : RuleOf) → Lawful x → ((s : Slot) → Within s → x.units s ≡ y.units s) → (better worse : List Slot) → All Within better → All Within worse → AllZip NoWorse better worse → month_units y.units better ≤ month_units x.units worse
no_more x y law same [] [] wb wa each = omega arith
no_more x y law same [] (a ∷ as') wb wa each = absurd each
no_more x y law same (b ∷ bs) [] wb wa each = absurd each
no_more x y law same (b ∷ bs) (a ∷ as') wb wa each =
    let hb = All-head Within b bs wb in
    let ha = All-head Within a as' wa in
    omega (arith, same b hb, law.no_worse b a hb ha each.0, no_more x y law same bs as' (All-tail Within b bs wb) (All-tail Within a as' wa) each.1, sum_by-cons y.units b bs, sum_by-cons x.units a as')
