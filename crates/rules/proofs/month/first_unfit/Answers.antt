use Rattle.std.proofs.Common.{ℕ, ◌<◌, Option, None, Some, List, length, All, MatchOption, HoldsAt, rules}
use Rattle.std.specs.List.{AllWithin}
use Rattle.std.proofs.lemmas.Iterator.{YieldsList-from_slice, IsFirst-from_position}
use Rattle.std.proofs.lemmas.List.Elements.{All-from_all_within}
use Rattle.records.specs.declared.slot.Slot.{Slot}
use Rattle.rules.specs.Months.{Fit, FirstUnfit}
use Rattle.rules.proofs.month.first_unfit.Goals as goal
use borrow.Author.Tests.{tests}

-- what `position` answers, in the words of the contract
named : (assessed : ℕ) (slots : List Slot) (r : Option ℕ) → MatchOption r (AllWithin (Fit assessed) slots 0 (length slots)) (λ i. (i < length slots) × HoldsAt (λ s. ¬ Fit assessed s) slots i × AllWithin (Fit assessed) slots 0 i) → MatchOption r (All (Fit assessed) slots) (FirstUnfit assessed slots)
named assessed slots None h = All-from_all_within (Fit assessed) slots h
named assessed slots (Some i) h = record { in_list = h.0; unfit = h.1; fit_before = h.2 }

pub returns : goal.returns
returns c =
    named c.args.assessed c.args.slots.now _ (IsFirst-from_position c.position.new.self _ _ (λ s. ¬ Fit c.args.assessed s) (Fit c.args.assessed) c.position.ensures.ran (YieldsList-from_slice c.args.slots.now cc) (λ x q k. search (rules, tests)) (λ x q k. search (rules, tests)))
