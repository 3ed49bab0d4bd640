use Rattle.std.proofs.Common.{◌≡◌, ℕ, ◌<◌, Bool, true, false, Decides, MatchBool, List, [], ◌∷◌, length, zip, refl, arith, rules}
use Rattle.std.specs.List.{All, AllWithin, AllZip, HoldsAt}
use Rattle.std.proofs.lemmas.Bool.{false≢true}
use Rattle.std.proofs.lemmas.Iterator.{YieldsList-from_slice, YieldsList-from_zip, cases_from_all}
use Rattle.std.proofs.lemmas.Iterator.Search.{true_from_All}
use Rattle.std.proofs.lemmas.List.Elements.{All-nil, All-cons, All-head, All-tail, All-from_all_within, length_all_zip}
use Rattle.records.specs.declared.slot.Slot.{Slot}
use Rattle.records.specs.Slots.{NoWorse}
use Rattle.records.proofs.order.are_no_worse.Goals as goal
use borrow.Author.Tests.{tests}

-- the first of two slots is no worse than the second
abbrev NoWorsePair : Slot × Slot → Type 0
NoWorsePair p = NoWorse p.0 p.1

-- lists of one length are no worse, place by place, exactly where each of their pairs is
from_pairs : (b w : List Slot) → length b ≡ length w → All NoWorsePair (zip b w) → AllZip NoWorse b w
from_pairs [] [] e h = tt
from_pairs [] (y ∷ w) e h = absurd (omega arith)
from_pairs (x ∷ b) [] e h = absurd (omega arith)
from_pairs (x ∷ b) (y ∷ w) e h =
    (All-head NoWorsePair (x, y) (zip b w) h, from_pairs b w (omega arith) (All-tail NoWorsePair (x, y) (zip b w) h))

to_pairs : (b w : List Slot) → AllZip NoWorse b w → All NoWorsePair (zip b w)
to_pairs [] w each = All-nil NoWorsePair
to_pairs (x ∷ b) [] each = absurd each
to_pairs (x ∷ b) (y ∷ w) each = All-cons NoWorsePair (x, y) (zip b w) each.0 (to_pairs b w each.1)

-- what the calls of `is_no_worse` answered at the pairs, as one answer
answered : (r : Bool) (b w : List Slot) → length b ≡ length w → MatchBool r (AllWithin NoWorsePair (zip b w) 0 (length (zip b w))) ((k : ℕ) × (k < length (zip b w)) × HoldsAt (λ p. ¬ NoWorsePair p) (zip b w) k) → Decides r (AllZip NoWorse b w)
answered true b w e ran = (λ t. from_pairs b w e (All-from_all_within NoWorsePair (zip b w) ran), λ each. refl)
answered false b w e ran = (
  λ t. absurd (false≢true t),
  λ each. true_from_All NoWorsePair (λ p. ¬ NoWorsePair p) _ (zip b w) (λ p is not. not is) ran (to_pairs b w each),
)

pub returns-then-better-worse : goal.returns-then-better-worse
returns-then-better-worse c =
    answered _ _ _ c.if-better-worse.true (cases_from_all c.all.new.self _ _ NoWorsePair (λ p. ¬ NoWorsePair p) c.all.ensures.ran (YieldsList-from_zip (YieldsList-from_slice c.args.better.now cc) (YieldsList-from_slice c.args.worse.now cc)) (λ x q k. search (rules, tests)) (λ x q k. search (rules, tests)))

pub returns-else-better-worse : goal.returns-else-better-worse
returns-else-better-worse c = (
  λ t. absurd (c.if-better-worse.false (search (rules, tests))),
  λ each. absurd (c.if-better-worse.false (length_all_zip NoWorse _ _ each)),
)
