-- A close, from what the assessment of the slots answers.
use Rattle.std.proofs.Common.{◌≡◌, ℕ, ◌<◌, ◌≤◌, true, false, List, length, sym, refl, ap, ◌∙◌, subst, arith, get_or-set_same}
use Rattle.records.specs.declared.slot.Slot.{Slot}
use Rattle.rules.specs.declared.assessment.OpenMonth.{OpenMonth}
use Rattle.rules.specs.declared.assessment.PerRule.{PerRule}
use Rattle.rules.specs.Months.{RuleOf, FitSlots, Assesses, numbers_of, units_of}
use Rattle.book.specs.declared.line.Line.{Line}
use Rattle.book.specs.declared.table.Table.{Table}
use Rattle.book.specs.declared.table.Notice.{Notice}
use Rattle.book.specs.Lines.{empty}
use Rattle.book.specs.Calls.{open_month, next_line, notice_of, with_line, Closes, Awaits, HandedBack}

module _ (a : Table) (slots : List Slot) (none_out : a.out ≡ false) (left : a.settled < 12) where
  pub closes_by : {m : OpenMonth} {rules : PerRule RuleOf} {numbers units : PerRule ℕ} {l : Line} → m ≡ open_month a → Assesses m slots rules numbers units → l ≡ next_line a numbers units → Closes a slots rules (notice_of a l) (with_line a l true a.issue)
  closes_by {m} {rules} {numbers} {units} {l} same s e =
      let line : l ≡ next_line a (numbers_of rules) (units_of rules slots) = e ∙ (λ i. next_line a (s.own_numbers i) (s.summed i)) in
      record {
        none_out = none_out;
        month_left = left;
        fit = subst (λ n. FitSlots n slots) same s.fit;
        given = ap (notice_of a) line;
        left = ap (λ k. with_line a k true a.issue) line;
      }

-- the notice that a close gives is the one that is out after it
module _ {a b : Table} {slots : List Slot} {rules : PerRule RuleOf} {n : Notice} (s : Closes a slots rules n b) (year : 12 ≤ length a.lines) where
  awaits_given : Awaits (with_line a (next_line a (numbers_of rules) (units_of rules slots)) true a.issue) n
  awaits_given =
      let line = next_line a (numbers_of rules) (units_of rules slots) in
      record { is_out = refl; same = s.given ∙ ap (notice_of a) (sym (get_or-set_same a.lines a.settled line empty (omega (arith, s.month_left)))) }

  pub awaits_closed : Awaits b n
  awaits_closed = subst (λ t. Awaits t n) (sym s.left) awaits_given

-- a notice that was handed back is awaited as before
pub awaits_back : {a b : Table} {n back : Notice} → HandedBack a n back b → Awaits a n → Awaits b back
awaits_back {a} {b} {n} {back} h w = subst (λ t. Awaits t back) (sym h.unchanged) (subst (λ k. Awaits a k) (sym h.back_same) w)
