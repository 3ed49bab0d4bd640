-- What each call of a book answers, and the whole table after it.
use Rattle.std.specs.Prelude.{◌≡◌, ℕ, zero, suc, ◌+◌, ◌-◌, ◌<◌, ◌≤◌, Bool, true, false, if◌then◌else◌, ◌⊎◌, List, ◌++◌, length, take, drop, replicate, Option, Some, Result, MatchOption, MatchResult, slice_set}
use Rattle.records.specs.declared.slot.Slot.{Slot}
use Rattle.rules.specs.declared.assessment.OpenMonth.{OpenMonth}
use Rattle.rules.specs.declared.assessment.PerRule.{PerRule}
use Rattle.rules.specs.Months.{RuleOf, Lawful, FitSlots, FirstUnfit, numbers_of, units_of}
use Rattle.rules.specs.Standard.{outage_units, market_units, dispatch_units}
use Rattle.terms.specs.declared.contract.PricedTerms.{PricedTerms}
use Rattle.yen.specs.declared.Settlement.{Settlement}
use Rattle.yen.specs.Yen.{settlement_of}
use Rattle.calendar.specs.Calendar.{slots_in}
use Rattle.book.specs.declared.line.Line.{Line}
use Rattle.book.specs.declared.line.Totals.{Totals}
use Rattle.book.specs.declared.refused.CloseRefusal.{CloseRefusal}
use Rattle.book.specs.declared.refused.CloseRefusal.TheVariants.{NoticeOut, YearSettled, WrongSlotCount, UnfitSlot}
use Rattle.book.specs.declared.refused.ObjectRefusal.{ObjectRefusal}
use Rattle.book.specs.declared.refused.ObjectRefusal.TheVariants.{OtherNotice, LastIssue}
use Rattle.book.specs.declared.refused.PrintLineRefusal.{PrintLineRefusal}
use Rattle.book.specs.declared.refused.PrintLineRefusal.TheVariants as print
use Rattle.book.specs.declared.refused.ReadLineRefusal.{ReadLineRefusal}
use Rattle.statement.specs.Text.{text_of, statement_text}
use Rattle.statement.specs.declared.statement.Statement.{Statement}
use Rattle.book.specs.declared.refused.SettleRefusal.{SettleRefusal}
use Rattle.book.specs.declared.table.Notice.{Notice}
use Rattle.book.specs.declared.table.Table.{Table}
use Rattle.book.specs.Lines.{empty, line_at, before_of, line_of, totals_of}

-- nothing settled, no notice out, issue 1 and twelve empty lines
pub record Opened (terms : PricedTerms) (b : Table) : Type 0 where
  pub fresh : b ≡ record { terms = terms; lines = replicate 12 empty; settled = 0; out = false; issue = 1 }

abbrev pub settled_lines : Table → List Line
settled_lines a = take a.settled a.lines

-- the first unsettled month
abbrev pub open_month : Table → OpenMonth
open_month a = record { year = a.terms.contract.year; month = a.settled + 1; assessed = a.terms.contract.assessed }

-- the line that rules give the first unsettled month over its slots
abbrev pub next_line : Table → PerRule ℕ → PerRule ℕ → Line
next_line a numbers units = line_of a.terms.contract a.settled a.issue (before_of (settled_lines a)) numbers units

-- the notice of a line: plant, year, month, issue and net
abbrev pub notice_of : Table → Line → Notice
notice_of a l = record {
  numbers = record { plant = a.terms.contract.plant; year = a.terms.contract.year; month = l.month; issue = l.issue; net = l.net };
}

-- the notice of the first unsettled month
abbrev pub awaited : Table → Notice
awaited a = notice_of a (line_at a.lines a.settled)

-- the table with another line at the first unsettled month
abbrev pub with_line : Table → Line → Bool → ℕ → Table
with_line a l out issue = record { terms = a.terms; lines = slice_set a.lines a.settled l; settled = a.settled; out = out; issue = issue }

pub record Closes (a : Table) (slots : List Slot) (rules : PerRule RuleOf) (n : Notice) (b : Table) : Type 0 where
  pub none_out : a.out ≡ false
  pub month_left : a.settled < 12
  pub fit : FitSlots (open_month a) slots
  pub given : n ≡ notice_of a (next_line a (numbers_of rules) (units_of rules slots))
  pub left : b ≡ with_line a (next_line a (numbers_of rules) (units_of rules slots)) true a.issue

-- there are as many slots as the first unsettled month has
abbrev pub Counted : Table → List Slot → Type 0
Counted a slots = slots_in (open_month a).year (open_month a).month ≡ Some (length slots)

-- when each refusal of a close is given
abbrev pub RefusesClose : Table → List Slot → CloseRefusal → Type 0
RefusesClose a slots NoticeOut = a.out ≡ true
RefusesClose a slots YearSettled = (a.out ≡ false) × (12 ≤ a.settled)
RefusesClose a slots WrongSlotCount = (a.out ≡ false) × (a.settled < 12) × (Counted a slots → ⊥)
RefusesClose a slots (UnfitSlot place) = (a.out ≡ false) × (a.settled < 12) × Counted a slots × FirstUnfit (open_month a).assessed slots place

pub record LawfulRules (rules : PerRule RuleOf) : Type 0 where
  pub outage : Lawful rules.outage
  pub market : Lawful rules.market
  pub dispatch : Lawful rules.dispatch

-- the three standard rules at an assessed capacity
abbrev pub standard_rules : ℕ → PerRule RuleOf
standard_rules assessed = record {
  outage = record { number = 1; units = outage_units assessed };
  market = record { number = 2; units = market_units assessed };
  dispatch = record { number = 3; units = dispatch_units assessed };
}

-- by any three rules, and by the standard ones
pub record Closed (a : Table) (slots : List Slot) (rules : PerRule RuleOf) (r : Result Notice CloseRefusal) (b : Table) : Type 0 where
  pub lawful : LawfulRules rules
  pub answer : MatchResult r (λ n. Closes a slots rules n b) (λ e. RefusesClose a slots e × (b ≡ a))

-- the notice is the one that is out
pub record Awaits (a : Table) (n : Notice) : Type 0 where
  pub is_out : a.out ≡ true
  pub same : n ≡ awaited a

pub record Settles (a : Table) (n : Notice) (s : Settlement) (b : Table) : Type 0 where
  pub awaits : Awaits a n
  pub answered : s ≡ settlement_of n.numbers.net
  pub left : b ≡ record { terms = a.terms; lines = a.lines; settled = a.settled + 1; out = false; issue = 1 }

-- the notice is handed back, and nothing has changed
pub record HandedBack (a : Table) (n back : Notice) (b : Table) : Type 0 where
  pub back_same : back ≡ n
  pub unchanged : b ≡ a

abbrev pub Settled : Table → Notice → Result Settlement (Notice × SettleRefusal) → Table → Type 0
Settled a n r b = MatchResult r (λ s. Settles a n s b) (λ e. (Awaits a n → ⊥) × HandedBack a n e.0 b)

pub record Objects (a : Table) (n : Notice) (b : Table) : Type 0 where
  pub awaits : Awaits a n
  pub issue_left : a.issue < 99
  pub left : b ≡ with_line a empty false (a.issue + 1)

abbrev pub RefusesObject : Table → Notice → ObjectRefusal → Type 0
RefusesObject a n OtherNotice = Awaits a n → ⊥
RefusesObject a n LastIssue = Awaits a n × (99 ≤ a.issue)

abbrev pub Objected : Table → Notice → Result (Unit {0}) (Notice × ObjectRefusal) → Table → Type 0
Objected a n r b = MatchResult r (λ _. Objects a n b) (λ e. RefusesObject a n e.1 × HandedBack a n e.0 b)

-- how many months are settled or under notice
abbrev pub shown : Table → ℕ
shown a = a.settled + (if a.out then 1 else 0)

abbrev pub Shown : Table → ℕ → Type 0
Shown a month = (1 ≤ month) × (month ≤ shown a)

abbrev pub LineRead : Table → ℕ → Result Line ReadLineRefusal → Type 0
LineRead a month r = MatchResult r (λ l. Shown a month × (l ≡ line_at a.lines (month - 1))) (λ _. Shown a month → ⊥)

abbrev pub TotalsRead : Table → Totals → Type 0
TotalsRead a t = t ≡ totals_of (settled_lines a)

abbrev pub line_text : Line → List ℕ
line_text l = text_of l.month l.amount l.penalties l.charged l.net

-- the totals are the statement of month 0
abbrev pub totals_text : Totals → List ℕ
totals_text t = text_of 0 t.amount t.penalties t.charged t.net

-- the totals can always be printed
abbrev pub Printable : Table → ℕ → Type 0
Printable a month = (month ≡ 0) ⊎ Shown a month

abbrev pub text_at : Table → ℕ → List ℕ
text_at a zero = totals_text (totals_of (settled_lines a))
text_at a (suc n) = line_text (line_at a.lines n)

-- the statement has the month's text, if there is one
abbrev pub StatementRead : Table → ℕ → Option Statement → Type 0
StatementRead a month r = MatchOption r (Printable a month → ⊥) (λ s. Printable a month × (statement_text s ≡ text_at a month))

abbrev pub TotalsStatementRead : Table → Statement → Type 0
TotalsStatementRead a s = statement_text s ≡ text_at a 0

-- the text stands at the start of the buffer, and the rest is as it was
pub record Prints (a : Table) (month : ℕ) (old : List ℕ) (n : ℕ) (new : List ℕ) : Type 0 where
  pub printable : Printable a month
  pub room : 128 ≤ length old
  pub enough : n ≤ 128
  pub answered : n ≡ length (text_at a month)
  pub written : new ≡ text_at a month ++ drop n old

abbrev pub RefusesPrint : Table → ℕ → List ℕ → PrintLineRefusal → Type 0
RefusesPrint a month old print.NoLine = Printable a month → ⊥
RefusesPrint a month old print.ShortBuffer = Printable a month × (length old < 128)

abbrev pub LinePrinted : Table → ℕ → List ℕ → Result ℕ PrintLineRefusal → List ℕ → Type 0
LinePrinted a month old r new = MatchResult r (λ n. Prints a month old n new) (λ e. RefusesPrint a month old e × (new ≡ old))
