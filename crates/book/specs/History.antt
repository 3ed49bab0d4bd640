-- A book's history: the calls that were made of it, the last one first, with their answers.
use Rattle.std.specs.Prelude.{◌≡◌, ℕ, List, [], ◌∷◌, Ok, Err, Option, Result, MatchResult}
use Rattle.records.specs.declared.slot.Slot.{Slot}
use Rattle.rules.specs.declared.assessment.PerRule.{PerRule}
use Rattle.rules.specs.Months.{RuleOf}
use Rattle.statement.specs.declared.statement.Statement.{Statement}
use Rattle.terms.specs.declared.contract.PricedTerms.{PricedTerms}
use Rattle.yen.specs.declared.Settlement.{Settlement}
use Rattle.book.specs.declared.line.Line.{Line}
use Rattle.book.specs.declared.line.Totals.{Totals}
use Rattle.book.specs.declared.refused.CloseRefusal.{CloseRefusal}
use Rattle.book.specs.declared.refused.ObjectRefusal.{ObjectRefusal}
use Rattle.book.specs.declared.refused.PrintLineRefusal.{PrintLineRefusal}
use Rattle.book.specs.declared.refused.ReadLineRefusal.{ReadLineRefusal}
use Rattle.book.specs.declared.refused.SettleRefusal.{SettleRefusal}
use Rattle.book.specs.declared.table.Notice.{Notice}
use Rattle.book.specs.declared.table.Table.{Table}
use Rattle.book.specs.Calls.{Opened, Closed, Settled, Objected, LineRead, TotalsRead, StatementRead, TotalsStatementRead, LinePrinted, standard_rules}

pub data Call : Type 0 where
  closing : List Slot → PerRule RuleOf → Result Notice CloseRefusal → Call
  settling : Notice → Result Settlement (Notice × SettleRefusal) → Call
  objecting : Notice → Result (Unit {0}) (Notice × ObjectRefusal) → Call
  reading_line : ℕ → Result Line ReadLineRefusal → Call
  reading_totals : Totals → Call
  reading_statement : ℕ → Option Statement → Call
  reading_totals_statement : Statement → Call
  printing_line : ℕ → List ℕ → Result ℕ PrintLineRefusal → List ℕ → Call

-- exactly what the contract of the call ensures
abbrev pub Step : Table → Call → Table → Type 0
Step a (closing slots rules r) b = Closed a slots rules r b
Step a (settling n r) b = Settled a n r b
Step a (objecting n r) b = Objected a n r b
Step a (reading_line month r) b = LineRead a month r × (b ≡ a)
Step a (reading_totals t) b = TotalsRead a t × (b ≡ a)
Step a (reading_statement month r) b = StatementRead a month r × (b ≡ a)
Step a (reading_totals_statement s) b = TotalsStatementRead a s × (b ≡ a)
Step a (printing_line month old r new) b = LinePrinted a month old r new × (b ≡ a)

-- the table after these calls of a book that was opened on the terms
pub data Led (terms : PricedTerms) : List Call → Table → Type 0 where
  opened : {b : Table} → Opened terms b → Led terms [] b
  called : {h : List Call} {a b : Table} {c : Call} → Led terms h a → Step a c b → Led terms (c ∷ h) b

-- some calls led to the table
abbrev pub HasHistory : Table → Type 0
HasHistory a = ∥ ((terms : PricedTerms) × (h : List Call) × Led terms h a) ∥₁

-- the month was closed by the standard rules, and its notice settled
pub record SettledAtOnce (a : Table) (slots : List Slot) (s : Settlement) (b : Table) : Type 0 where
  pub notice : Notice
  pub between : Table
  pub closed : Step a (closing slots (standard_rules a.terms.contract.assessed) (Ok notice)) between
  pub settled : Step between (settling notice (Ok s)) b

-- closing and settling at once refuses what closing refuses
abbrev pub ClosedAndSettled : Table → List Slot → Result Settlement CloseRefusal → Table → Type 0
ClosedAndSettled a slots r b = MatchResult r (λ s. SettledAtOnce a slots s b) (λ e. Step a (closing slots (standard_rules a.terms.contract.assessed) (Err e)) b)
