-- The line of a month that is not closed, as code makes it.
use Rattle.std.proofs.Common.{◌≡◌, ℕ, pos}
use Rattle.rules.specs.declared.assessment.PerRule.{PerRule}
use Rattle.book.specs.declared.line.Line.{Line}
use Rattle.book.specs.Lines.{empty}

abbrev Zeros : PerRule ℕ → Type 0
Zeros p = (p.outage ≡ 0) × ((p.market ≡ 0) × (p.dispatch ≡ 0))

-- what is said of a default line, field by field, says that it is empty
pub emptied : {l : Line} → (l.month ≡ 0) × ((l.issue ≡ 0) × (Zeros l.rules × (Zeros l.units × ((l.amount ≡ 0) × (Zeros l.penalties × ((l.charged ≡ 0) × (l.net ≡ pos 0))))))) → l ≡ empty
emptied (month, (issue, (rules, (units, (amount, (penalties, (charged, net))))))) = λ i. record {
  month = month i;
  issue = issue i;
  rules = record { outage = rules.0 i; market = rules.1.0 i; dispatch = rules.1.1 i };
  units = record { outage = units.0 i; market = units.1.0 i; dispatch = units.1.1 i };
  amount = amount i;
  penalties = record { outage = penalties.0 i; market = penalties.1.0 i; dispatch = penalties.1.1 i };
  charged = charged i;
  net = net i;
}
