-- Month lines and their sums.
use Rattle.std.specs.Prelude.{ℕ, ◌+◌, List, length, ℤ, pos, ◌+ℤ◌, fold, sum_by, slice_index_or}
use Rattle.rules.specs.declared.assessment.PerRule.{PerRule}
use Rattle.terms.specs.declared.figures.Contract.{Contract}
use Rattle.yen.specs.declared.Before.{Before}
use Rattle.yen.specs.Yen.{yen_of}
use Rattle.book.specs.declared.line.Line.{Line}
use Rattle.book.specs.declared.line.Totals.{Totals}

abbrev none : PerRule ℕ
none = record { outage = 0; market = 0; dispatch = 0 }

-- the line of a month that is not closed
abbrev pub empty : Line
empty = record { month = 0; issue = 0; rules = none; units = none; amount = 0; penalties = none; charged = 0; net = pos 0 }

-- the line of the month after the first n ones
abbrev pub line_at : List Line → ℕ → Line
line_at lines n = slice_index_or lines n empty

abbrev pub charged_in : List Line → ℕ
charged_in lines = sum_by (λ l. l.charged) lines

abbrev pub net_in : List Line → ℤ
net_in lines = fold (λ z l. z +ℤ l.net) (pos 0) lines

abbrev pub outage_units_in : List Line → ℕ
outage_units_in lines = sum_by (λ l. l.units.outage) lines

-- what the lines of the months before add to the next one
abbrev pub before_of : List Line → Before
before_of lines = record { outage_units = outage_units_in lines; charged = charged_in lines }

-- the line of the month after the first n ones, at an issue, under rules with these numbers that come to these units
abbrev pub line_of : Contract → ℕ → ℕ → Before → PerRule ℕ → PerRule ℕ → Line
line_of c n issue before numbers units =
    let yen = yen_of c (n + 1) before units in
    record {
      month = n + 1;
      issue = issue;
      rules = numbers;
      units = units;
      amount = yen.amount;
      penalties = yen.penalties;
      charged = yen.charged;
      net = yen.net;
    }

abbrev pub totals_of : List Line → Totals
totals_of lines = record {
  months = length lines;
  amount = sum_by (λ l. l.amount) lines;
  penalties = record {
    outage = sum_by (λ l. l.penalties.outage) lines;
    market = sum_by (λ l. l.penalties.market) lines;
    dispatch = sum_by (λ l. l.penalties.dispatch) lines;
  };
  charged = charged_in lines;
  net = net_in lines;
}
