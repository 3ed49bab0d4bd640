-- What a comparison of two books answers.
use Rattle.std.specs.Prelude.{◌≡◌, ℕ, min, List, ◌++◌, take, codes, decimal}
use Rattle.std.specs.Fmt.{signed_decimal}
use Rattle.book.specs.declared.comparison.Comparison.{Comparison}
use Rattle.book.specs.declared.comparison.Sums.{Sums}
use Rattle.book.specs.declared.line.Line.{Line}
use Rattle.book.specs.declared.table.Table.{Table}
use Rattle.book.specs.Lines.{charged_in, net_in}

abbrev pub sums_of : List Line → Sums
sums_of lines = record { charged = charged_in lines; net = net_in lines }

-- what is printed of sums
abbrev pub sums_text : Sums → List ℕ
sums_text s = codes "charged " ++ decimal s.charged ++ codes ", net " ++ signed_decimal s.net

-- the months that both have settled, and the sums of each over them
pub record Compares (a b : Table) (r : Comparison) : Type 0 where
  pub in_both : r.months ≡ min a.settled b.settled
  pub of_first : r.first ≡ sums_of (take r.months a.lines)
  pub of_second : r.second ≡ sums_of (take r.months b.lines)
