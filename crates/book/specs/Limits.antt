-- How large the figures of a line, and of the totals of some months, can get.
use Rattle.std.specs.Prelude.{ℕ, ◌*◌, ◌≤◌, pos, neg_ℤ, ◌≤ℤ◌}
use Rattle.book.specs.declared.line.Line.{Line}
use Rattle.book.specs.declared.line.Totals.{Totals}

pub record Modest (l : Line) : Type 0 where
  pub month : l.month ≤ 12
  pub outage_units : l.units.outage ≤ 14880000000
  pub amount : l.amount ≤ 2000000000000
  pub outage : l.penalties.outage ≤ 18600000000000
  pub market : l.penalties.market ≤ 7440000000000000
  pub dispatch : l.penalties.dispatch ≤ 7440000000000000
  pub charged : l.charged ≤ 2200000000000
  pub net_from : neg_ℤ (pos 2200000000000) ≤ℤ l.net
  pub net_upto : l.net ≤ℤ pos 2000000000000

-- totals of at most n modest lines
pub record Few (n : ℕ) (t : Totals) : Type 0 where
  pub months : t.months ≤ n
  pub amount : t.amount ≤ 2000000000000 * n
  pub outage : t.penalties.outage ≤ 18600000000000 * n
  pub market : t.penalties.market ≤ 7440000000000000 * n
  pub dispatch : t.penalties.dispatch ≤ 7440000000000000 * n
  pub charged : t.charged ≤ 2200000000000 * n
  pub net_from : neg_ℤ (pos (2200000000000 * n)) ≤ℤ t.net
  pub net_upto : t.net ≤ℤ pos (2000000000000 * n)
