use Rattle.std.proofs.Common.{◌≡◌, ℕ, Some, Ok, Err, Result, sym, subst, ◌∙◌, arith}
use Rattle.std.specs.Result.{result_ok}
use Rattle.std.proofs.lemmas.Int.{ints}
use Rattle.book.specs.declared.line.Line.{Line}
use Rattle.book.specs.declared.refused.ReadLineRefusal.{ReadLineRefusal}
use Rattle.book.specs.declared.table.Table.{Table}
use Rattle.book.specs.Calls.{LineRead}
use Rattle.book.specs.History.{HasHistory}
use Rattle.book.specs.Limits.{Modest}
use Rattle.book.proofs.Has.{modest_at}
use Rattle.book.proofs.book.Book.statement.Goals as goal

modest_read : (a : Table) → HasHistory a → (month : ℕ) (r : Result Line ReadLineRefusal) (l : Line) → LineRead a month r → result_ok r ≡ Some l → Modest l
modest_read a h month (Ok k) l read e =
    let same : k ≡ l = cc in
    subst Modest (sym read.1 ∙ same) (modest_at h month read.0.0 read.0.1)
modest_read a h month (Err k) l read e = cc

pub invariant_of-result : goal.invariant_of-result
invariant_of-result c =
    let m = modest_read c.args.self.now.table c.args.self.now.led c.args.month c.read_line.result c.in_ok-line.line c.read_line.ensures.0 (sym c.ok.ensures.value ∙ c.in_ok-line.was) in
    record {
      penalty_limits = (omega (arith, m.outage), omega (arith, m.market), omega (arith, m.dispatch));
      limits = (m.month, omega (arith, m.amount), omega (arith, m.charged));
      net_limits = (omega (arith, ints, m.net_from), omega (arith, ints, m.net_upto));
    }
