use Rattle.std.proofs.Common.{arith}
use Rattle.std.proofs.lemmas.Int.{ints, to_z-of_z}
use Rattle.book.specs.Lines.{empty}
use Rattle.book.proofs.Adding.{totals_more}
use Rattle.book.proofs.settled.SettledLines.totals.Goals as goal

pub loop-line-preserved : goal.loop-line-preserved
loop-line-preserved c =
    let lines = c.args.self.now.lines.now in
    let here = c.loop-line-test.true in
    let modest = c.args.self.now.modest c.loop-line.line-index empty here in
    let next = totals_more lines c.loop-line.line-index here in
    record {
      sum = grind (arith, ints, to_z-of_z, next);
      from = omega (arith, ints, modest.net_from);
      upto = omega (arith, ints, modest.net_upto);
    }
