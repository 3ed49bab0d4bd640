use Rattle.std.proofs.Common.{◌^◌, ◌<◌, sum_by, arith, rules}
use Rattle.book.specs.declared.line.Line.{Line}
use Rattle.book.proofs.Adding.{sum_within}
use Rattle.book.proofs.settled.SettledLines.outage_units.Goals as goal

pub sum-requires-clause-fits : goal.sum-requires-clause-fits
sum-requires-clause-fits c =
    let s = c.args.self.now in
    let fits : sum_by (λ (l : Line). l.units.outage) s.lines.now < 2 ^ 64 = omega (arith, sum_within s.lines.now s.year s.modest (λ l. l.units.outage) 14880000000 (λ l m. m.outage_units)) in
    search rules
