use Rattle.std.proofs.Common.{arith}
use Rattle.std.proofs.lemmas.Int.{ints}
use Rattle.terms_file.proofs.RangeTable.{plain_at}
use Rattle.terms_file.proofs.reading.Numbers.whole.Goals as goal

pub overflow_cast-result : goal.overflow_cast-result
overflow_cast-result c = omega (arith, ints, plain_at c.args.self.now.values c.args.self.now.ranges c.args.i c.requires)

pub returns : goal.returns
returns c = omega (arith, ints, plain_at c.args.self.now.values c.args.self.now.ranges c.args.i c.requires)
