use Rattle.std.proofs.Common.{arith}
use Rattle.std.proofs.lemmas.Int.{ints}
use Rattle.terms_file.proofs.RangeTable.{range_at}
use Rattle.terms_file.proofs.reading.Numbers.rates.Goals as goal

pub overflow_cast-result : goal.overflow_cast-result
overflow_cast-result c = omega (arith, ints, range_at c.args.self.now 19 (omega arith))

pub overflow_cast-result-2 : goal.overflow_cast-result-2
overflow_cast-result-2 c = omega (arith, ints, range_at c.args.self.now 20 (omega arith))

pub returns : goal.returns
returns c =
    record { bid = omega (arith, ints, range_at c.args.self.now 19 (omega arith)); settled = omega (arith, ints, range_at c.args.self.now 20 (omega arith)) }
