use Rattle.std.proofs.Common.{arith}
use Rattle.std.proofs.lemmas.Int.{ints}
use Rattle.terms_file.proofs.RangeTable.{range_at}
use Rattle.terms_file.proofs.reading.Numbers.reduction.Goals as goal

pub overflow_cast-result : goal.overflow_cast-result
overflow_cast-result c = omega (arith, ints, range_at c.args.self.now 21 (omega arith))

pub returns : goal.returns
returns c = omega (arith, ints, range_at c.args.self.now 21 (omega arith))
