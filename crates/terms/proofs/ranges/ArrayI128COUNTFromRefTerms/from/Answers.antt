use Rattle.std.proofs.Common.{arith}
use Rattle.std.proofs.lemmas.Int.{to_z-of_z}
use Rattle.terms.specs.Ranges.{numbers}
use Rattle.terms.proofs.ranges.ArrayI128COUNTFromRefTerms.from.Goals as goal

-- each conversion keeps its number
pub returns : goal.returns
unfolding numbers
returns c = grind (arith, to_z-of_z)
