use Rattle.std.proofs.Common.{refl, arith}
use Rattle.terms.specs.Fractions.{times, plus}
use Rattle.terms.proofs.Smallness.{Item, item_small, rate_small, plus_small, times_small, fits}
use Rattle.terms.proofs.pricing.InRange.itemised.Goals as goal
use Rattle.terms.proofs.pricing.InRange.itemised.Goals.{After-item-returns}

capital_small : (c : After-item-returns) → Item c.item-capital.result
capital_small c = item_small _ _ _ c.item-capital.ensures c.args.self.now.ranges.capital c.args.self.now.ranges.deflator

upkeep_small : (c : After-item-returns) → Item c.item-upkeep.result
upkeep_small c = item_small _ _ _ c.item-upkeep.ensures c.args.self.now.ranges.upkeep c.args.self.now.ranges.corporate

returns_small : (c : After-item-returns) → Item c.item-returns.result
returns_small c = item_small _ _ _ c.item-returns.ensures c.args.self.now.ranges.returns c.args.self.now.ranges.deflator

pub add-requires : goal.add-requires
add-requires c = fits (plus _ _) (plus_small refl (capital_small c) (upkeep_small c)) (omega arith) (omega arith)

pub mul-requires : goal.mul-requires
mul-requires c =
    fits (times _ _)
    (times_small refl (returns_small (goal.at.mul-requires c).After-item-returns) (rate_small _ c.args.rate c.args.self.now.ranges c.requires))
    (omega arith) (omega arith)

pub add-requires-2 : goal.add-requires-2
add-requires-2 c =
    let a = (goal.at.add-requires-2 c).After-item-returns in
    fits (plus _ _)
    (plus_small refl
    (plus_small c.add.ensures (capital_small a) (upkeep_small a))
    (times_small c.mul.ensures (returns_small a) (rate_small _ c.args.rate c.args.self.now.ranges c.requires)))
    (omega arith) (omega arith)
