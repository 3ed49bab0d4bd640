use Rattle.std.proofs.Common.{◌≡◌, arith, rules}
use Rattle.rules.specs.Months.{RuleOf, Lawful, month_units}
use Rattle.rules.proofs.Slots.{units_limit}
use Rattle.rules.proofs.month.MonthSlots.units_of.Goals as goal

pub invariant_of-result : goal.invariant_of-result
invariant_of-result g c =
    let rule : RuleOf = record { number = g.R.Rule.NUMBER; units = g.R.Rule.meaning c.args.rule.now } in
    let lawful : Lawful rule = record { numbered = g.met.R.Rule.numbered; range = g.met.R.Rule.range c.args.rule.now; no_worse = g.met.R.Rule.no_worse c.args.rule.now } in
    let checked = c.args.self.now in
    let summed : c.sum.result ≡ month_units rule.units checked.slots.now = search rules in
    omega (arith, summed, units_limit rule lawful checked.slots.now checked.few checked.within)
