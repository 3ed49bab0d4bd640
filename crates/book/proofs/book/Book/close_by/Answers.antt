use Rattle.std.proofs.Common.{true, Ok}
use Rattle.rules.specs.declared.assessment.PerRule.{PerRule}
use Rattle.rules.specs.Months.{RuleOf}
use Rattle.book.specs.Calls.{notice_of, with_line, LawfulRules, Closed}
use Rattle.book.specs.History.{closing}
use Rattle.book.proofs.Closing.{closes_by}
use Rattle.book.proofs.Has.{goes_on}
use Rattle.book.proofs.book.Book.close_by.Given as given
use Rattle.book.proofs.book.Book.close_by.Goals as goal
use Rattle.book.proofs.book.Book.close_by.Goals.{After-next_line-line}

abbrev rules_of : (g : given.Over) → g.row.R1.Denot → g.row.R2.Denot → g.row.R3.Denot → PerRule RuleOf
rules_of g x y z = record {
  outage = record { number = g.R1.Rule.NUMBER; units = g.R1.Rule.meaning x };
  market = record { number = g.R2.Rule.NUMBER; units = g.R2.Rule.meaning y };
  dispatch = record { number = g.R3.Rule.NUMBER; units = g.R3.Rule.meaning z };
}

lawful : (g : given.Over) (x : g.row.R1.Denot) (y : g.row.R2.Denot) (z : g.row.R3.Denot) → LawfulRules (rules_of g x y z)
lawful g x y z = record {
  outage = record { numbered = g.met.R1.Rule.numbered; range = g.met.R1.Rule.range x; no_worse = g.met.R1.Rule.no_worse x };
  market = record { numbered = g.met.R2.Rule.numbered; range = g.met.R2.Rule.range y; no_worse = g.met.R2.Rule.no_worse y };
  dispatch = record { numbered = g.met.R3.Rule.numbered; range = g.met.R3.Rule.range z; no_worse = g.met.R3.Rule.no_worse z };
}

closed : (g : given.Over) (c : After-next_line-line g) → Closed c.args.self.now.table c.args.slots.now (rules_of g c.args.outage.now c.args.market.now c.args.dispatch.now) (Ok (notice_of c.args.self.now.table c.next_line-line.result)) (with_line c.args.self.now.table c.next_line-line.result true c.args.self.now.table.issue)
closed g c =
    let a = c.args.self.now.table in
    record {
      lawful = lawful g c.args.outage.now c.args.market.now c.args.dispatch.now;
      answer = closes_by a c.args.slots.now c.if-self.false c.if-self-ge12.false c.open_month-open.ensures c.in_ok-assessment.ensures c.next_line-line.ensures;
    }

pub invariant_of-self : goal.invariant_of-self
invariant_of-self g c = record { led = goes_on (closing _ _ _) c.args.self.now.led (closed g (goal.at.invariant_of-self g c).After-next_line-line) }

pub returns : goal.returns
returns g c = rw c.numbers_of.ensures (closed g (goal.at.returns g c).After-next_line-line)
