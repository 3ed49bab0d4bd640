use Rattle.std.proofs.Common.{rules, tests}
use Rattle.terms.proofs.ranges.in_range.Goals as goal

pub returns-then-i-ne-ASSESSED : goal.returns-then-i-ne-ASSESSED
returns-then-i-ne-ASSESSED c = search (rules, tests)

pub returns-else-contains : goal.returns-else-contains
returns-else-contains c = search (rules, tests)

pub returns-else-i-ne-ASSESSED : goal.returns-else-i-ne-ASSESSED
returns-else-i-ne-ASSESSED c = search (rules, tests)
