use Rattle.std.proofs.Common.{rules}
use Rattle.terms.proofs.pricing.InRange.rate_factor.Goals as goal

pub returns-in_err-ok : goal.returns-in_err-ok
returns-in_err-ok c = search rules

pub returns : goal.returns
returns c = search rules
