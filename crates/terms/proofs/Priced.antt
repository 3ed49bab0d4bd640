-- Priced terms are sound.
use Rattle.terms.specs.declared.contract.PricedTerms.{PricedTerms}
use Rattle.terms.specs.Sound.{Sound}

pub sound : (t : PricedTerms) → Sound t.contract
sound t = record { named = t.named; sized = t.sized; assessed = t.assessed; worth = t.worth }
