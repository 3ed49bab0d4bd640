-- The number and the place of each refusal to price terms; the place is 0 where none is named.
use Rattle.refusal.specs.declared.Refusal.{Refusal}
use Rattle.terms.specs.declared.refusals.PriceRefusal.{PriceRefusal}
use Rattle.terms.specs.declared.refusals.PriceRefusal.TheVariants.{Range, RateBelowZero, PriceTooHigh, ReductionTooHigh}

abbrev pub price_refusal : PriceRefusal → Refusal
price_refusal (Range line) = record { number = 2; place = line }
price_refusal RateBelowZero = record { number = 3; place = 0 }
price_refusal PriceTooHigh = record { number = 4; place = 0 }
price_refusal ReductionTooHigh = record { number = 5; place = 0 }
