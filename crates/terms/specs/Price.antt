-- The price of a contract year, and the contract that comes of it.
use Rattle.std.specs.Prelude.{◌≡◌, ℕ, ◌+◌, ◌-◌, ◌*◌, cond, ◌&&◌, ℤ, pos, negsuc, ◌+ℤ◌, ◌-ℤ◌, Some, None, Ok, Err, Option, Result, ◌==◌, nat_lt}
use Rattle.terms.specs.declared.contract.PricedTerms.{PricedTerms}
use Rattle.terms.specs.declared.figures.Contract.{Contract}
use Rattle.terms.specs.declared.fraction.Fraction.{Fraction}
use Rattle.terms.specs.declared.refusals.PriceRefusal.{PriceRefusal}
use Rattle.terms.specs.declared.refusals.PriceRefusal.TheVariants.{Range, RateBelowZero, PriceTooHigh, ReductionTooHigh}
use Rattle.terms.specs.declared.terms.BidAndSettled.{BidAndSettled}
use Rattle.terms.specs.declared.terms.Terms.{Terms}
use Rattle.terms.specs.Fractions.{over, one, of, times, plus, cut, WholePart}
use Rattle.terms.specs.Ranges.{numbers, first_out}

-- how an index has moved since the bid
abbrev pub ratio : BidAndSettled ℕ → Fraction
ratio i = over i.settled i.bid

-- an index moves an item where its choice is 1
abbrev pub factor : ℕ → BidAndSettled ℕ → Fraction
factor choice i = cond (choice == 1) (ratio i) one

-- a number of parts of 5,000 is a factor unless it is below 0
abbrev pub parts : ℤ → Option Fraction
parts (pos n) = Some (over n 5000)
parts (negsuc n) = None

-- what the rates move the return by
abbrev pub rates_factor : BidAndSettled ℤ → Option Fraction
rates_factor r = parts (pos 5000 +ℤ (r.settled -ℤ r.bid))

-- only method 1 asks for the rates, where their choice is 1
abbrev pub rate_factor : Terms → Option Fraction
rate_factor t = cond (t.method == 1 && t.choices.rates == 1) (rates_factor t.rates) (Some one)

-- method 1: each item moves with its own index, and the return with the rates
abbrev pub itemised : Terms → Fraction → Fraction
itemised t rate =
    plus
    (plus (of t.capital (factor t.choices.capital t.deflator)) (of t.upkeep (factor t.choices.upkeep t.corporate)))
    (times (of t.returns (factor t.choices.returns t.deflator)) rate)

-- method 2: all three items move with the consumer index
abbrev pub together : Terms → Fraction
together t = of (t.capital + t.upkeep + t.returns) (ratio t.consumer)

-- the exact total
abbrev pub total : Terms → Fraction → Fraction
total t rate = cond (t.method == 1) (itemised t rate) (together t)

-- the contract at the price p
abbrev pub contract_at : Terms → ℕ → Contract
contract_at t p = record {
  plant = t.plant;
  year = t.year;
  capacity = t.capacity;
  assessed = t.assessed;
  hours = t.hours;
  price = p;
  amount = p * t.capacity - t.reduction;
}

-- a price that is too high for a contract, or too low for the reduction, makes none
abbrev pub agreed_at : Terms → ℕ → Result Contract PriceRefusal
agreed_at t p =
    cond (nat_lt 1000000 p) (Err PriceTooHigh)
    (cond (nat_lt (p * t.capacity) t.reduction) (Err ReductionTooHigh) (Ok (contract_at t p)))

-- a line out of range is refused first, then rates that fall too far
abbrev pub judged : Terms → Option ℕ → Option Fraction → Result Contract PriceRefusal
judged t (Some line) rate = Err (Range line)
judged t None None = Err RateBelowZero
judged t None (Some rate) = agreed_at t (cut (total t rate))

-- the contract of the terms, at the exact total cut once, or the refusal of them
abbrev pub contract_of : Terms → Result Contract PriceRefusal
contract_of t = judged t (first_out (numbers t)) (rate_factor t)

-- the contract in an answer of pricing
abbrev pub agreed : Result PricedTerms PriceRefusal → Result Contract PriceRefusal
agreed (Ok p) = Ok p.contract
agreed (Err e) = Err e

-- the price is the whole part of the exact total: nothing else is cut
abbrev pub CutOnce : Terms → Contract → Type 0
CutOnce t c = (rate : Fraction) × ((rate_factor t ≡ Some rate) × WholePart (total t rate) c.price)
