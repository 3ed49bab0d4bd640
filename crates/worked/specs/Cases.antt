-- Worked figures: what the definitions give, beside what was worked out by hand.
use Rattle.std.specs.Prelude.{◌≡◌, ℕ, Bool, true, false, List, [], ◌∷◌, ℤ, pos, negsuc, ◌-ℤ◌, Ok, Err, Result}
use Rattle.records.specs.declared.slot.Slot.{Slot}
use Rattle.records.specs.declared.slot.Outage.TheVariants.{NoOutage, UnplannedSuppression}
use Rattle.rules.specs.declared.assessment.PerRule.{PerRule}
use Rattle.rules.specs.Standard.{outage_units, market_units, dispatch_units}
use Rattle.terms.specs.declared.figures.Contract.{Contract}
use Rattle.terms.specs.declared.refusals.PriceRefusal.{PriceRefusal}
use Rattle.terms.specs.declared.terms.BidAndSettled.{BidAndSettled}
use Rattle.terms.specs.declared.terms.Terms.{Terms}
use Rattle.terms.specs.Price.{contract_of}
use Rattle.terms.specs.Refusals.{price_refusal}
use Rattle.yen.specs.Yen.{amount_of, excess, outage_penalty, shortfall_penalty, charge}

pub record Case : Type 0 where
  pub given : ℤ
  pub by_hand : ℤ

abbrev pub Holds : Case → Type 0
Holds c = c.given ≡ c.by_hand

-- ---- prices

abbrev pub index : ℕ → ℕ → BidAndSettled ℕ
index bid settled = record { bid = bid; settled = settled }

-- terms of three items, by a method and with all choices taken or none
abbrev pub terms : (capital upkeep returns method choice : ℕ) → (deflator corporate consumer : BidAndSettled ℕ) → (r0 r1 : ℕ) → Terms
terms capital upkeep returns method choice deflator corporate consumer r0 r1 = record {
  plant = 1;
  year = 2025;
  capacity = 100;
  assessed = 100;
  hours = 30;
  capital = capital;
  upkeep = upkeep;
  returns = returns;
  method = method;
  choices = record { capital = choice; upkeep = choice; returns = choice; rates = choice };
  deflator = deflator;
  corporate = corporate;
  consumer = consumer;
  rates = record { bid = pos r0; settled = pos r1 };
  reduction = 0;
}

-- the price, or 0
abbrev pub price_in : Result Contract PriceRefusal → ℤ
price_in (Ok c) = pos c.price
price_in (Err e) = pos 0

-- the number of the refusal, or 0
abbrev pub refused_in : Result Contract PriceRefusal → ℤ
refused_in (Ok c) = pos 0
refused_in (Err e) = pos (price_refusal e).number

abbrev pub falling : ℕ → Terms
falling r1 = terms 10005 5050 3000 1 1 (index 1100 1200) (index 1000 1003) (index 1000 1000) 6000 r1

-- ---- yen, at a capacity of 100 kW, 30 hours and 1,234,499 yen for the year

abbrev pub contract : Contract
contract = record { plant = 1; year = 2025; capacity = 100; assessed = 100; hours = 30; price = 12345; amount = 1234499 }

abbrev pub penalties : ℕ → PerRule ℕ
penalties sum = record { outage = sum; market = 0; dispatch = 0 }

-- ---- units, at an assessed capacity of 100 kW

abbrev pub low_reserve : Bool → Slot
low_reserve papers = record { supply = 80; plan = 50; offer = 20; meter = 0; outage = NoOutage; low_reserve = true; dispatched = false; papers = papers }

abbrev pub suppressed : Slot
suppressed = record { supply = 60; plan = 0; offer = 0; meter = 25; outage = UnplannedSuppression; low_reserve = true; dispatched = true; papers = false }

abbrev pub case : ℤ → ℤ → Case
case given by_hand = record { given = given; by_hand = by_hand }

unfoldable pub cases : List Case
cases =
    -- three items, each with its index, and the return with rates from 0 to 0.25 percent; cut each on its own, they give 19,415
    case (price_in (contract_of (terms 10005 5050 3000 1 1 (index 1100 1200) (index 1000 1003) (index 1000 1000) 0 250))) (pos 19416)
    -- 18,000 yen, all with the consumer index
    ∷ case (price_in (contract_of (terms 10000 5000 3000 2 0 (index 1000 1000) (index 1000 1000) (index 1000 1057) 0 0))) (pos 19026)
    -- a return of nothing is a price, one below nothing is none
    ∷ case (refused_in (contract_of (falling 1000))) (pos 0)
    ∷ case (refused_in (contract_of (falling 999))) (pos 3)
    -- with the rate cut to 411 yen for a kWh, 100 units would give 20,550
    ∷ case (pos (shortfall_penalty contract 100)) (pos 20574)
    ∷ case (pos (excess contract 863950 150)) (pos 100)
    ∷ case (pos (outage_penalty contract 863950 150)) (pos 154)
    ∷ case (pos (outage_penalty contract 863900 100)) (pos 0)
    ∷ case (pos (outage_penalty contract 864000 1)) (pos 1)
    -- the month's cap, and the net of April under it
    ∷ case (pos (charge contract 0 (penalties 300000))) (pos 225913)
    ∷ case (pos (amount_of contract 1) -ℤ pos (charge contract 0 (penalties 300000))) (negsuc 123038)
    -- what the year's cap leaves
    ∷ case (pos (charge contract 1300000 (penalties 300000))) (pos 57948)
    ∷ case (pos (market_units 100 (low_reserve true))) (pos 10)
    ∷ case (pos (market_units 100 (low_reserve false))) (pos 30)
    ∷ case (pos (outage_units 100 suppressed)) (pos 200)
    ∷ case (pos (dispatch_units 100 suppressed)) (pos 10)
    ∷ []
