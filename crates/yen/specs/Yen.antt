-- The yen of a month. Every division cuts its quotient to a whole yen, and none is made of a cut one.
use Rattle.std.specs.Prelude.{ℕ, zero, suc, ◌+◌, ◌-◌, ◌*◌, ◌/◌, min, if◌then◌else◌, ℤ, pos, negsuc, ◌-ℤ◌, ◌==◌, List, ◌++◌, codes, decimal}
use Rattle.rules.specs.declared.assessment.PerRule.{PerRule}
use Rattle.terms.specs.declared.figures.Contract.{Contract}
use Rattle.yen.specs.declared.Before.{Before}
use Rattle.yen.specs.declared.MonthYen.{MonthYen}
use Rattle.yen.specs.declared.Settlement.{Settlement}
use Rattle.yen.specs.declared.Settlement.TheVariants.{Payment, Claim, Neither}

-- a twelfth of the year's amount; month 12 gets the rest
abbrev pub amount_of : Contract → ℕ → ℕ
amount_of c month = if month == 12 then c.amount - 11 * (c.amount / 12) else c.amount / 12

-- the units of the month beyond the year's 8,640 for each kW, given those of the settled months
abbrev pub excess : Contract → ℕ → ℕ → ℕ
excess c before units = min units ((before + units) - 8640 * c.assessed)

abbrev pub outage_penalty : Contract → ℕ → ℕ → ℕ
outage_penalty c before units = (c.amount * excess c before units) / (8000 * c.assessed)

-- for market and dispatch: two units are one kilowatt-hour
abbrev pub shortfall_penalty : Contract → ℕ → ℕ
shortfall_penalty c units = (c.amount * units) / (2 * c.capacity * c.hours)

-- 18.3 percent of the year's amount
abbrev pub month_cap : Contract → ℕ
month_cap c = (183 * c.amount) / 1000

-- 110 percent of the year's amount
abbrev pub year_cap : Contract → ℕ
year_cap c = (11 * c.amount) / 10

-- what is charged of the penalties, after what the settled months were charged
abbrev pub charge : Contract → ℕ → PerRule ℕ → ℕ
charge c before p = min (min (p.outage + p.market + p.dispatch) (month_cap c)) (year_cap c - before)

abbrev pub penalties_of : Contract → ℕ → PerRule ℕ → PerRule ℕ
penalties_of c before units = record {
  outage = outage_penalty c before units.outage;
  market = shortfall_penalty c units.market;
  dispatch = shortfall_penalty c units.dispatch;
}

-- the yen of a month after the settled ones
abbrev pub yen_of : Contract → ℕ → Before → PerRule ℕ → MonthYen
yen_of c month before units =
    let penalties = penalties_of c before.outage_units units in
    let charged = charge c before.charged penalties in
    record { amount = amount_of c month; penalties = penalties; charged = charged; net = pos (amount_of c month) -ℤ pos charged }

-- above zero a payment, below zero a claim of that size, at zero neither
abbrev pub settlement_of : ℤ → Settlement
settlement_of (pos zero) = Neither
settlement_of (pos (suc n)) = Payment (suc n)
settlement_of (negsuc n) = Claim (suc n)

-- what is printed of it
abbrev pub settlement_text : Settlement → List ℕ
settlement_text (Payment yen) = codes "a payment of " ++ decimal yen ++ codes " yen"
settlement_text (Claim yen) = codes "a claim of " ++ decimal yen ++ codes " yen"
settlement_text Neither = codes "neither payment nor claim"
