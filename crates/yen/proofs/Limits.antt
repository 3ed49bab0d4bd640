-- How large the yen of a sound contract can get.
use Rattle.std.proofs.Common.{ℕ, ◌*◌, ◌/◌, ◌≤◌, arith}
use Rattle.rules.specs.declared.assessment.PerRule.{PerRule}
use Rattle.terms.specs.declared.figures.Contract.{Contract}
use Rattle.terms.specs.Sound.{Sound}
use Rattle.yen.specs.Yen.{amount_of, excess, outage_penalty, shortfall_penalty, charge}

module _ (c : Contract) (s : Sound c) where
  by_capacity : c.amount ≤ 1000000 * c.capacity
  by_capacity = grind arith

  pub amount_limit : c.amount ≤ 2000000000000
  amount_limit = grind arith

  excess_limit : (excess : ℕ) → excess ≤ 14880000000 → (c.amount * excess) / (8000 * c.assessed) ≤ 18600000000000
  excess_limit excess few = grind (arith, by_capacity)

  pub outage_limit : (before units : ℕ) → units ≤ 14880000000 → outage_penalty c before units ≤ 18600000000000
  outage_limit before units few = excess_limit (excess c before units) (omega arith)

  pub shortfall_limit : (units : ℕ) → units ≤ 14880000000 → shortfall_penalty c units ≤ 7440000000000000
  shortfall_limit units few = grind (arith, by_capacity)

  pub charge_limit : (before : ℕ) (p : PerRule ℕ) → charge c before p ≤ 2200000000000
  charge_limit before p = grind (arith, amount_limit)

  -- fewer units are never charged more
  pub outage_less : (before before' units units' : ℕ) → before ≤ before' → units ≤ units' → outage_penalty c before units ≤ outage_penalty c before' units'
  outage_less before before' units units' p q = grind arith

  pub shortfall_less : (units units' : ℕ) → units ≤ units' → shortfall_penalty c units ≤ shortfall_penalty c units'
  shortfall_less units units' q = grind arith

pub amount_within : (c : Contract) (month : ℕ) → amount_of c month ≤ c.amount
amount_within c month = grind arith
