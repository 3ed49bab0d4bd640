-- What holds of every contract that has its price.
use Rattle.std.specs.Prelude.{◌*◌, ◌≤◌}
use Rattle.terms.specs.declared.figures.Contract.{Contract}

abbrev pub Named : Contract → Type 0
Named c = (1 ≤ c.plant) × (c.plant ≤ 999999) × (2025 ≤ c.year) × (c.year ≤ 2074)

abbrev pub Sized : Contract → Type 0
Sized c = (1 ≤ c.capacity) × (c.capacity ≤ 2000000) × (c.capacity ≤ 10 * c.assessed)

abbrev pub Assessed : Contract → Type 0
Assessed c = (1 ≤ c.assessed) × (c.assessed ≤ 2000000) × (1 ≤ c.hours) × (c.hours ≤ 1000)

abbrev pub Worth : Contract → Type 0
Worth c = (c.price ≤ 1000000) × (c.amount ≤ c.price * c.capacity)

pub record Sound (c : Contract) : Type 0 where
  pub named : Named c
  pub sized : Sized c
  pub assessed : Assessed c
  pub worth : Worth c
