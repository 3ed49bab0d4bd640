-- What is known of terms that have no line out of range.
use Rattle.std.proofs.Common.{◌≡◌, ℕ, ◌*◌, ◌<◌, ◌≤◌, true, None, arith}
use Rattle.std.proofs.lemmas.Int.{ints}
use Rattle.terms.specs.declared.terms.Terms.{Terms}
use Rattle.terms.specs.Bounds.{PriceInRange}
use Rattle.terms.specs.Ranges.{numbers, in_range, first_out}
use Rattle.terms.proofs.Walk.{all_in}

module _ (t : Terms) (e : first_out (numbers t) ≡ None) where
  line : (k : ℕ) → k < 22 → in_range (numbers t) k ≡ true
  line = all_in (numbers t) e

  pub named : (1 ≤ t.plant) × (t.plant ≤ 999999) × (2025 ≤ t.year) × (t.year ≤ 2074)
  unfolding numbers
  named =
      let plant = line 0 (omega arith) in
      let year = line 1 (omega arith) in
      grind (arith, ints)

  pub sized : (1 ≤ t.capacity) × (t.capacity ≤ 2000000) × (t.capacity ≤ 10 * t.assessed)
  unfolding numbers
  sized =
      let capacity = line 2 (omega arith) in
      let assessed = line 3 (omega arith) in
      grind (arith, ints)

  pub assessed : (1 ≤ t.assessed) × (t.assessed ≤ 2000000) × (1 ≤ t.hours) × (t.hours ≤ 1000)
  unfolding numbers
  assessed =
      let assessed = line 3 (omega arith) in
      let hours = line 4 (omega arith) in
      grind (arith, ints)

  pub price_in_range : PriceInRange t
  unfolding numbers
  price_in_range =
      record {
        capital = let number = line 5 (omega arith) in grind (arith, ints);
        upkeep = let number = line 6 (omega arith) in grind (arith, ints);
        returns = let number = line 7 (omega arith) in grind (arith, ints);
        deflator = let bid = line 13 (omega arith) in let settled = line 14 (omega arith) in grind (arith, ints);
        corporate = let bid = line 15 (omega arith) in let settled = line 16 (omega arith) in grind (arith, ints);
        consumer = let bid = line 17 (omega arith) in let settled = line 18 (omega arith) in grind (arith, ints);
        rate_bid = let number = line 19 (omega arith) in grind (arith, ints);
        rate_settled = let number = line 20 (omega arith) in grind (arith, ints);
      }
