-- Bounds that keep the work of pricing within its integers.
use Rattle.std.specs.Prelude.{ℕ, ◌≤◌, ℤ, pos, negsuc, ◌≤ℤ◌}
use Rattle.terms.specs.declared.terms.BidAndSettled.{BidAndSettled}
use Rattle.terms.specs.declared.terms.Terms.{Terms}

pub record IndexInRange (i : BidAndSettled ℕ) : Type 0 where
  pub bid_from : 100 ≤ i.bid
  pub bid_to : i.bid ≤ 9999
  pub settled_to : i.settled ≤ 9999

pub record RateInRange (r : ℤ) : Type 0 where
  pub from : negsuc 999 ≤ℤ r
  pub to : r ≤ℤ pos 15000

-- the numbers that make the price are in range
pub record PriceInRange (t : Terms) : Type 0 where
  pub capital : t.capital ≤ 200000
  pub upkeep : t.upkeep ≤ 200000
  pub returns : t.returns ≤ 200000
  pub deflator : IndexInRange t.deflator
  pub corporate : IndexInRange t.corporate
  pub consumer : IndexInRange t.consumer
  pub rate_bid : RateInRange t.rates.bid
  pub rate_settled : RateInRange t.rates.settled
