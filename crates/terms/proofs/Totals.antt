-- The exact total of terms that are in range, and its whole part.
use Rattle.std.proofs.Common.{◌≡◌, Some, None, Option, refl}
use Rattle.std.specs.Option.{option_map}
use Rattle.terms.specs.declared.fraction.Fraction.{Fraction}
use Rattle.terms.specs.declared.terms.Terms.{Terms}
use Rattle.terms.specs.Bounds.{PriceInRange}
use Rattle.terms.specs.Fractions.{cut, WholePart}
use Rattle.terms.specs.Price.{rate_factor, total}
use Rattle.terms.proofs.Smallness.{Total, rate_small, total_small, whole}

-- f is the exact total, and small
pub record IsTotal (t : Terms) (f : Fraction) : Type 0 where
  pub rate : Fraction
  pub some : rate_factor t ≡ Some rate
  pub is : f ≡ total t rate
  pub small : Total f

with_rate : (t : Terms) (f : Fraction) (rate : Option Fraction) → PriceInRange t → rate_factor t ≡ rate → Some f ≡ option_map (total t) rate → IsTotal t f
with_rate t f (Some rate) h some e =
    let is : f ≡ total t rate = cc in
    record { rate = rate; some = some; is = is; small = rw is (total_small t rate h (rate_small t rate h some)) }
with_rate t f None h some e = absurd cc

pub is_total : (t : Terms) (f : Fraction) → PriceInRange t → Some f ≡ option_map (total t) (rate_factor t) → IsTotal t f
is_total t f h e = with_rate t f (rate_factor t) h refl e

-- its quotient is its whole part
pub cut_once : (t : Terms) (f : Fraction) → IsTotal t f → (rate : Fraction) × ((rate_factor t ≡ Some rate) × WholePart (total t rate) (cut f))
cut_once t f h = (h.rate, (h.some, rw (← h.is) (whole f h.small.some)))
