-- The bounds of products and sums of fractions, and the whole part as a quotient.
use Rattle.std.proofs.Common.{◌≡◌, ℕ, ◌+◌, ◌*◌, ◌/◌, ◌^◌, ◌<◌, ◌≤◌, ◌&&◌, eqb, ℤ, pos, negsuc, ◌≤ℤ◌, Some, refl, subst, mul_assoc, mul_comm, add-mul, mul-le-mul_left, div-mul-le_self, arith}
use native.Mathlib.Nat.{mul-mul-mul_comm, lt-mul-div-succ, div-le_of_le-mul}
use Rattle.std.proofs.lemmas.Nat.{mul-le, mul-lt}
use Rattle.std.proofs.lemmas.Int.{ints}
use Rattle.std.proofs.lemmas.Bool.{cond_both}
use Rattle.terms.specs.declared.fraction.Fraction.{Fraction}
use Rattle.terms.specs.declared.terms.BidAndSettled.{BidAndSettled}
use Rattle.terms.specs.declared.terms.Terms.{Terms}
use Rattle.terms.specs.Bounds.{IndexInRange, PriceInRange}
use Rattle.terms.specs.Fractions.{over, one, of, times, plus, cut, WholePart}
use Rattle.terms.specs.Price.{ratio, factor, parts, rates_factor, rate_factor, itemised, together, total}

-- the denominator is d at most, and the fraction is worth k at most
pub record Small (d k : ℕ) (f : Fraction) : Type 0 where
  pub some : 0 < f.den
  pub bottom : f.den ≤ d
  pub worth : f.num ≤ k * f.den

-- so both its numbers fit, if these bounds do
pub fits : {d k : ℕ} (f : Fraction) → Small d k f → k * d < 2 ^ 128 → d < 2 ^ 128 → (f.num < 2 ^ 128) × (f.den < 2 ^ 128)
fits {d} {k} f s top bottom = (omega (arith, s.worth, mul-le-mul_left k s.bottom), omega (arith, s.bottom))

pub of_small : {d k m M : ℕ} {f : Fraction} → m ≤ M → Small d k f → Small d (M * k) (of m f)
of_small {d} {k} {m} {M} {f} h s = record { some = s.some; bottom = s.bottom; worth = rw (mul_assoc M k f.den) (mul-le m f.num M (k * f.den) h s.worth) }

pub times_small : {d k d' k' : ℕ} {f g h : Fraction} → h ≡ times f g → Small d k f → Small d' k' g → Small (d * d') (k * k') h
times_small {d} {k} {d'} {k'} {f} {g} e s t =
    rw e (record {
      some = mul-lt 0 0 f.den g.den s.some t.some;
      bottom = mul-le f.den g.den d d' s.bottom t.bottom;
      worth = rw (mul-mul-mul_comm k k' f.den g.den) (mul-le f.num g.num (k * f.den) (k' * g.den) s.worth t.worth);
    })

pub plus_small : {d k d' k' : ℕ} {f g h : Fraction} → h ≡ plus f g → Small d k f → Small d' k' g → Small (d * d') (k + k') h
plus_small {d} {k} {d'} {k'} {f} {g} e s t =
    let a : f.num * g.den ≤ k * f.den * g.den = mul-le f.num g.den (k * f.den) g.den s.worth (omega arith) in
    let b : g.num * f.den ≤ k' * g.den * f.den = mul-le g.num f.den (k' * g.den) f.den t.worth (omega arith) in
    rw e (record {
      some = mul-lt 0 0 f.den g.den s.some t.some;
      bottom = mul-le f.den g.den d d' s.bottom t.bottom;
      worth = omega (arith, add-mul k k' (f.den * g.den), mul_assoc k f.den g.den, mul_assoc k' g.den f.den, mul_comm f.den g.den);
    })

-- wider bounds
pub small_wider : {d k d' k' : ℕ} {f : Fraction} → d ≤ d' → k ≤ k' → Small d k f → Small d' k' f
small_wider {d} {k} {d'} {k'} {f} hd hk s = let worth = mul-le k f.den k' f.den hk (omega arith) in record { some = s.some; bottom = omega (arith, s.bottom); worth = omega (arith, s.worth) }

one_small : Small 1 1 one
one_small = record { some = omega arith; bottom = omega arith; worth = omega arith }

pub ratio_small : (i : BidAndSettled ℕ) → IndexInRange i → Small 9999 100 (ratio i)
ratio_small i h = record { some = omega (arith, h.bid_from); bottom = h.bid_to; worth = omega (arith, h.bid_from, h.settled_to) }

pub factor_small : (choice : ℕ) (i : BidAndSettled ℕ) → IndexInRange i → Small 9999 100 (factor choice i)
factor_small choice i r = cond_both (eqb choice 1) (ratio i) one (λ f. Small 9999 100 f) (λ _. ratio_small i r) (λ _. small_wider (omega arith) (omega arith) one_small)

pub together_small : (t : Terms) → PriceInRange t → Small 9999 60000000 (together t)
together_small t h = of_small {M = 600000} (omega (arith, h.capital, h.upkeep, h.returns)) (ratio_small _ h.consumer)

-- the bounds of an item, of the factor of the rates and of the total
abbrev pub Item : Fraction → Type 0
Item f = Small 9999 20000000 f

abbrev pub Rate : Fraction → Type 0
Rate f = Small 5000 5 f

abbrev pub Total : Fraction → Type 0
Total f = Small 4998500149995000 140000000 f

pub item_small : {f : Fraction} (yen choice : ℕ) (i : BidAndSettled ℕ) → f ≡ of yen (factor choice i) → yen ≤ 200000 → IndexInRange i → Item f
item_small yen choice i e h r =
    rw e (of_small h (factor_small choice i r))

parts_small : (z : ℤ) (rate : Fraction) → z ≤ℤ pos 21000 → parts z ≡ Some rate → Rate rate
parts_small (pos n) rate h e =
    let is : over n 5000 ≡ rate = cc in
    subst (λ f. Rate f) is (record { some = omega arith; bottom = omega arith; worth = omega (arith, ints) })
parts_small (negsuc n) rate h e = absurd cc

pub rate_small : (t : Terms) (rate : Fraction) → PriceInRange t → rate_factor t ≡ Some rate → Rate rate
rate_small t rate h =
    cond_both (eqb t.method 1 && eqb t.choices.rates 1) (rates_factor t.rates) (Some one) (λ o. o ≡ Some rate → Rate rate)
    (λ _. parts_small _ rate (omega (arith, ints, h.rate_bid, h.rate_settled)))
    (λ _ e. let is : one ≡ rate = cc in subst (λ f. Rate f) is (small_wider (omega arith) (omega arith) one_small))

pub itemised_small : (t : Terms) (rate : Fraction) → PriceInRange t → Rate rate → Total (itemised t rate)
itemised_small t rate h r =
    plus_small refl (plus_small refl (item_small t.capital _ _ refl h.capital h.deflator) (item_small t.upkeep _ _ refl h.upkeep h.corporate))
    (times_small refl (item_small t.returns _ _ refl h.returns h.deflator) r)

pub total_small : (t : Terms) (rate : Fraction) → PriceInRange t → Rate rate → Total (total t rate)
total_small t rate h r =
    cond_both (eqb t.method 1) (itemised t rate) (together t) (λ f. Total f)
    (λ _. itemised_small t rate h r)
    (λ _. small_wider (omega arith) (omega arith) (together_small t h))

-- the quotient is the whole part
pub whole : (f : Fraction) → 0 < f.den → WholePart f (cut f)
whole f h = (div-mul-le_self f.num f.den, rw (mul_comm (f.num / f.den + 1) f.den) (lt-mul-div-succ f.num h))

-- and no larger than what the fraction is worth
pub cut_le : {d k : ℕ} (f : Fraction) → Small d k f → cut f ≤ k
cut_le {d} {k} f s = div-le_of_le-mul f.den (rw (mul_comm f.den k) s.worth)
