-- Facts of the ranges, each computed over the whole table.
use Rattle.std.proofs.Common.{◌≡◌, ℕ, ◌<◌, Bool, true, ◌&&◌, ◌||◌, List, get_or, int_le, ℤ, pos, negsuc, ◌≤ℤ◌, None, refl, arith}
use Rattle.std.proofs.lemmas.Int.{ints}
use Rattle.std.proofs.lemmas.Bool.{agree_below_at}
use Rattle.terms.specs.Ranges.{ranges, within, in_range, first_out}
use Rattle.terms_file.specs.declared.reading.Numbers.{Numbers}
use Rattle.terms_file.specs.TermsFile.{InForm, rate_at}
use Rattle.terms.proofs.Walk.{all_in}

abbrev low : ℕ → ℤ
low k = (get_or ranges k (pos 0, pos 0)).0

abbrev high : ℕ → ℤ
high k = (get_or ranges k (pos 0, pos 0)).1

-- a number within a range, whatever else is asked of it
bounds : (r : ℤ × ℤ) (z : ℤ) (b : Bool) → (within r z && b) ≡ true → (r.0 ≤ℤ z) × (z ≤ℤ r.1)
bounds r z b e = grind (arith, ints)

-- the number at the place k lies in its range
pub between : (ns : List ℤ) (k : ℕ) → in_range ns k ≡ true → (low k ≤ℤ get_or ns k (pos 0)) × (get_or ns k (pos 0) ≤ℤ high k)
between ns k e = bounds (get_or ranges k (pos 0, pos 0)) (get_or ns k (pos 0)) _ e

pub range_at : (s : Numbers) (k : ℕ) → k < 22 → (low k ≤ℤ get_or s.values k (pos 0)) × (get_or s.values k (pos 0) ≤ℤ high k)
range_at s k h = between s.values k (all_in s.values s.ranges k h)

-- a range within another one
narrower : (l h a b z : ℤ) → (int_le a l && int_le h b) ≡ true → (l ≤ℤ z) × (z ≤ℤ h) → (a ≤ℤ z) × (z ≤ℤ b)
narrower l h a b z t w = grind (arith, ints)

plain : ℕ → Bool
plain k = int_le (pos 0) (low k) && int_le (high k) (pos 2000000)

-- the first 19 numbers have no sign
pub plain_at : (ns : List ℤ) → first_out ns ≡ None → (k : ℕ) → k < 19 → (pos 0 ≤ℤ get_or ns k (pos 0)) × (get_or ns k (pos 0) ≤ℤ pos 2000000)
unfolding plain
plain_at ns e k h = narrower (low k) (high k) _ _ _ (agree_below_at plain (λ _. true) 19 k refl h) (between ns k (all_in ns e k (omega arith)))

written : ℕ → Bool
written k = int_le (negsuc 9999999999998) (low k) && int_le (high k) (pos 9999999999999) && (int_le (pos 0) (low k) || rate_at k)

-- a number below 0 is in no range but that of a rate
rate_below : (l : ℤ) (n : ℕ) (rate : Bool) → (int_le (pos 0) l || rate) ≡ true → l ≤ℤ negsuc n → rate ≡ true
rate_below l n rate t w = grind (arith, ints)

form : (k : ℕ) (l h z : ℤ) → (int_le (negsuc 9999999999998) l && int_le h (pos 9999999999999) && (int_le (pos 0) l || rate_at k)) ≡ true → (l ≤ℤ z) × (z ≤ℤ h) → InForm k z
form k l h (pos n) t w = grind (arith, ints)
form k l h (negsuc n) t w = (grind (arith, ints), rate_below l n (rate_at k) (grind (arith, ints)) w.0)

-- what is in range is in form
pub in_form : (ns : List ℤ) (k : ℕ) → k < 22 → in_range ns k ≡ true → InForm k (get_or ns k (pos 0))
unfolding written
in_form ns k h e = form k (low k) (high k) _ (agree_below_at written (λ _. true) 22 k refl h) (between ns k e)
