-- Fractions of whole numbers, written out: nothing is cut before the end.
use Rattle.std.specs.Prelude.{ℕ, ◌+◌, ◌*◌, ◌/◌, ◌<◌, ◌≤◌}
use Rattle.terms.specs.declared.fraction.Fraction.{Fraction}

-- n / d
abbrev pub over : ℕ → ℕ → Fraction
over n d = record { num = n; den = d }

abbrev pub one : Fraction
one = over 1 1

-- n times a fraction
abbrev pub of : ℕ → Fraction → Fraction
of n f = over (n * f.num) f.den

abbrev pub times : Fraction → Fraction → Fraction
times f g = over (f.num * g.num) (f.den * g.den)

abbrev pub plus : Fraction → Fraction → Fraction
plus f g = over (f.num * g.den + g.num * f.den) (f.den * g.den)

-- a fraction rounded down
abbrev pub cut : Fraction → ℕ
cut f = f.num / f.den

-- p is the whole part of f: p ≤ f < p + 1
abbrev pub WholePart : Fraction → ℕ → Type 0
WholePart f p = (p * f.den ≤ f.num) × (f.num < (p + 1) * f.den)
