-- A month's length, by its place in the table and by its fiscal year and number.
use Rattle.std.proofs.Common.{◌≡◌, ℕ, ◌+◌, ◌-◌, ◌*◌, ◌<◌, ◌≤◌, Some, ◌∙◌, add-one, arith}
use Rattle.std.proofs.lemmas.Bool.{cond-true, lt-ltb}
use Rattle.calendar.specs.Calendar.{first_day, first_day_of, days_after, days_in, fiscal_days}

pub in_table : (k : ℕ) → k < 601 → first_day_of k ≡ Some (first_day k)
in_table k h = cond-true _ _ _ (lt-ltb k 601 h)

next : (k : ℕ) → first_day (k + 1) ≡ first_day k + days_after k
unfolding first_day
next k = rw (add-one k)

-- two entries that follow each other differ by the length of the month between them
pub follows : (k a b : ℕ) → k < 600 → Some a ≡ first_day_of k → Some b ≡ first_day_of (k + 1) → b ≡ a + days_after k
follows k a b h e f =
    let i : Some a ≡ Some (first_day k) = e ∙ in_table k (omega arith) in
    let j : Some b ≡ Some (first_day (k + 1)) = f ∙ in_table (k + 1) (omega arith) in
    let n = next k in
    cc

pub fiscal : (y m : ℕ) → 2025 ≤ y → 1 ≤ m → m ≤ 12 → days_after ((y - 2025) * 12 + (m - 1)) ≡ fiscal_days y m
fiscal y m low one top = grind arith

pub long : (y m : ℕ) → 28 ≤ days_in y m
unfolding days_in
long y m = grind arith

pub short : (y m : ℕ) → days_in y m ≤ 31
unfolding days_in
short y m = grind arith

pub fiscal_long : (y m : ℕ) → 28 ≤ fiscal_days y m
fiscal_long y m = grind (arith, long)

pub fiscal_short : (y m : ℕ) → fiscal_days y m ≤ 31
fiscal_short y m = grind (arith, short)
