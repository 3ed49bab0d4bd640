-- The Gregorian calendar, and the fiscal year that starts in April.
use Rattle.std.specs.Prelude.{ℕ, zero, suc, ◌+◌, ◌-◌, ◌*◌, ◌/◌, ◌%◌, Bool, true, false, cond, Some, None, Option, ◌==◌, nat_le, nat_lt}

-- a year is a leap year where 4 divides it, but for the centuries that 400 does not divide
abbrev pub leap : ℕ → Bool
leap y = cond (y % 400 == 0) true (cond (y % 100 == 0) false (y % 4 == 0))

-- the days of the month m, 1 for January, of the calendar year y
unfoldable pub days_in : ℕ → ℕ → ℕ
days_in y m =
    cond (m == 2) (cond (leap y) 29 28)
    (cond (m == 4) 30 (cond (m == 6) 30 (cond (m == 9) 30 (cond (m == 11) 30 31))))

-- the days of the month that comes k months after April 2025
abbrev pub days_after : ℕ → ℕ
days_after k = days_in (2025 + (k + 3) / 12) ((k + 3) % 12 + 1)

-- the day number of the first day of that month, where April 1, 2025 is day 0
unfoldable pub first_day : ℕ → ℕ
first_day zero = 0
first_day (suc k) = first_day k + days_after k

-- the same within the table, which ends with April 2075
abbrev pub first_day_of : ℕ → Option ℕ
first_day_of k = cond (nat_lt k 601) (Some (first_day k)) None

-- the days of the month m of the fiscal year y: month 1 is April, and 10 to 12 fall into the next calendar year
abbrev pub fiscal_days : ℕ → ℕ → ℕ
fiscal_days y m = cond (nat_le m 9) (days_in y (m + 3)) (days_in (y + 1) (m - 9))

-- the years and months that the table has
abbrev pub known : ℕ → ℕ → Bool
known y m = cond (nat_le 2025 y) (cond (nat_le y 2074) (cond (nat_le 1 m) (nat_le m 12) false) false) false

-- a day has 48 slots of half an hour
abbrev pub slots_in : ℕ → ℕ → Option ℕ
slots_in y m = cond (known y m) (Some (48 * fiscal_days y m)) None
