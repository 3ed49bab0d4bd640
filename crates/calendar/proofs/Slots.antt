-- The slots of a month lie between those of 28 and of 31 days.
use Rattle.std.proofs.Common.{◌≡◌, ℕ, ◌*◌, ◌≤◌, Some, ap, arith}
use Rattle.std.proofs.lemmas.Bool.{le-leb}
use Rattle.calendar.specs.Calendar.{slots_in, fiscal_days}
use Rattle.calendar.proofs.Months.{fiscal_long, fiscal_short}

pub slots_from : (y m n : ℕ) → slots_in y m ≡ Some n → 1344 ≤ n
slots_from y m n e = grind (arith, fiscal_long y m)

pub slots_upto : (y m n : ℕ) → slots_in y m ≡ Some n → n ≤ 1488
slots_upto y m n e = grind (arith, fiscal_short y m)

pub slots_known : (y m n : ℕ) → 2025 ≤ y → y ≤ 2074 → 1 ≤ m → m ≤ 12 → n ≡ 48 * fiscal_days y m → Some n ≡ slots_in y m
slots_known y m n from to one last e = rw (le-leb 2025 y from, le-leb y 2074 to, le-leb 1 m one, le-leb m 12 last) (ap Some e)
