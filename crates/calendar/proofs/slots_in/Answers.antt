use Rattle.std.proofs.Common.{◌≡◌, ◌+◌, ◌-◌, ◌*◌, arith}
use Rattle.calendar.specs.Calendar.{fiscal_days}
use Rattle.calendar.proofs.Months.{follows, fiscal, fiscal_short}
use Rattle.calendar.proofs.Slots.{slots_known}
use Rattle.calendar.proofs.slots_in.Goals as goal

days : (c : goal.In_ok-days) → c.in_ok-first_day.field-0 ≡ c.in_ok-days.field-0 + fiscal_days c.args.year c.args.month
days c =
    let k = (c.args.year - 2025) * 12 + (c.args.month - 1) in
    let e = follows k _ _ (omega arith) (simp (c.from.ensures, c.from-2.ensures) at c.in_ok-days.ensures) (simp (c.from.ensures, c.from-2.ensures) at c.in_ok-first_day.ensures) in
    omega (arith, e, fiscal c.args.year c.args.month (omega arith) (omega arith) (omega arith))

pub overflow_sub-days : goal.overflow_sub-days
overflow_sub-days c = omega (arith, days c)

pub overflow_mul-result : goal.overflow_mul-result
overflow_mul-result c = omega (arith, days c, fiscal_short c.args.year c.args.month)

pub overflow_cast-result : goal.overflow_cast-result
overflow_cast-result c = omega (arith, days c, fiscal_short c.args.year c.args.month)

pub returns : goal.returns
returns c =
    slots_known c.args.year c.args.month _ (omega arith) (omega arith) (omega arith) (omega arith) (omega (arith, days c))
