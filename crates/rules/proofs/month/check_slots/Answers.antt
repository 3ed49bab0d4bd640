use Rattle.std.proofs.Common.{rules}
use Rattle.rules.specs.Months.{FitSlots}
use Rattle.rules.proofs.Slots.{few, within}
use Rattle.rules.proofs.month.check_slots.Goals as goal

pub invariant_of-result : goal.invariant_of-result
invariant_of-result c =
    let f : FitSlots c.args.«open».now c.args.slots.now = search rules in
    record { few = few f; within = within f }
