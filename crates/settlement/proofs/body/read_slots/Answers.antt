use Rattle.std.proofs.Common.{◌≤◌, sym, ◌∙◌, rules}
use Rattle.calendar.proofs.Slots.{slots_upto}
use Rattle.settlement.proofs.body.read_slots.Goals as goal

pub slice_bounds-slots-end : goal.slice_bounds-slots-end
slice_bounds-slots-end c =
    let few : c.in_ok-count.count ≤ 1488 =
    slots_upto c.args.open.now.year c.args.open.now.month c.in_ok-count.count (sym c.slots_in.ensures ∙ c.in_ok-count.ensures.ok_part) in
    search rules
