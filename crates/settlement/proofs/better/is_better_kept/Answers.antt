use Rattle.settlement.proofs.Bodies.{better_refused, worse_refused, both_read}
use Rattle.settlement.proofs.better.is_better_kept.Goals as goal

pub returns-in_default : goal.returns-in_default
returns-in_default c = better_refused c.args.open.now c.args.better.now c.args.worse.now c.in_default.field-0 c.in_default.ensures

pub returns-in_default-read_slots : goal.returns-in_default-read_slots
returns-in_default-read_slots c =
    worse_refused c.args.open.now c.args.better.now c.args.worse.now c.in_default-read_slots.field-0 c.in_default-read_slots.ensures

pub returns : goal.returns
returns c =
    both_read c.args.open.now c.args.better.now c.args.worse.now c.in-Ok.better_slots.now c.in-Ok-read_slots.worse_slots.now
    c.are_no_worse.result c.in-Ok.ensures c.in-Ok-read_slots.ensures c.are_no_worse.ensures
