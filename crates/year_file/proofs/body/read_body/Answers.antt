use Rattle.std.proofs.Common.{◌≤◌, sym, ◌∙◌}
use Rattle.std.proofs.lemmas.List.{length-take-le}
use Rattle.std.proofs.lemmas.Result.{err_from_is_err_and}
use Rattle.calendar.proofs.Slots.{slots_upto}
use Rattle.year_file.proofs.Bodies.{right_room}
use Rattle.year_file.proofs.body.read_body.Goals as goal
use Rattle.year_file.proofs.body.read_body.Goals.{In-Some}

upto : (c : In-Some) → c.in-Some.count ≤ 1488
upto c = slots_upto c.args.year c.args.month c.in-Some.count (sym c.in-Some.ensures)

-- the part of the scratch list that is read into is as long as the month
pub slice_bounds-read-end : goal.slice_bounds-read-end
slice_bounds-read-end c = sym (length-take-le _ _ (upto (goal.at.slice_bounds-read-end c).In-Some))

pub returns-in_err-read_lines-clause-verdict : goal.returns-in_err-read_lines-clause-verdict
returns-in_err-read_lines-clause-verdict c =
    let p = err_from_is_err_and c.from_residual.result c.from_residual.ensures.1 in
    rw (p.1, p.2) (right_room _ _ c.in-Some.ensures c.if-slots-count.false c.in_err-read_lines.ensures (length-take-le _ _ (upto (goal.at.returns-in_err-read_lines-clause-verdict c).In-Some)))

pub copy_from_slice-requires : goal.copy_from_slice-requires
copy_from_slice-requires c = c.if-slots-count.false ∙ sym (c.read_lines.auto.slots ∙ length-take-le _ _ (upto (goal.at.copy_from_slice-requires c).In-Some))
