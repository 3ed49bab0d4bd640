use Rattle.std.proofs.Common.{sym, ◌∙◌, subst}
use Rattle.std.proofs.lemmas.Bool.{false≢true}
use Rattle.book.specs.declared.table.Table.{Table}
use Rattle.book.specs.Calls.{Awaits}
use Rattle.book.proofs.Closing.{awaits_closed}
use Rattle.book.proofs.Has.{lines_there}
use Rattle.tour.proofs.acts.close_twice.Goals as goal

pub unreachable-requires : goal.unreachable-requires
unreachable-requires c =
    let awaits = awaits_closed c.in_ok-notice.ensures.answer (lines_there c.args.book.now.led) in
    false≢true (sym c.in-Ok.ensures.answer.none_out ∙ awaits.is_out)

pub unreachable-requires-in-Err-settle : goal.unreachable-requires-in-Err-settle
unreachable-requires-in-Err-settle c =
    let awaits = awaits_closed c.in_ok-notice.ensures.answer (lines_there c.args.book.now.led) in
    c.in-Err-settle.ensures.0 (subst (λ (t : Table). Awaits t c.in_ok-notice.notice) (sym c.in-Err.ensures.answer.1) awaits)
