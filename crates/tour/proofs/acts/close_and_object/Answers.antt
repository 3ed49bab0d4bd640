use Rattle.book.proofs.Closing.{awaits_closed, awaits_back}
use Rattle.book.proofs.Has.{lines_there}
use Rattle.tour.proofs.acts.close_and_object.Goals as goal

pub unreachable-requires : goal.unreachable-requires
unreachable-requires g c =
    let closed = awaits_closed c.in_ok-notice.ensures.answer (lines_there c.args.book.now.led) in
    c.in-Err-settle.ensures.0 (awaits_back c.in-Err.ensures.1 closed)
