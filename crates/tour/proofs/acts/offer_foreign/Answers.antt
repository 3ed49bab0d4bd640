use Rattle.std.proofs.Common.{sym, subst}
use Rattle.book.specs.Calls.{Awaits}
use Rattle.book.proofs.Closing.{awaits_closed}
use Rattle.book.proofs.Has.{lines_there}
use Rattle.tour.proofs.acts.offer_foreign.Goals as goal

pub unreachable-requires-in-Err-settle : goal.unreachable-requires-in-Err-settle
unreachable-requires-in-Err-settle c =
    let closed = awaits_closed c.in-Ok.ensures.answer (lines_there c.args.second.now.led) in
    c.in-Err-settle.ensures.0 (subst (λ n. Awaits c.close.new.self.table n) (sym c.in-Err.ensures.1.back_same) closed)
