use Rattle.std.proofs.Common.{Ok, refl}
use Rattle.book.specs.History.{objecting}
use Rattle.book.proofs.Emptied.{emptied}
use Rattle.book.proofs.Has.{goes_on}
use Rattle.book.proofs.book.Book.object.Goals as goal

pub invariant_of-self : goal.invariant_of-self
invariant_of-self c =
    record {
      led = goes_on (objecting c.args.notice (Ok tt)) c.args.self.now.led (record { awaits = c.if-not-awaits.ensures.0 refl; issue_left = c.if-self-ge99.false; left = rw (emptied c.default.ensures) });
    }
