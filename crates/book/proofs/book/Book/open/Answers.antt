use Rattle.book.proofs.Emptied.{emptied}
use Rattle.book.proofs.Has.{begun}
use Rattle.book.proofs.book.Book.open.Goals as goal

pub invariant_of-result : goal.invariant_of-result
invariant_of-result c = record { led = begun {t = c.args.terms} (record { fresh = rw (emptied c.default.ensures) }) }
