use Rattle.std.proofs.Common.{Ok, refl}
use Rattle.yen.specs.Yen.{settlement_of}
use Rattle.book.specs.History.{settling}
use Rattle.book.proofs.Has.{goes_on}
use Rattle.book.proofs.book.Book.settle.Goals as goal

pub invariant_of-self : goal.invariant_of-self
invariant_of-self c =
    let n = c.args.notice in
    record {
      led = goes_on (settling n (Ok (settlement_of n.numbers.net))) c.args.self.now.led (record { awaits = c.if-not-awaits.ensures.0 refl; answered = refl; left = refl });
    }
