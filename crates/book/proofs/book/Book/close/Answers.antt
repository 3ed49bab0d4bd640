use Rattle.std.proofs.Common.{subst}
use Rattle.terms.specs.declared.figures.Contract.{Contract}
use Rattle.book.specs.Calls.{standard_rules, Closed}
use Rattle.book.proofs.book.Book.close.Goals as goal

pub returns : goal.returns
returns c =
    subst (λ (k : Contract). Closed c.args.self.now.table c.args.slots.now (standard_rules k.assessed) c.close_by.result c.close_by.new.self.table) c.contract-kilowatts.ensures c.close_by.ensures
