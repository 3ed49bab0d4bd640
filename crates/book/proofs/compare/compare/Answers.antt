use Rattle.book.proofs.Theorem.{no_better_kept_year_costs_more}
use Rattle.book.proofs.compare.compare.Goals as goal

pub returns-clause-no_better_kept_year_costs_more : goal.returns-clause-no_better_kept_year_costs_more
returns-clause-no_better_kept_year_costs_more c = no_better_kept_year_costs_more c.args.first.now.table c.args.second.now.table
