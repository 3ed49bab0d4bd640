-- The table in the code is the one that the rule makes: all of its entries are computed and compared.
use Rattle.std.proofs.Common.{◌∙◌}
use Rattle.calendar.specs.Calendar.{days_in}
use Rattle.calendar.proofs.Entries.{entries}
use Rattle.calendar.proofs.LookUp.{looked_up}
use Rattle.calendar.proofs.first_day.Goals as goal

pub returns : goal.returns
unfolding entries days_in
returns c = c.copied.ensures ∙ looked_up c.args.k c.get.result c.get.ensures.lookup
