-- The units of three rules, as plain numbers.
use Rattle.std.specs.Prelude.{ℕ}
use Rattle.rules.specs.declared.assessment.PerRule.{PerRule}
use Rattle.rules.specs.declared.assessment.Units.{Units}

abbrev pub counts_of : PerRule Units → PerRule ℕ
counts_of units = record { outage = units.outage.count; market = units.market.count; dispatch = units.dispatch.count }
