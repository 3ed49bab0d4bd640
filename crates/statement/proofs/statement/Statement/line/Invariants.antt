use Rattle.std.proofs.Common.{◌≡◌, take}
use Rattle.std.specs.List.{flat_map}
use Rattle.statement.specs.Text.{field}
use Rattle.statement.proofs.statement.Statement.line.Given as goal

abbrev pub invariant-loop-field : goal.invariant-loop-field
invariant-loop-field l = l.line.bytes ≡ flat_map field (take l.field-index l.field-items)
