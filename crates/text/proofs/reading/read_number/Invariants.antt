use Rattle.std.proofs.Common.{◌+◌, ◌≤◌, length}
use Rattle.text.proofs.Runs.{Sofar}
use Rattle.text.proofs.reading.read_number.Given as goal

abbrev pub invariant-loop-digit : goal.invariant-loop-digit
invariant-loop-digit l = Sofar l.text l.rest l.n × (length l.text ≤ length l.rest + l.limit)

abbrev pub decreases-loop-digit : goal.decreases-loop-digit
decreases-loop-digit l = length l.rest
