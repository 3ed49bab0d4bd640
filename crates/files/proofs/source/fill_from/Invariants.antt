use Rattle.std.proofs.Common.{◌-◌, ◌≤◌, length}
use Rattle.files.proofs.source.fill_from.Given as goal

abbrev pub invariant-loop-got : goal.invariant-loop-got
invariant-loop-got l = l.got ≤ length l.initial.buf

-- a turn that does not stop the loop reads a byte at least
abbrev pub decreases-loop-got : goal.decreases-loop-got
decreases-loop-got l = length l.initial.buf - l.got
