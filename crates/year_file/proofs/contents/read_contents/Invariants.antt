use Rattle.year_file.proofs.Entries.{Sofar}
use Rattle.year_file.proofs.contents.read_contents.Given as goal

abbrev pub invariant-loop-i : goal.invariant-loop-i
invariant-loop-i l = Sofar l.text l.span-items l.i l.rest l.end
