use Rattle.text.proofs.Records.{Sofar}
use Rattle.year_file.specs.Bodies.{body}
use Rattle.year_file.proofs.body.read_lines.Given as goal

abbrev pub invariant-loop-i : goal.invariant-loop-i
invariant-loop-i l = Sofar body l.text l.slots l.i l.rest
