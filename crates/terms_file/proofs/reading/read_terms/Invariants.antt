use Rattle.terms_file.proofs.Verdicts.{Sofar}
use Rattle.terms_file.proofs.reading.read_terms.Given as goal

abbrev pub invariant-loop-i : goal.invariant-loop-i
invariant-loop-i l = Sofar l.text l.values l.i l.rest
