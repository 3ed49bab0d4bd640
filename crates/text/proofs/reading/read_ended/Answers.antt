use Rattle.std.proofs.Common.{None, ◌∷◌, [], arith}
use Rattle.std.proofs.lemmas.Bool.Decides.{Decides-eqb}
use Rattle.std.proofs.lemmas.Slice.Eq.{strip_prefix_is}
use Rattle.text.proofs.Runs.{one_number}
use Rattle.text.proofs.reading.read_ended.Goals as goal

pub returns-in_err-rest : goal.returns-in_err-rest
returns-in_err-rest c =
    rw c.from_residual-in_err-rest.ensures
    (λ m us f.
    let other = strip_prefix_is Decides-eqb c.in_ok-n.rest.now (c.args.end ∷ []) None c.in_err-rest.ensures.cases in
    other us (one_number _ _ _ _ _ _ (omega arith) c.in_ok-n.ensures f).1)
