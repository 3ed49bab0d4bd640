use Rattle.std.proofs.Common.{◌≡◌, ◌∷◌, [], Some, arith}
use Rattle.std.proofs.lemmas.Bool.Decides.{Decides-eqb}
use Rattle.std.proofs.lemmas.Slice.Eq.{strip_prefix_is}
use Rattle.terms_file.proofs.Lines.{one_ended, no_line_minus}
use Rattle.terms_file.proofs.reading.read_line.Goals as goal
use Rattle.terms_file.proofs.reading.read_line.Goals.{In-Some}

minus : (c : In-Some) → c.args.text.now ≡ 45 ∷ c.in-Some.digits.now
minus c = strip_prefix_is Decides-eqb c.args.text.now (45 ∷ []) (Some c.in-Some.digits) c.in-Some.ensures.cases

pub returns-in_err-number-in-Some : goal.returns-in_err-number-in-Some
returns-in_err-number-in-Some c =
    rw c.from_residual.ensures
    (no_line_minus c.args.i _ _ (minus (goal.at.returns-in_err-number-in-Some c).In-Some) (λ n rest b. c.in_err-number-in-Some.ensures _ rest b))

pub returns-then-number-eq0 : goal.returns-then-number-eq0
returns-then-number-eq0 c =
    no_line_minus c.args.i _ _ (minus (goal.at.returns-then-number-eq0 c).In-Some)
    (λ n rest b. omega (arith, (one_ended _ _ _ _ _ c.in_ok-number-in-Some.ensures b).0, c.if-number-eq0.true))
