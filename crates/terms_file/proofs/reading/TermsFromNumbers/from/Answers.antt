use Rattle.std.proofs.Common.{pos, get_or, refl, arith}
use Rattle.std.proofs.lemmas.List.FromFn.{fill_by_all}
use Rattle.terms.specs.Ranges.{numbers}
use Rattle.terms_file.proofs.reading.TermsFromNumbers.from.Goals as goal

-- the list is its 22 numbers, written out
pub returns : goal.returns
unfolding numbers
returns c =
    let ns = c.args.numbers.values in
    let all = fill_by_all (λ k. get_or ns k (pos 0)) ns 22 (pos 0) (omega arith) (λ k h. refl) in
    cc
