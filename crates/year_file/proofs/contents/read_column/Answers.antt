use Rattle.std.proofs.Common.{◌^◌, ◌<◌, ◌∷◌, [], Some, None, sym, ap, ◌∙◌, take, subst, ⊎_elim, arith}
use Rattle.std.specs.Str.Parse.{AllDigits, digits_value}
use Rattle.std.proofs.lemmas.Bool.Decides.{Decides-eqb}
use Rattle.std.proofs.lemmas.Int.Digits.{digits_more, digits_value_more}
use Rattle.std.proofs.lemmas.List.{length-take-le, take_all}
use Rattle.std.proofs.lemmas.Slice.Eq.{strip_prefix_is}
use Rattle.std.proofs.lemmas.Str.{digit_value_digit}
use Rattle.std.proofs.lemmas.Str.Parse.{digit_at, digits_value_short}
use Rattle.text.proofs.Runs.{own}
use Rattle.year_file.proofs.Columns.{split, column_of}
use Rattle.year_file.proofs.contents.read_column.Goals as goal
use Rattle.year_file.proofs.contents.read_column.Goals.{Else-not-is_ascii_digit}

pub returns-in_err-rest : goal.returns-in_err-rest
returns-in_err-rest c =
    rw c.from_residual-in_err-rest.ensures
    (λ m us f.
    strip_prefix_is Decides-eqb c.in_ok-digits.rest.now (c.args.end ∷ []) None c.in_err-rest.ensures.cases us
    (c.in_ok-digits.ensures.cases.2 ∙ (split c.args.width c.args.end c.requires.0 c.requires.1 f).after))

pub returns-then-not-is_ascii_digit : goal.returns-then-not-is_ascii_digit
returns-then-not-is_ascii_digit c m us f =
    let all = (split c.args.width c.args.end c.requires.0 c.requires.1 f).all in
    let d = digit_at c.in_ok-digits.digits.now c.loop-b.b-index (subst (AllDigits 10) (sym c.in_ok-digits.ensures.cases.1) all) c.loop-b-test.true in
    ⊎_elim (λ low. omega (arith, d)) (λ high. omega (arith, d)) c.if-not-is_ascii_digit.ensures.cases

-- before one more digit there are at most seven
small : (c : Else-not-is_ascii_digit) → c.loop-b.n < 10 ^ 7
small c =
    let i = c.loop-b.b-index in
    let digits = c.in_ok-digits.digits.now in
    rw (sym c.loop-b.invariant.1)
    (digits_value_short own (take i digits) 7 c.loop-b.invariant.0 (omega (arith, length-take-le i digits (omega arith), c.in_ok-digits.ensures.cases.3)))

pub overflow_mul-n : goal.overflow_mul-n
overflow_mul-n c = omega (arith, small (goal.at.overflow_mul-n c).Else-not-is_ascii_digit)

pub overflow_add-n : goal.overflow_add-n
overflow_add-n c = omega (arith, small (goal.at.overflow_add-n c).Else-not-is_ascii_digit)

pub loop-b-preserved : goal.loop-b-preserved
loop-b-preserved c =
    let worth = digit_value_digit _ c.if-not-is_ascii_digit.ensures.cases in (
      digits_more 10 _ _ c.loop-b-test.true c.loop-b.invariant.0 c.if-not-is_ascii_digit.ensures.bound,
      digits_value_more 10 _ _ c.loop-b-test.true ∙ omega (arith, c.loop-b.invariant.1, worth),
    )

pub returns : goal.returns
returns c =
    let digits = c.in_ok-digits.digits.now in
    let rest = c.in_ok-digits.rest.now in
    let whole = take_all c.loop-b.b-index digits c.loop-b-test.false in
    column_of c.args.width c.args.end c.requires.0 c.requires.1 c.args.text.now digits rest c.in_ok-digits.ensures.cases
    (subst (AllDigits 10) whole c.loop-b.invariant.0) (sym (ap (digits_value 10) whole) ∙ c.loop-b.invariant.1)
    (strip_prefix_is Decides-eqb rest (c.args.end ∷ []) (Some c.in_ok-rest.rest) c.in_ok-rest.ensures.cases)
