use Rattle.std.proofs.Common.{min, sym, subst, ⊎_elim, arith}
use Rattle.std.proofs.lemmas.List.{nil_from_length}
use Rattle.text.specs.Number.{NoDigit}
use Rattle.text.proofs.Runs.{sofar_more, long, small, found, none_empty, none_zero, none_long}
use Rattle.text.proofs.reading.read_number.Goals as goal
use Rattle.text.proofs.reading.read_number.Goals.{Joined-split_first, in-Some+then-not-is_ascii_digit, in_default}

-- no digit stands where the loop stops
stops : (c : Joined-split_first) → NoDigit c.loop-digit.rest.now
stops c = elim c.match-split_first.branch [
  | in-Some+then-not-is_ascii_digit w ↦
      subst NoDigit (sym w.in-Some.ensures.cases.0) (λ d. ⊎_elim (λ low. omega arith) (λ high. omega arith) w.if-not-is_ascii_digit.ensures.cases)
  | in_default w ↦ subst NoDigit (sym (nil_from_length _ w.in_default.ensures.cases)) tt
]

pub returns-then-text-rest : goal.returns-then-text-rest
returns-then-text-rest c =
    let s = c.loop-digit.invariant.0 in
    none_long (sofar_more s _ _ c.in-Some.ensures.cases.0 c.if-not-is_ascii_digit.ensures.cases) (min c.args.most 19) (omega arith) (omega (arith, c.in-Some.ensures.cases.1, long s))

-- before one more digit there are at most eighteen
pub overflow_mul-n : goal.overflow_mul-n
overflow_mul-n c = omega (arith, small c.loop-digit.invariant.0 18 (omega (arith, c.loop-digit.invariant.1)))

pub overflow_add-n : goal.overflow_add-n
overflow_add-n c = omega (arith, small c.loop-digit.invariant.0 18 (omega (arith, c.loop-digit.invariant.1)))

pub loop-digit-preserved : goal.loop-digit-preserved
loop-digit-preserved c =
    (sofar_more c.loop-digit.invariant.0 _ _ c.in-Some.ensures.cases.0 c.if-not-is_ascii_digit.ensures.cases, omega (arith, c.in-Some.ensures.cases.1))

pub returns-then-digits-eq0 : goal.returns-then-digits-eq0
returns-then-digits-eq0 c =
    none_empty c.loop-digit.invariant.0 (min c.args.most 19) (omega arith) (stops (goal.at.returns-then-digits-eq0 c).Joined-split_first) (omega arith)

pub returns-then-digits-gt1 : goal.returns-then-digits-gt1
returns-then-digits-gt1 c =
    none_zero c.loop-digit.invariant.0 (min c.args.most 19) (omega arith) (stops (goal.at.returns-then-digits-gt1 c).Joined-split_first) c.if-first-eq48.true (omega arith)

pub returns : goal.returns
returns c =
    found c.loop-digit.invariant.0 (min c.args.most 19) (omega arith) (stops (goal.at.returns c).Joined-split_first) (omega arith) (omega arith)
    (λ zero. ⊎_elim (λ one. omega (arith, one.1)) (λ other. absurd (other zero)) c.else-first-eq48.either)
