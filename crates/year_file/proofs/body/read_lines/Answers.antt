use Rattle.std.proofs.Common.{refl, arith}
use Rattle.std.proofs.lemmas.Bool.{false≢true}
use Rattle.std.proofs.lemmas.Bool.Decides.{nat_tests}
use Rattle.text.proofs.Records.{sofar_none, sofar_more}
use Rattle.year_file.specs.Bodies.{body}
use Rattle.year_file.proofs.Bodies.{bad_form, over_limit, too_few, too_many, all_read}
use Rattle.year_file.proofs.body.read_lines.Goals as goal

pub loop-i-init : goal.loop-i-init
loop-i-init c = sofar_none body _ _

pub returns-then-is_empty : goal.returns-then-is_empty
returns-then-is_empty c = too_few c.loop-i.invariant _ c.loop-i.auto.slots c.loop-i-test.true (grind (arith, nat_tests))

pub returns-in_default : goal.returns-in_default
returns-in_default c = bad_form c.loop-i.invariant _ c.loop-i.auto.slots c.loop-i-test.true (grind (arith, nat_tests)) c.in_default.ensures

pub returns-then-not-is_within : goal.returns-then-not-is_within
returns-then-not-is_within c =
    over_limit c.loop-i.invariant _ c.loop-i.auto.slots c.loop-i-test.true c.in-Some.ensures (λ w. false≢true (c.if-not-is_within.ensures.1 w))

pub loop-i-preserved : goal.loop-i-preserved
loop-i-preserved c =
    sofar_more body c.loop-i.invariant (omega (arith, c.loop-i.auto.slots, c.loop-i-test.true)) c.in-Some.ensures
    (c.if-not-is_within.ensures.0 refl)

pub returns-then-is_empty-2 : goal.returns-then-is_empty-2
returns-then-is_empty-2 c = all_read c.loop-i.invariant _ c.loop-i.auto.slots c.loop-i-test.false (grind (arith, nat_tests))

pub returns-else-is_empty-2 : goal.returns-else-is_empty-2
returns-else-is_empty-2 c = too_many c.loop-i.invariant _ c.loop-i.auto.slots c.loop-i-test.false (grind (arith, nat_tests))
