use Rattle.std.proofs.Common.{sym, ◌∙◌, arith}
use Rattle.terms.proofs.Totals.{IsTotal, is_total, cut_once}
use Rattle.terms.proofs.Facts.{named, sized, assessed, price_in_range}
use Rattle.terms.proofs.Smallness.{cut_le}
use Rattle.terms.proofs.pricing.price.Goals as goal
use Rattle.terms.proofs.pricing.price.Goals.{In_ok-total}

total : (c : In_ok-total) → IsTotal c.args.terms.now c.in_ok-total.total
total c = is_total _ _ (price_in_range _ (sym c.in_default.ensures.value)) (sym c.in_ok-total.ensures.ok_part ∙ c.total.ensures)

pub invariant_of-known : goal.invariant_of-known
invariant_of-known c = record { ranges = price_in_range _ (sym c.in_default.ensures.value) }

pub nonzero_div-price : goal.nonzero_div-price
nonzero_div-price c = omega (arith, (total (goal.at.nonzero_div-price c).In_ok-total).small.some)

pub overflow_cast-price : goal.overflow_cast-price
overflow_cast-price c = omega (arith, cut_le _ (total (goal.at.overflow_cast-price c).In_ok-total).small)

pub overflow_cast-result : goal.overflow_cast-result
overflow_cast-result c = omega (arith, named _ (sym c.in_default.ensures.value))

pub overflow_cast-result-2 : goal.overflow_cast-result-2
overflow_cast-result-2 c = omega (arith, assessed _ (sym c.in_default.ensures.value))

pub invariant_of-result-clause-named : goal.invariant_of-result-clause-named
invariant_of-result-clause-named c = named _ (sym c.in_default.ensures.value)

pub invariant_of-result-clause-sized : goal.invariant_of-result-clause-sized
invariant_of-result-clause-sized c = sized _ (sym c.in_default.ensures.value)

pub invariant_of-result-clause-assessed : goal.invariant_of-result-clause-assessed
invariant_of-result-clause-assessed c = assessed _ (sym c.in_default.ensures.value)

pub returns-clause-cut : goal.returns-clause-cut
returns-clause-cut c = cut_once _ _ (total (goal.at.returns-clause-cut c).In_ok-total)
