use Rattle.year_file.proofs.Lines.{plan_first, offer_first, meter_first, word_first}
use Rattle.year_file.proofs.body.read_line.Goals as goal

pub returns-in_err-plan : goal.returns-in_err-plan
returns-in_err-plan c = rw c.from_residual-in_err-plan.ensures (λ s rest f. c.in_err-plan.ensures _ _ (plan_first f c.in_ok-supply.ensures))

pub returns-in_err-offer : goal.returns-in_err-offer
returns-in_err-offer c =
    rw c.from_residual-in_err-offer.ensures
    (λ s rest f. c.in_err-offer.ensures _ _ (offer_first f c.in_ok-supply.ensures c.in_ok-plan.ensures))

pub returns-in_err-meter : goal.returns-in_err-meter
returns-in_err-meter c =
    rw c.from_residual-in_err-meter.ensures
    (λ s rest f. c.in_err-meter.ensures _ _ (meter_first f c.in_ok-supply.ensures c.in_ok-plan.ensures c.in_ok-offer.ensures))

pub returns-in_err-letters : goal.returns-in_err-letters
returns-in_err-letters c =
    rw c.from_residual-in_err-letters.ensures
    (λ s rest f.
    c.in_err-letters.ensures _ _ (word_first f c.in_ok-supply.ensures c.in_ok-plan.ensures c.in_ok-offer.ensures c.in_ok-meter.ensures))
