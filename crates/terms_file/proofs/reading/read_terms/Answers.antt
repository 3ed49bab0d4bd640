use Rattle.std.proofs.Common.{◌≡◌, ◌+◌, sym, arith}
use Rattle.std.proofs.lemmas.Bool.{eqb-true, eqb-false}
use Rattle.std.proofs.lemmas.List.{nil_from_length}
use Rattle.std.proofs.lemmas.Result.{err_from_is_err_and}
use Rattle.terms_file.specs.declared.refusals.TermsRefusal.TheVariants.{Form}
use Rattle.terms_file.proofs.Lines.{held_line}
use Rattle.terms_file.proofs.Verdicts.{bad_form, out_of_range, read_more, too_long, ranges_read, all_read, text_read, reads_back, one_verdict}
use Rattle.terms_file.proofs.reading.read_terms.Goals as goal

pub returns-in_err-values : goal.returns-in_err-values
returns-in_err-values c =
    let p = err_from_is_err_and c.from_residual.result c.from_residual.ensures.1 in
    let none = rw c.in_err-values.ensures.ok_part at c.read_line.ensures in
    let form : c.in_err-values.field-0.0 ≡ Form (c.loop-i.i + 1) = cc (rw c.in_err-values.ensures.ok_part at c.in_err-values.ensures.value) in
    rw (p.1, p.2, form)
    (record { verdict = bad_form c.loop-i.invariant (omega arith) none; accepted = tt; one_verdict = one_verdict; reads_back = reads_back })

pub returns-then-not-in_range : goal.returns-then-not-in_range
returns-then-not-in_range c =
    let line = held_line c.loop-i.i c.in_ok-values.field-0-0 _ _ (rw c.in_ok-values.ensures.ok_part at c.read_line.ensures) in
    record { verdict = out_of_range c.loop-i.invariant line (omega arith) c.if-not-in_range.ensures; accepted = tt; one_verdict = one_verdict; reads_back = reads_back }

pub loop-i-preserved : goal.loop-i-preserved
loop-i-preserved c =
    let line = held_line c.loop-i.i c.in_ok-values.field-0-0 _ _ (rw c.in_ok-values.ensures.ok_part at c.read_line.ensures) in
    read_more c.loop-i.invariant line (omega arith) c.if-not-in_range.ensures

pub returns-then-not-is_empty : goal.returns-then-not-is_empty
returns-then-not-is_empty c =
    record { verdict = too_long c.loop-i.invariant (omega arith) (eqb-false _ _ (sym c.if-not-is_empty.ensures)); accepted = tt; one_verdict = one_verdict; reads_back = reads_back }

pub invariant_of-into : goal.invariant_of-into
invariant_of-into c = record { ranges = ranges_read c.loop-i.invariant (omega arith) }

pub returns : goal.returns
returns c =
    let none = nil_from_length _ (eqb-true _ _ (sym c.if-not-is_empty.ensures)) in
    record {
      verdict = rw c.into.ensures (all_read c.loop-i.invariant (omega arith) none);
      accepted = text_read c.loop-i.invariant (omega arith) none c.into.result c.into.ensures;
      one_verdict = one_verdict;
      reads_back = reads_back;
    }
