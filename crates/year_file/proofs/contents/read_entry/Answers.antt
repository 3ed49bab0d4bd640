use Rattle.std.proofs.Common.{⊎_elim, arith}
use Rattle.year_file.proofs.Entries.{start_first, length_first, month_and_length}
use Rattle.year_file.proofs.contents.read_entry.Goals as goal

pub returns-in_err-start : goal.returns-in_err-start
returns-in_err-start c = rw c.from_residual-in_err-start.ensures (λ s rest f. c.in_err-start.ensures _ _ (start_first c.requires f c.in_ok-month.ensures))

pub returns-in_err-length : goal.returns-in_err-length
returns-in_err-length c =
    rw c.from_residual-in_err-length.ensures
    (λ s rest f. c.in_err-length.ensures _ _ (length_first c.requires f c.in_ok-month.ensures c.in_ok-start.ensures))

pub returns-else-month-place : goal.returns-else-month-place
returns-else-month-place c s rest f =
    let p = month_and_length c.requires f c.in_ok-month.ensures c.in_ok-start.ensures c.in_ok-length.ensures in
    ⊎_elim (λ long. omega (arith, long.1, p.1)) (λ other. other p.0) c.else-month-place.either
