use Rattle.std.proofs.Common.{◌≡◌, ℕ, List, length, take, Ok, Err, Result, arith, length-take}
use Rattle.std.proofs.lemmas.Result.{err_from_is_err_and}
use Rattle.settlement.specs.Runs.{Started}
use Rattle.settlement.specs.declared.refused.RunRefusal.{RunRefusal}
use Rattle.settlement.specs.declared.run.Run.{Run}
use Rattle.files.specs.Starts.{StartsFromFronts}
use Rattle.files.proofs.folder.start_run.Goals as goal

fronts : (terms year : List ℕ) (m n : ℕ) (r : Result Run RunRefusal) → length terms ≡ 1024 → length year ≡ 252 → Started (take m terms) (take n year) r → StartsFromFronts 1024 252 r
fronts terms year m n r p q h =
    record { terms = _; year = _; terms_front = omega (arith, length-take {A = ℕ}); year_front = omega (arith, length-take {A = ℕ}); started = h }

pub returns-in_err-start : goal.returns-in_err-start
returns-in_err-start c =
    let p = err_from_is_err_and c.from_residual-in_err-start.result c.from_residual-in_err-start.ensures.1 in
    rw (p.1, p.2) (fronts c.fill.new.buf c.fill-2.new.buf c.in_ok-terms_bytes.terms_bytes c.in_ok-contents_bytes.contents_bytes (Err c.in_err-start.field-0.0) c.fill.auto.buf c.fill-2.auto.buf c.in_err-start.ensures.started)

pub returns : goal.returns
returns c =
    fronts c.fill.new.buf c.fill-2.new.buf c.in_ok-terms_bytes.terms_bytes c.in_ok-contents_bytes.contents_bytes (Ok c.in_ok-start.field-0)
    c.fill.auto.buf c.fill-2.auto.buf c.in_ok-start.ensures.started
