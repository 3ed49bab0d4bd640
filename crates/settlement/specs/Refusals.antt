-- The number, the place and the month of a run's refusal.
use Rattle.std.specs.Prelude.{ℕ, List, ◌++◌, codes, decimal}
use Rattle.refusal.specs.declared.Refusal.{Refusal}
use Rattle.book.specs.Refusals.{close_refusal}
use Rattle.year_file.specs.Refusals.{body_refusal, contents_refusal}
use Rattle.terms.specs.Refusals.{price_refusal}
use Rattle.terms_file.specs.Refusals.{terms_refusal}
use Rattle.settlement.specs.declared.refused.RunRefusal.{RunRefusal}
use Rattle.settlement.specs.declared.refused.RunRefusal.TheVariants.{Terms, Price, Contents, Body, BytesAfter, Close}

-- that of the call that was refused; bytes after the last body are lines too many
abbrev pub run_refusal : RunRefusal → Refusal
run_refusal (Terms e) = terms_refusal e
run_refusal (Price e) = price_refusal e
run_refusal (Contents e) = contents_refusal e
run_refusal (Body month e) = body_refusal e
run_refusal BytesAfter = record { number = 11; place = 0 }
run_refusal (Close month e) = close_refusal e

-- 0 before the first month
abbrev pub run_month : RunRefusal → ℕ
run_month (Terms e) = 0
run_month (Price e) = 0
run_month (Contents e) = 0
run_month (Body month e) = month
run_month BytesAfter = 12
run_month (Close month e) = month

-- a refusal as a program prints it: its number and its month
abbrev pub run_text : RunRefusal → List ℕ
run_text e = codes "refused " ++ decimal (run_refusal e).number ++ codes " " ++ decimal (run_month e)
