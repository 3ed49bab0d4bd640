-- What a look-up in the table answers.
use Rattle.std.proofs.Common.{◌≡◌, ℕ, ◌<◌, Some, None, Option, Bor, sym, ap, ◌∙◌, arith}
use Rattle.std.proofs.lemmas.Bool.{cond-false, le-ltb}
use Rattle.std.specs.Option.{option_copied}
use Rattle.std.specs.Slice.{IsItemAt}
use Rattle.calendar.specs.Calendar.{first_day_of}
use Rattle.calendar.proofs.Entries.{at, entries, length_entries}
use Rattle.calendar.proofs.Months.{in_table}

pub looked_up : (k : ℕ) (r : Option (Bor ℕ)) → IsItemAt (entries 601 0 0) k r → option_copied r ≡ first_day_of k
looked_up k (Some x) h =
    let low : k < 601 = omega (arith, h.3.0, length_entries 601 0 0) in
    ap Some (h.4 (omega arith) 0 ∙ at 601 k low) ∙ sym (in_table k low)
looked_up k None h = sym (cond-false _ _ _ (le-ltb k 601 (omega (arith, h.3, length_entries 601 0 0))))
