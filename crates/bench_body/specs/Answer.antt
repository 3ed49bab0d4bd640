-- What is answered for a body of May 2025, which has 1,488 slots.
use Rattle.std.specs.Prelude.{◌≡◌, ℕ, List, Ok, Err, Result}
use Rattle.calendar.specs.Calendar.{slots_in}
use Rattle.year_file.specs.declared.body.BodyRefusal.{BodyRefusal}
use Rattle.records.specs.declared.slot.Slot.{Slot}
use Rattle.year_file.specs.Bodies.{Verdict}
use Rattle.year_file.specs.Refusals.{body_refusal}

abbrev pub number_of : Result (List Slot) BodyRefusal → ℕ
number_of (Ok slots) = 0
number_of (Err e) = (body_refusal e).number

pub record Answered (text : List ℕ) (r : ℕ) : Type 0 where
  pub said : Result (List Slot) BodyRefusal
  pub verdict : Verdict (slots_in 2025 2) 1488 text said
  pub answer : r ≡ number_of said
