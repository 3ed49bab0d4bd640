-- The body of a month.
use Rattle.std.specs.Prelude.{◌≡◌, ℕ, ◌+◌, ◌≤◌, List, [], ◌∷◌, length, Some, None, Ok, Err, Option, Result, ◌≢◌}
use Rattle.std.specs.List.{AllByRecursion}
use Rattle.text.specs.Files.{Format, texts, Stop, complete, out_of_form, out_of_limits, StopsAt}
use Rattle.records.specs.declared.slot.Slot.{Slot}
use Rattle.year_file.specs.declared.body.BodyRefusal.{BodyRefusal}
use Rattle.year_file.specs.declared.body.BodyRefusal.TheVariants.{WrongSlotCount, Form, Limit, LineCount}
use Rattle.records.specs.Slots.{Within}
use Rattle.year_file.specs.Lines.{InForm, slot_text}

-- a body is the lines of its slots, and each slot is within its limits
abbrev pub body : Format Slot
body = record { write = λ k s. slot_text s; Fit = λ k s. InForm s; Good = λ before s. Within s }

abbrev pub body_text : List Slot → List ℕ
body_text slots = texts body slots

-- Where the good lines end is the answer. An empty rest is no line, and nothing may come after the last one.
abbrev pub answer : Stop Slot → Result (List Slot) BodyRefusal
answer (complete slots []) = Ok slots
answer (complete slots (b ∷ rest)) = Err LineCount
answer (out_of_form slots []) = Err LineCount
answer (out_of_form slots (b ∷ rest)) = Err (Form (length slots + 1))
answer (out_of_limits slots rest) = Err (Limit (length slots + 1))

-- what is said of a text that should have n lines
pub record Judged (n : ℕ) (text : List ℕ) (said : Result (List Slot) BodyRefusal) : Type 0 where
  pub stop : Stop Slot
  pub stops : StopsAt body n text stop
  pub says : said ≡ answer stop

-- The same where the month has so many slots, if it is one, and there is room for some. The room comes first.
abbrev pub Verdict : Option ℕ → ℕ → List ℕ → Result (List Slot) BodyRefusal → Type 0
Verdict None room text said = said ≡ Err WrongSlotCount
Verdict (Some n) room text said = (room ≡ n → Judged n text said) × ((room ≢ n) → said ≡ Err WrongSlotCount)

-- the slots where the reading succeeded
abbrev pub outcome : Result (Unit {0}) BodyRefusal → List Slot → Result (List Slot) BodyRefusal
outcome (Ok u) slots = Ok slots
outcome (Err e) slots = Err e

-- a text has one verdict
abbrev pub OneVerdict : Type 0
OneVerdict = (count : Option ℕ) (room : ℕ) (text : List ℕ) (v w : Result (List Slot) BodyRefusal) → Verdict count room text v → Verdict count room text w → v ≡ w

-- what is written of slots within their limits is read as those slots
abbrev pub ReadsBack : Type 0
ReadsBack = (slots : List Slot) → AllByRecursion Within slots → Judged (length slots) (body_text slots) (Ok slots)

-- a line in form has at most 37 bytes
abbrev pub ShortLines : Type 0
ShortLines = (s : Slot) → InForm s → length (slot_text s) ≤ 37
