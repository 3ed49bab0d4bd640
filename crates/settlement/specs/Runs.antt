-- What starts a run, and what settles a month of it.
use Rattle.std.specs.Prelude.{◌≡◌, ℕ, Bool, true, List, take, Some, None, Ok, Err, Option, Result}
use Rattle.book.specs.declared.table.Table.{Table}
use Rattle.book.specs.Calls.{Opened, Printable, open_month, text_at}
use Rattle.book.specs.History.{ClosedAndSettled}
use Rattle.calendar.specs.Calendar.{slots_in}
use Rattle.records.specs.declared.slot.Slot.{Slot}
use Rattle.year_file.specs.declared.body.BodyRefusal.{BodyRefusal}
use Rattle.year_file.specs.Bodies.{Verdict}
use Rattle.records.specs.Slots.{NoWorse}
use Rattle.std.specs.List.{AllZip}
use Rattle.year_file.specs.Contents.{ContentsVerdict}
use Rattle.rules.specs.declared.assessment.OpenMonth.{OpenMonth}
use Rattle.terms.specs.declared.contract.PricedTerms.{PricedTerms}
use Rattle.terms.specs.declared.terms.Terms.{Terms}
use Rattle.terms.specs.Price.{contract_of}
use Rattle.terms_file.specs.TermsFile as file
use Rattle.yen.specs.declared.Settlement.{Settlement}
use Rattle.settlement.specs.declared.refused.RunRefusal.{RunRefusal}
use Rattle.settlement.specs.declared.refused.RunRefusal.TheVariants as run
use Rattle.settlement.specs.declared.run.Run.{Run}

-- the text is that of terms, and these are their price
pub record Priced (text : List ℕ) (p : PricedTerms) : Type 0 where
  pub terms : Terms
  pub read : file.Verdict text (Ok terms)
  pub agreed : Ok p.contract ≡ contract_of terms

-- the first refusal of terms, price and contents in this order; otherwise a book is opened on the priced terms
abbrev pub Started : List ℕ → List ℕ → Result Run RunRefusal → Type 0
Started terms year (Ok r) = (p : PricedTerms) × (Priced terms p × Opened p r.book.table × ContentsVerdict year (Ok r.contents.spans))
Started terms year (Err (run.Terms e)) = file.Verdict terms (Err e)
Started terms year (Err (run.Price e)) = (t : Terms) × (file.Verdict terms (Ok t) × (Err e ≡ contract_of t))
Started terms year (Err (run.Contents e)) = (p : PricedTerms) × (Priced terms p × ContentsVerdict year (Err e))
Started terms year (Err (run.Body month e)) = ⊥
Started terms year (Err run.BytesAfter) = ⊥
Started terms year (Err (run.Close month e)) = ⊥

-- the first m bytes of the terms and the first n of the year decide how a run starts
abbrev pub FirstBytesDecide : ℕ → ℕ → Type 0
FirstBytesDecide m n = (terms year : List ℕ) (r : Result Run RunRefusal) → Started (take m terms) (take n year) r → Started terms year r

-- as many slots as the month has, if it is one
abbrev pub room_for : Option ℕ → ℕ
room_for (Some n) = n
room_for None = 0

-- what reading a body of a month says
abbrev pub BodySays : OpenMonth → List ℕ → Result (List Slot) BodyRefusal → Type 0
BodySays month text said =
    let count = slots_in month.year month.month in
    Verdict count (room_for count) text said

-- bytes stand after the body of the last month
abbrev pub Trails : Table → Bool → Type 0
Trails a after = ((open_month a).month ≡ 12) × (after ≡ true)

-- the slots of the body are closed and settled, if nothing stands after the last body
abbrev pub MonthSettled : Table → List ℕ → Bool → Result Settlement RunRefusal → Table → Type 0
MonthSettled a text after (Ok s) b = (slots : List Slot) × (BodySays (open_month a) text (Ok slots) × (Trails a after → ⊥) × ClosedAndSettled a slots (Ok s) b)
MonthSettled a text after (Err (run.Terms e)) b = ⊥
MonthSettled a text after (Err (run.Price e)) b = ⊥
MonthSettled a text after (Err (run.Contents e)) b = ⊥
MonthSettled a text after (Err (run.Body month e)) b = (month ≡ (open_month a).month) × BodySays (open_month a) text (Err e) × (b ≡ a)
MonthSettled a text after (Err run.BytesAfter) b = (slots : List Slot) × (BodySays (open_month a) text (Ok slots) × Trails a after × (b ≡ a))
MonthSettled a text after (Err (run.Close month e)) b = (slots : List Slot) × ((month ≡ (open_month a).month) × BodySays (open_month a) text (Ok slots) × (Trails a after → ⊥) × ClosedAndSettled a slots (Err e) b)

-- the month is settled, and this is its statement line
pub record SettledAndShown (a : Table) (text : List ℕ) (after : Bool) (line : List ℕ) (b : Table) : Type 0 where
  pub settlement : Settlement
  pub settled : MonthSettled a text after (Ok settlement) b
  pub printable : Printable b (open_month a).month
  pub shown : line ≡ text_at b (open_month a).month

-- both texts are bodies of the month, and each slot of the better one is no worse than the one in its place
pub record BetterBody (month : OpenMonth) (better worse : List ℕ) : Type 0 where
  pub better_slots : List Slot
  pub worse_slots : List Slot
  pub better_read : BodySays month better (Ok better_slots)
  pub worse_read : BodySays month worse (Ok worse_slots)
  pub no_slot_worse : AllZip NoWorse better_slots worse_slots
