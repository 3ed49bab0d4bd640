-- The line of a slot.
use Rattle.std.specs.Prelude.{◌≡◌, ℕ, Bool, cond, List, [], ◌∷◌, ◌++◌, Some, None, Option, ◌≢◌}
use Rattle.text.specs.Number.{Short, ended}
use Rattle.records.specs.declared.slot.Slot.{Slot}
use Rattle.records.specs.declared.slot.Outage.{Outage}
use Rattle.records.specs.declared.slot.Outage.TheVariants.{NoOutage, PlannedStop, UnplannedStop, PlannedSuppression, UnplannedSuppression}
use Rattle.year_file.specs.declared.body.Letters.{Letters}

-- the letters -, P, U, p and u
abbrev pub outage_letter : Outage → ℕ
outage_letter NoOutage = 45
outage_letter PlannedStop = 80
outage_letter UnplannedStop = 85
outage_letter PlannedSuppression = 112
outage_letter UnplannedSuppression = 117

-- a letter where it holds, and a dash where it does not
abbrev pub flag_letter : ℕ → Bool → ℕ
flag_letter letter holds = cond holds letter 45

-- what the letters of its line say
abbrev pub letters_of : Slot → Letters
letters_of s = record { outage = s.outage; low_reserve = s.low_reserve; dispatched = s.dispatched; papers = s.papers }

-- the four letters, the last three L, D and E, and the line's end
abbrev pub word : Letters → List ℕ
word l = outage_letter l.outage ∷ flag_letter 76 l.low_reserve ∷ flag_letter 68 l.dispatched ∷ flag_letter 69 l.papers ∷ 10 ∷ []

abbrev pub WordFirst : Letters → List ℕ → List ℕ → Type 0
WordFirst l bs rest = bs ≡ word l ++ rest

-- a number and a blank
abbrev pub field : ℕ → List ℕ
field n = ended 32 n

-- the line of a slot
abbrev pub slot_text : Slot → List ℕ
slot_text s = field s.supply ++ field s.plan ++ field s.offer ++ field s.meter ++ word (letters_of s)

-- each number has at most seven digits
pub record InForm (s : Slot) : Type 0 where
  pub supply : Short 7 s.supply
  pub plan : Short 7 s.plan
  pub offer : Short 7 s.offer
  pub meter : Short 7 s.meter

-- r is what the byte stands for, if it stands for anything
abbrev pub ReadsLetter : {X : Type 0} → (X → ℕ) → ℕ → Option X → Type 0
ReadsLetter letter b None = (x : _) → b ≢ letter x
ReadsLetter letter b (Some x) = b ≡ letter x
