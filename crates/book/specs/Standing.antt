-- What stands after a history: the settled months with the slots and rules that count for each.
use Rattle.std.specs.Prelude.{◌≡◌, ℕ, zero, suc, ◌+◌, List, [], ◌∷◌, length, Ok, Err}
use Rattle.records.specs.declared.slot.Slot.{Slot}
use Rattle.rules.specs.declared.assessment.PerRule.{PerRule}
use Rattle.rules.specs.Months.{RuleOf, numbers_of, units_of}
use Rattle.terms.specs.declared.figures.Contract.{Contract}
use Rattle.yen.specs.declared.Before.{Before}
use Rattle.yen.specs.declared.Settlement.{Settlement}
use Rattle.yen.specs.declared.Settlement.TheVariants.{Payment, Claim, Neither}
use Rattle.yen.specs.Yen.{amount_of, yen_of}
use Rattle.book.specs.declared.line.Line.{Line}
use Rattle.book.specs.Lines.{line_at, line_of}
use Rattle.book.specs.History.{Call, closing, settling, objecting, reading_line, reading_totals, reading_statement, reading_totals_statement, printing_line}

-- a call that was accepted and counts
pub data Event : Type 0 where
  closed : List Slot → PerRule RuleOf → Event
  settled : Settlement → Event
  objected : Event

-- the accepted closes, settlements and objections, the last one first
abbrev pub events : List Call → List Event
events [] = []
events (closing slots rules (Ok n) ∷ h) = closed slots rules ∷ events h
events (closing slots rules (Err e) ∷ h) = events h
events (settling n (Ok s) ∷ h) = settled s ∷ events h
events (settling n (Err e) ∷ h) = events h
events (objecting n (Ok u) ∷ h) = objected ∷ events h
events (objecting n (Err e) ∷ h) = events h
events (reading_line month r ∷ h) = events h
events (reading_totals t ∷ h) = events h
events (reading_statement month r ∷ h) = events h
events (reading_totals_statement s ∷ h) = events h
events (printing_line month old r new ∷ h) = events h

-- before the first close
abbrev pub no_rule : RuleOf
no_rule = record { number = 0; units = λ _. 0 }

-- the slots of the last close
abbrev pub last_slots : List Event → List Slot
last_slots [] = []
last_slots (closed slots rules ∷ es) = slots
last_slots (settled s ∷ es) = last_slots es
last_slots (objected ∷ es) = last_slots es

-- the rules of the last close
abbrev pub last_rules : List Event → PerRule RuleOf
last_rules [] = record { outage = no_rule; market = no_rule; dispatch = no_rule }
last_rules (closed slots rules ∷ es) = rules
last_rules (settled s ∷ es) = last_rules es
last_rules (objected ∷ es) = last_rules es

-- the objections since the last settlement, or since the opening
abbrev pub objections : List Event → ℕ
objections [] = 0
objections (closed slots rules ∷ es) = objections es
objections (settled s ∷ es) = 0
objections (objected ∷ es) = 1 + objections es

-- a month with its standing slots and rules, and the issue of its notice
pub record Month : Type 0 where
  pub slots : List Slot
  pub rules : PerRule RuleOf
  pub issue : ℕ

-- the month that a settlement now would settle
abbrev pub pending : List Event → Month
pending es = record { slots = last_slots es; rules = last_rules es; issue = 1 + objections es }

-- the settled months, the last one first: the n-th settlement settles month n
abbrev pub standing : List Event → List Month
standing [] = []
standing (closed slots rules ∷ es) = standing es
standing (settled s ∷ es) = pending es ∷ standing es
standing (objected ∷ es) = standing es

-- what payments the settlements answered, and what claims
abbrev pub paid : List Event → ℕ
paid [] = 0
paid (closed slots rules ∷ es) = paid es
paid (settled (Payment yen) ∷ es) = paid es + yen
paid (settled (Claim yen) ∷ es) = paid es
paid (settled Neither ∷ es) = paid es
paid (objected ∷ es) = paid es

abbrev pub claimed : List Event → ℕ
claimed [] = 0
claimed (closed slots rules ∷ es) = claimed es
claimed (settled (Payment yen) ∷ es) = claimed es
claimed (settled (Claim yen) ∷ es) = claimed es + yen
claimed (settled Neither ∷ es) = claimed es
claimed (objected ∷ es) = claimed es

abbrev pub month_units_of : Month → PerRule ℕ
month_units_of m = units_of m.rules m.slots

-- what months that stand add to the one after them, the last one first
abbrev pub carried : Contract → List Month → Before
carried c [] = record { outage_units = 0; charged = 0 }
carried c (m ∷ ms) = record {
  outage_units = (carried c ms).outage_units + (month_units_of m).outage;
  charged = (carried c ms).charged + (yen_of c (length ms + 1) (carried c ms) (month_units_of m)).charged;
}

-- the line of a month after the months before it
abbrev pub standing_line : Contract → Month → List Month → Line
standing_line c m ms = line_of c (length ms) m.issue (carried c ms) (numbers_of m.rules) (month_units_of m)

-- the lines of the settled months are those of the months that stand
abbrev pub Stands : Contract → List Month → List Line → Type 0
Stands c [] lines = Unit {0}
Stands c (m ∷ ms) lines = Stands c ms lines × (line_at lines (length ms) ≡ standing_line c m ms)

-- the amounts of the first n months together
abbrev pub amounts_in : Contract → ℕ → ℕ
amounts_in c zero = 0
amounts_in c (suc n) = amounts_in c n + amount_of c (n + 1)
