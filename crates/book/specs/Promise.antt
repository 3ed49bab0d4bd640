-- The promise of a book: what holds of any two books on the same terms, after any calls.
use Rattle.std.specs.Prelude.{◌≡◌, ℕ, ◌+◌, ◌<◌, ◌≤◌, List, [], reverse, length, take, ◌≤ℤ◌, slice_index_or}
use Rattle.std.specs.List.{AllZip}
use Rattle.records.specs.declared.slot.Slot.{Slot}
use Rattle.records.specs.Slots.{Within, NoWorse}
use Rattle.rules.specs.Months.{RuleOf}
use Rattle.terms.specs.declared.contract.PricedTerms.{PricedTerms}
use Rattle.yen.specs.Yen.{month_cap, year_cap}
use Rattle.book.specs.declared.table.Table.{Table}
use Rattle.book.specs.Lines.{line_at, charged_in, net_in}
use Rattle.book.specs.Calls.{shown}
use Rattle.book.specs.History.{Call, Led}
use Rattle.book.specs.Standing.{events, no_rule, Month, standing, Stands, paid, claimed}

-- two rules have the same meaning: they give each slot within its limits the same units
abbrev pub SameMeaning : RuleOf → RuleOf → Type 0
SameMeaning x y = (s : Slot) → Within s → x.units s ≡ y.units s

-- the month y is better kept than the month x
pub record BetterKept (x y : Month) : Type 0 where
  pub same_outage_rule : SameMeaning x.rules.outage y.rules.outage
  pub same_market_rule : SameMeaning x.rules.market y.rules.market
  pub same_dispatch_rule : SameMeaning x.rules.dispatch y.rules.dispatch
  pub no_slot_worse : AllZip NoWorse y.slots x.slots

abbrev pub no_month : Month
no_month = record { slots = []; rules = record { outage = no_rule; market = no_rule; dispatch = no_rule }; issue = 0 }

-- the month after the first n ones of those that stand
unfoldable pub month_at : List Month → ℕ → Month
month_at ms n = slice_index_or (reverse ms) n no_month

-- the first n months are settled in both books, and better kept in the second
pub record BetterKeptUpTo (n : ℕ) (xs ys : List Month) : Type 0 where
  pub in_first : n ≤ length xs
  pub in_second : n ≤ length ys
  pub better : (i : ℕ) → i < n → BetterKept (month_at xs i) (month_at ys i)

-- what holds of one book
pub record OneBook (terms : PricedTerms) (h : List Call) (a : Table) : Type 0 where
  -- every settled month's line is the one that its standing slots, rules and issue give it after the months before
  pub settled_months : a.settled ≡ length (standing (events h))
  pub lines_stand : Stands terms.contract (standing (events h)) a.lines
  -- months under notice included
  pub never_above_year_cap : charged_in (take (shown a) a.lines) ≤ year_cap terms.contract
  pub never_above_month_cap : (n : ℕ) → n < shown a → (line_at a.lines n).charged ≤ month_cap terms.contract
  -- payments less claims, with the penalties charged, make up the year's amount
  pub year_squares : a.settled ≡ 12 → paid (events h) + charged_in a.lines ≡ terms.contract.amount + claimed (events h)

-- what holds of two
pub record TwoBooks (terms : PricedTerms) (h k : List Call) (a b : Table) : Type 0 where
  pub first : OneBook terms h a
  pub second : OneBook terms k b
  pub better_kept_charged_no_more : (n : ℕ) → BetterKeptUpTo n (standing (events h)) (standing (events k)) → charged_in (take n b.lines) ≤ charged_in (take n a.lines)
  pub better_kept_net_no_less : (n : ℕ) → BetterKeptUpTo n (standing (events h)) (standing (events k)) → net_in (take n a.lines) ≤ℤ net_in (take n b.lines)

-- after any two lists of calls
abbrev pub NoBetterKeptYearCostsMore : Table → Table → Type 0
NoBetterKeptYearCostsMore a b = (terms : PricedTerms) (h k : List Call) → Led terms h a → Led terms k b → TwoBooks terms h k a b
