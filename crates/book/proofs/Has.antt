-- What a table that has a history keeps, and how its history goes on.
use Rattle.std.proofs.Common.{◌≡◌, ℕ, ◌+◌, ◌-◌, ◌<◌, ◌≤◌, true, List, [], ◌∷◌, length, take, All, sym, subst, arith, take-suc}
use mathlib.Core.Logic.{∥∥₁_elim, ∥∥₁_map}
use native.Mathlib.Bridge.{le_prop}
use Rattle.std.proofs.Props.{props}
use Rattle.std.proofs.lemmas.List.Elements.{All-nil, All-head, All-tail, All-get_or, All-push, All-take}
use Rattle.std.proofs.lemmas.List.{get_or-take, length-take-le, take-take}
use Rattle.std.proofs.lemmas.Int.{ints}
use Rattle.terms.specs.declared.contract.PricedTerms.{PricedTerms}
use Rattle.terms.specs.declared.figures.Contract.{Contract}
use Rattle.terms.specs.Sound.{Sound}
use Rattle.terms.proofs.Priced as priced
use Rattle.rules.proofs.Slots.{units_limit}
use Rattle.yen.proofs.Limits.{amount_limit, amount_within, outage_limit, shortfall_limit, charge_limit}
use Rattle.book.specs.declared.line.Line.{Line}
use Rattle.book.specs.declared.table.Table.{Table}
use Rattle.book.specs.Lines.{empty, line_at}
use Rattle.book.specs.Limits.{Modest}
use Rattle.book.specs.Calls.{Opened, shown}
use Rattle.book.specs.History.{Call, Step, opened, called, HasHistory}
use Rattle.book.specs.Standing.{Month, month_units_of, carried, standing_line, Stands}
use Rattle.book.proofs.Kept.{SoundMonth, kept, shown_months}

pub begun : {t : PricedTerms} {a : Table} → Opened t a → HasHistory a
begun {t} o = ∣ (t, [], opened o) ∣₁

pub goes_on : {a b : Table} (c : Call) → HasHistory a → Step a c b → HasHistory b
goes_on c h s = ∥∥₁_map h (λ l. (l.0, c ∷ l.1, called l.2 s))

-- the line of a sound month is modest
modest_month : (c : Contract) → Sound c → (m : Month) (ms : List Month) → length ms < 12 → SoundMonth m → Modest (standing_line c m ms)
modest_month c s m ms early sound =
    let units = month_units_of m in
    let outage = units_limit m.rules.outage sound.lawful.outage m.slots sound.few sound.within in
    let charged = charge_limit c s (carried c ms).charged (standing_line c m ms).penalties in
    let amount = amount_within c (length ms + 1) in
    record {
      month = omega arith;
      outage_units = outage;
      amount = omega (arith, amount, amount_limit c s);
      outage = outage_limit c s (carried c ms).outage_units units.outage outage;
      market = shortfall_limit c s units.market (units_limit m.rules.market sound.lawful.market m.slots sound.few sound.within);
      dispatch = shortfall_limit c s units.dispatch (units_limit m.rules.dispatch sound.lawful.dispatch m.slots sound.few sound.within);
      charged = charged;
      net_from = omega (arith, ints, charged);
      net_upto = omega (arith, ints, amount, amount_limit c s);
    }

modest_lines : (c : Contract) → Sound c → (ms : List Month) (ls : List Line) → length ms ≤ 12 → length ms ≤ length ls → All SoundMonth ms → Stands c ms ls → All Modest (take (length ms) ls)
modest_lines c s [] ls early le sound st = All-nil Modest
modest_lines c s (m ∷ ms) ls early le sound st =
    let here : Modest (line_at ls (length ms)) = subst Modest (sym st.1) (modest_month c s m ms early (All-head SoundMonth m ms sound)) in
    subst (All Modest) (sym (take-suc ls (length ms) empty le)) (All-push Modest (take (length ms) ls) (line_at ls (length ms)) (modest_lines c s ms ls (omega arith) (omega arith) (All-tail SoundMonth m ms sound) st.0) here)

-- a table that has a history has this fact, which has one proof at most
all_prop : (ls : List Line) → IsProp (All Modest ls)
all_prop ls = Prim.hlevel props

module _ {a : Table} (h : HasHistory a) where
  pub year : a.settled ≤ 12
  year = ∥∥₁_elim h le_prop (λ l. (kept l.2).year)

  pub lines_there : 12 ≤ length a.lines
  lines_there = ∥∥₁_elim h le_prop (λ l. omega (arith, (kept l.2).twelve))

  pub month_out : a.out ≡ true → a.settled < 12
  month_out o = ∥∥₁_elim h le_prop (λ l. ((kept l.2).waiting o).0)

  pub modest_shown : All Modest (take (shown a) a.lines)
  modest_shown = ∥∥₁_elim h (all_prop (take (shown a) a.lines)) (λ l.
      let k = kept l.2 in
      let s = shown_months k in
      subst (λ n. All Modest (take n a.lines)) s.counted (modest_lines l.0.contract (priced.sound l.0) s.months a.lines s.year (omega (arith, s.year, k.twelve)) s.sound s.stand))

  pub shown_year : shown a ≤ 12
  shown_year = ∥∥₁_elim h le_prop (λ l. let s = shown_months (kept l.2) in omega (arith, s.counted, s.year))

  pub modest_first : (n : ℕ) → n ≤ a.settled → All Modest (take n a.lines)
  modest_first n le =
      let some : n ≤ shown a = omega arith in
      subst (All Modest) (take-take n (shown a) a.lines some) (All-take Modest n (take (shown a) a.lines) modest_shown)

  -- of a month that is settled or under notice, counted from 1
  pub modest_at : (month : ℕ) → 1 ≤ month → month ≤ shown a → Modest (line_at a.lines (month - 1))
  modest_at month one le =
      subst Modest (get_or-take (shown a) a.lines (month - 1) empty (omega arith)) (All-get_or Modest (take (shown a) a.lines) (month - 1) empty (omega (arith, length-take-le (shown a) a.lines (omega (arith, shown_year, lines_there)))) modest_shown)
