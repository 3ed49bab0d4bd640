-- What holds of any two books.
use Rattle.std.proofs.Common.{◌≡◌, ℕ, zero, suc, ◌+◌, ◌<◌, ◌≤◌, ◌⊎◌, List, [], ◌∷◌, reverse, length, get_or, take, All, pos, ◌+ℤ◌, sym, refl, ap, ◌∙◌, subst, inl, inr, div-mul-le_self, add-one, arith}
use mathlib.Core.List.{reverse-cons}
use Rattle.std.proofs.Math.Nat.{eq-or-lt_of_le}
use lib.ListN.{length-reverse}
use Rattle.std.proofs.lemmas.List.{get_or_append_left, get_or_push, take_all}
use Rattle.std.proofs.lemmas.Int.{ints}
use Rattle.std.proofs.lemmas.List.Elements.{All-head, All-tail}
use Rattle.std.proofs.lemmas.List.Sums.{sum_by_more, fold_more}
use Rattle.rules.specs.Months.{numbers_of}
use Rattle.rules.proofs.Slots.{no_more}
use Rattle.terms.specs.declared.contract.PricedTerms.{PricedTerms}
use Rattle.terms.specs.declared.figures.Contract.{Contract}
use Rattle.terms.proofs.Priced as priced
use Rattle.yen.specs.declared.Before.{Before}
use Rattle.yen.specs.Yen.{month_cap, year_cap}
use Rattle.yen.proofs.Limits.{outage_less, shortfall_less}
use Rattle.book.specs.declared.line.Line.{Line}
use Rattle.book.specs.declared.table.Table.{Table}
use Rattle.book.specs.Lines.{empty, line_at, charged_in, net_in, outage_units_in, before_of, line_of}
use Rattle.book.specs.History.{Call}
use Rattle.book.specs.Standing.{events, Month, standing, month_units_of, carried, Stands, amounts_in}
use Rattle.book.specs.Promise.{no_month, month_at, BetterKeptUpTo, OneBook, TwoBooks, NoBetterKeptYearCostsMore}
use Rattle.book.proofs.Kept.{SoundMonth, Kept, kept, carried_is, within_lines, shown_months}

-- ---- months by their place

month_here : (m : Month) (ms : List Month) → month_at (m ∷ ms) (length ms) ≡ m
unfolding month_at
month_here m ms = ap (λ l. get_or l (length ms) no_month) (reverse-cons m ms) ∙ get_or_push (reverse ms) m no_month (length ms) (length-reverse ms)

month_before : (m : Month) (ms : List Month) (n : ℕ) → n < length ms → month_at (m ∷ ms) n ≡ month_at ms n
unfolding month_at
month_before m ms n h = ap (λ l. get_or l n no_month) (reverse-cons m ms) ∙ get_or_append_left (reverse ms) (m ∷ []) no_month n (subst (λ k. n < k) (sym (length-reverse ms)) h)

by_months : (P : ℕ → Month → Type 0) (m : Month) (ms : List Month) → P (length ms) m → ((n : ℕ) → n < length ms → P n (month_at ms n)) → (n : ℕ) → n < suc (length ms) → P n (month_at (m ∷ ms) n)
by_months P m ms here before n h = go (eq-or-lt_of_le (omega arith))
  where
    go : (n ≡ length ms) ⊎ (n < length ms) → P n (month_at (m ∷ ms) n)
    go (inl e) = subst (λ k. P k (month_at (m ∷ ms) k)) (sym e) (subst (P (length ms)) (sym (month_here m ms)) here)
    go (inr k) = subst (P n) (sym (month_before m ms n k)) (before n k)

sound_at : (ms : List Month) → All SoundMonth ms → (n : ℕ) → n < length ms → SoundMonth (month_at ms n)
sound_at [] s n h = absurd (omega arith)
sound_at (m ∷ ms) s n h = by_months (λ n x. SoundMonth x) m ms (All-head SoundMonth m ms s) (sound_at ms (All-tail SoundMonth m ms s)) n h

-- ---- lines by their place

module _ (ls : List Line) (n : ℕ) (here : n < length ls) where
  charged_more : charged_in (take (suc n) ls) ≡ charged_in (take n ls) + (line_at ls n).charged
  charged_more = rw (← add-one n) (sum_by_more (λ (l : Line). l.charged) ls n empty here)

  units_more : outage_units_in (take (suc n) ls) ≡ outage_units_in (take n ls) + (line_at ls n).units.outage
  units_more = rw (← add-one n) (sum_by_more (λ (l : Line). l.units.outage) ls n empty here)

  net_more : net_in (take (suc n) ls) ≡ net_in (take n ls) +ℤ (line_at ls n).net
  net_more = rw (← add-one n) (fold_more (λ z (l : Line). z +ℤ l.net) (pos 0) ls n empty here)

-- the line of the month after the first n ones, from the lines of those
abbrev LineAt : Contract → List Line → ℕ → Month → Type 0
LineAt c ls n m = line_at ls n ≡ line_of c n m.issue (before_of (take n ls)) (numbers_of m.rules) (month_units_of m)

module _ (c : Contract) where
  line_is : (ms : List Month) (ls : List Line) → length ms ≤ length ls → Stands c ms ls → (n : ℕ) → n < length ms → LineAt c ls n (month_at ms n)
  line_is [] ls le s n h = absurd (omega arith)
  line_is (m ∷ ms) ls le s n h =
      let here : LineAt c ls (length ms) m = s.1 ∙ ap (λ b. line_of c (length ms) m.issue b (numbers_of m.rules) (month_units_of m)) (sym (carried_is c ms ls (omega arith) s.0)) in
      by_months (LineAt c ls) m ms here (line_is ms ls (omega arith) s.0) n h

  carried_capped : (ms : List Month) → (carried c ms).charged ≤ year_cap c
  carried_capped [] = omega arith
  carried_capped (m ∷ ms) = omega (arith, carried_capped ms)

  module _ (ms : List Month) (ls : List Line) (le : length ms ≤ length ls) (s : Stands c ms ls) where
    year_capped : charged_in (take (length ms) ls) ≤ year_cap c
    year_capped = omega (arith, ap (λ (b : Before). b.charged) (carried_is c ms ls le s), carried_capped ms)

    month_capped : (n : ℕ) → n < length ms → (line_at ls n).charged ≤ month_cap c
    month_capped n h = omega (arith, ap (λ (l : Line). l.charged) (line_is ms ls le s n h))

    -- what was charged in the first months leaves room below the year's cap
    room : (n : ℕ) → n ≤ length ms → charged_in (take n ls) ≤ year_cap c
    room zero h = omega arith
    room (suc n) h = omega (arith, charged_more ls n (omega arith), room n (omega arith), ap (λ (l : Line). l.charged) (line_is ms ls le s n h))

    nets : (n : ℕ) → n ≤ length ms → net_in (take n ls) +ℤ pos (charged_in (take n ls)) ≡ pos (amounts_in c n)
    nets zero h = refl
    nets (suc n) h =
        let line = line_is ms ls le s n h in
        omega (arith, ints, nets n (omega arith), charged_more ls n (omega arith), net_more ls n (omega arith), ap (λ (l : Line). l.charged) line, ap (λ (l : Line). l.net) line)

whole_year : (c : Contract) → amounts_in c 12 ≡ c.amount
whole_year c = omega (arith, div-mul-le_self c.amount 12)

-- ---- one book

module _ (t : PricedTerms) (h : List Call) (a : Table) (k : Kept t (events h) a) where
  one_book : OneBook t h a
  one_book =
      let s = shown_months k in
      let inside : length s.months ≤ length a.lines = omega (arith, s.year, k.twelve) in
      record {
        settled_months = k.counted;
        lines_stand = k.stood;
        never_above_year_cap = subst (λ n. charged_in (take n a.lines) ≤ year_cap t.contract) s.counted (year_capped t.contract s.months a.lines inside s.stand);
        never_above_month_cap = λ n lt. month_capped t.contract s.months a.lines inside s.stand n (omega (arith, s.counted));
        year_squares = λ e.
            let twelve : length (standing (events h)) ≡ 12 = sym k.counted ∙ e in
            let all : charged_in a.lines ≡ (carried t.contract (standing (events h))).charged =
            ap charged_in (sym (take_all (length (standing (events h))) a.lines (omega (arith, k.twelve)))) ∙ ap (λ (b : Before). b.charged) (carried_is t.contract (standing (events h)) a.lines (within_lines k) k.stood) in
            omega (arith, all, k.squared, ap (amounts_in t.contract) twelve, whole_year t.contract);
      }

-- ---- two books

module _ (t : PricedTerms) (h k : List Call) (a b : Table) (first : Kept t (events h) a) (second : Kept t (events k) b) where
  abbrev xs : List Month
  xs = standing (events h)

  abbrev ys : List Month
  ys = standing (events k)

  pub record Less (n : ℕ) : Type 0 where
    pub units : outage_units_in (take n b.lines) ≤ outage_units_in (take n a.lines)
    pub charged : charged_in (take n b.lines) ≤ charged_in (take n a.lines)

  less : (n : ℕ) → BetterKeptUpTo n xs ys → Less n
  less zero better = record { units = omega arith; charged = omega arith }
  less (suc n) better =
      let c = t.contract in
      let sound = priced.sound t in
      let x = month_at xs n in
      let y = month_at ys n in
      let in_a : n < length xs = better.in_first in
      let in_b : n < length ys = better.in_second in
      let here_a : n < length a.lines = omega (arith, within_lines first) in
      let here_b : n < length b.lines = omega (arith, within_lines second) in
      let sx = sound_at xs first.sound n in_a in
      let sy = sound_at ys second.sound n in_b in
      let kept_here = better.better n (omega arith) in
      let outage : (month_units_of y).outage ≤ (month_units_of x).outage = no_more x.rules.outage y.rules.outage sx.lawful.outage kept_here.same_outage_rule y.slots x.slots sy.within sx.within kept_here.no_slot_worse in
      let market : (month_units_of y).market ≤ (month_units_of x).market = no_more x.rules.market y.rules.market sx.lawful.market kept_here.same_market_rule y.slots x.slots sy.within sx.within kept_here.no_slot_worse in
      let dispatch : (month_units_of y).dispatch ≤ (month_units_of x).dispatch = no_more x.rules.dispatch y.rules.dispatch sx.lawful.dispatch kept_here.same_dispatch_rule y.slots x.slots sy.within sx.within kept_here.no_slot_worse in
      let before = less n (record { in_first = omega arith; in_second = omega arith; better = λ i lt. better.better i (omega arith) }) in
      let line_a = line_is c xs a.lines (within_lines first) first.stood n in_a in
      let line_b = line_is c ys b.lines (within_lines second) second.stood n in_b in
      let o = outage_less c sound (outage_units_in (take n b.lines)) (outage_units_in (take n a.lines)) (month_units_of y).outage (month_units_of x).outage before.units outage in
      let m = shortfall_less c sound (month_units_of y).market (month_units_of x).market market in
      let d = shortfall_less c sound (month_units_of y).dispatch (month_units_of x).dispatch dispatch in
      let cap_a = room c xs a.lines (within_lines first) first.stood n (omega arith) in
      let cap_b = room c ys b.lines (within_lines second) second.stood n (omega arith) in
      record {
        units = omega (arith, units_more a.lines n here_a, units_more b.lines n here_b, ap (λ (l : Line). l.units.outage) line_a, ap (λ (l : Line). l.units.outage) line_b, before.units);
        charged = omega (arith, charged_more a.lines n here_a, charged_more b.lines n here_b, ap (λ (l : Line). l.charged) line_a, ap (λ (l : Line). l.charged) line_b, before.charged);
      }

  two_books : TwoBooks t h k a b
  two_books = record {
    first = one_book t h a first;
    second = one_book t k b second;
    better_kept_charged_no_more = λ n better. (less n better).charged;
    better_kept_net_no_less = λ n better.
        omega (arith, ints, (less n better).charged, nets t.contract xs a.lines (within_lines first) first.stood n better.in_first, nets t.contract ys b.lines (within_lines second) second.stood n better.in_second);
  }

pub no_better_kept_year_costs_more : (a b : Table) → NoBetterKeptYearCostsMore a b
no_better_kept_year_costs_more a b t h k l m = two_books t h k a b (kept l) (kept m)
