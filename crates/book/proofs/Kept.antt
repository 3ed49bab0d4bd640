-- What every history keeps of its table.
use Rattle.std.proofs.Common.{◌≡◌, ℕ, zero, suc, ◌+◌, ◌<◌, ◌≤◌, Bool, true, false, cond, ◌≢◌, List, [], ◌∷◌, length, take, All, set, ℤ, pos, negsuc, ◌-ℤ◌, neg_ℤ, Ok, Err, sym, refl, ap, ◌∙◌, subst, add-one, arith, length-set, get_or-set_other, get_or-set_same}
use Rattle.std.proofs.lemmas.Int.{ints}
use Rattle.std.proofs.lemmas.List.Elements.{All-nil, All-cons}
use Rattle.std.proofs.lemmas.List.Sums.{sum_by_more}
use Rattle.std.proofs.lemmas.Bool.{false≢true}
use Rattle.records.specs.declared.slot.Slot.{Slot}
use Rattle.records.specs.Slots.{Within}
use Rattle.rules.specs.declared.assessment.PerRule.{PerRule}
use Rattle.rules.specs.Months.{RuleOf, numbers_of, units_of}
use Rattle.rules.proofs.Slots.{few, within}
use Rattle.terms.specs.declared.contract.PricedTerms.{PricedTerms}
use Rattle.terms.specs.declared.figures.Contract.{Contract}
use Rattle.yen.specs.declared.Settlement.{Settlement}
use Rattle.yen.specs.declared.Settlement.TheVariants.{Payment, Claim, Neither}
use Rattle.yen.specs.Yen.{settlement_of}
use Rattle.book.specs.declared.line.Line.{Line}
use Rattle.book.specs.declared.table.Notice.{Notice}
use Rattle.book.specs.declared.table.Table.{Table}
use Rattle.book.specs.Lines.{empty, line_at, before_of, line_of}
use Rattle.book.specs.Calls.{Opened, settled_lines, shown, next_line, LawfulRules, Closes, Settles, Objects}
use Rattle.book.specs.History.{Call, closing, settling, objecting, reading_line, reading_totals, reading_statement, reading_totals_statement, printing_line, Step, Led, opened, called}
use Rattle.book.specs.Standing.{Event, closed, settled, objected, events, objections, Month, pending, standing, paid, claimed, carried, standing_line, Stands, amounts_in}

-- a month that was closed by lawful rules on slots within their limits
pub record SoundMonth (m : Month) : Type 0 where
  pub lawful : LawfulRules m.rules
  pub few : length m.slots ≤ 1488
  pub within : All Within m.slots

pub record Kept (t : PricedTerms) (es : List Event) (a : Table) : Type 0 where
  pub same_terms : a.terms ≡ t
  pub counted : a.settled ≡ length (standing es)
  pub issued : a.issue ≡ 1 + objections es
  pub issue_fits : a.issue ≤ 99
  pub twelve : length a.lines ≡ 12
  pub year : a.settled ≤ 12
  pub stood : Stands t.contract (standing es) a.lines
  pub waiting : a.out ≡ true → (a.settled < 12) × (line_at a.lines a.settled ≡ standing_line t.contract (pending es) (standing es))
  pub sound : All SoundMonth (standing es)
  pub sound_next : a.out ≡ true → SoundMonth (pending es)
  pub squared : paid es + (carried t.contract (standing es)).charged ≡ amounts_in t.contract (length (standing es)) + claimed es

-- a line written past the months that stand leaves their lines
stands_set : (c : Contract) (ms : List Month) (ls : List Line) (i : ℕ) (l : Line) → length ms ≤ i → Stands c ms ls → Stands c ms (set ls i l)
stands_set c [] ls i l le s = tt
stands_set c (m ∷ ms) ls i l le s =
    let ne : length ms ≢ i = omega arith in
    (stands_set c ms ls i l (omega arith) s.0, get_or-set_other ls i (length ms) l empty ne ∙ s.1)

-- what the lines of months that stand carry on is what the months carry on
pub carried_is : (c : Contract) (ms : List Month) (ls : List Line) → length ms ≤ length ls → Stands c ms ls → before_of (take (length ms) ls) ≡ carried c ms
carried_is c [] ls le s = refl
carried_is c (m ∷ ms) ls le s =
    let ih = carried_is c ms ls (omega arith) s.0 in
    let units : (before_of (take (length ms + 1) ls)).outage_units ≡ (carried c (m ∷ ms)).outage_units =
    sum_by_more (λ (l : Line). l.units.outage) ls (length ms) empty le ∙ (λ i. (ih i).outage_units + (s.1 i).units.outage) in
    let charged : (before_of (take (length ms + 1) ls)).charged ≡ (carried c (m ∷ ms)).charged =
    sum_by_more (λ (l : Line). l.charged) ls (length ms) empty le ∙ (λ i. (ih i).charged + (s.1 i).charged) in
    let both : before_of (take (length ms + 1) ls) ≡ carried c (m ∷ ms) = λ i. record { outage_units = units i; charged = charged i } in
    rw (add-one (length ms)) at both

-- what a settlement is worth to the plant
abbrev worth : Settlement → ℤ
worth (Payment yen) = pos yen
worth (Claim yen) = neg_ℤ (pos yen)
worth Neither = pos 0

worth_settlement : (z : ℤ) → worth (settlement_of z) ≡ z
worth_settlement (pos zero) = refl
worth_settlement (pos (suc n)) = refl
worth_settlement (negsuc n) = refl

money : (es : List Event) (s : Settlement) (sum amount charged due : ℕ) → worth s ≡ pos amount -ℤ pos charged → paid es + sum ≡ due + claimed es → paid (settled s ∷ es) + (sum + charged) ≡ (due + amount) + claimed (settled s ∷ es)
money es (Payment yen) sum amount charged due e k = omega (arith, ints)
money es (Claim yen) sum amount charged due e k = omega (arith, ints)
money es Neither sum amount charged due e k = omega (arith, ints)

not_out : {P : Type 0} → false ≡ true → P
not_out e = absurd (false≢true e)

at_start : (t : PricedTerms) (b : Table) → Opened t b → Kept t [] b
at_start t b o = subst (Kept t []) (sym o.fresh) (record {
  same_terms = refl;
  counted = refl;
  issued = refl;
  issue_fits = omega arith;
  twelve = refl;
  year = omega arith;
  stood = tt;
  waiting = not_out;
  sound = All-nil SoundMonth;
  sound_next = not_out;
  squared = refl;
})

module _ (t : PricedTerms) (es : List Event) (a : Table) (k : Kept t es a) where
  -- the line that the table gives the next month is the one that the standing months give it
  next_is : (slots : List Slot) (rules : PerRule RuleOf) → next_line a (numbers_of rules) (units_of rules slots) ≡ standing_line t.contract (pending (closed slots rules ∷ es)) (standing es)
  next_is slots rules =
      let before : before_of (settled_lines a) ≡ carried t.contract (standing es) =
      ap (λ n. before_of (take n a.lines)) k.counted ∙ carried_is t.contract (standing es) a.lines (omega (arith, k.counted, k.year, k.twelve)) k.stood in
      λ i. line_of (k.same_terms i).contract (k.counted i) (k.issued i) (before i) (numbers_of rules) (units_of rules slots)

  at_close : (slots : List Slot) (rules : PerRule RuleOf) (n : Notice) (b : Table) → LawfulRules rules → Closes a slots rules n b → Kept t (closed slots rules ∷ es) b
  at_close slots rules n b law s = subst (Kept t (closed slots rules ∷ es)) (sym s.left) (record {
    same_terms = k.same_terms;
    counted = k.counted;
    issued = k.issued;
    issue_fits = k.issue_fits;
    twelve = length-set a.lines a.settled _ ∙ k.twelve;
    year = k.year;
    stood = stands_set t.contract (standing es) a.lines a.settled _ (omega (arith, k.counted)) k.stood;
    waiting = λ _. (s.month_left, get_or-set_same a.lines a.settled _ empty (omega (arith, k.twelve, s.month_left)) ∙ next_is slots rules);
    sound = k.sound;
    sound_next = λ _. record { lawful = law; few = few s.fit; within = within s.fit };
    squared = k.squared;
  })

  at_object : (n : Notice) (b : Table) → Objects a n b → Kept t (objected ∷ es) b
  at_object n b s = subst (Kept t (objected ∷ es)) (sym s.left) (record {
    same_terms = k.same_terms;
    counted = k.counted;
    issued = omega (arith, k.issued);
    issue_fits = omega (arith, s.issue_left);
    twelve = length-set a.lines a.settled empty ∙ k.twelve;
    year = k.year;
    stood = stands_set t.contract (standing es) a.lines a.settled empty (omega (arith, k.counted)) k.stood;
    waiting = not_out;
    sound = k.sound;
    sound_next = not_out;
    squared = k.squared;
  })

  at_settle : (n : Notice) (r : Settlement) (b : Table) → Settles a n r b → Kept t (settled r ∷ es) b
  at_settle n r b s =
      let wait = k.waiting s.awaits.is_out in
      let net : worth r ≡ (standing_line t.contract (pending es) (standing es)).net =
      ap worth s.answered ∙ worth_settlement n.numbers.net ∙ ap (λ (m : Notice). m.numbers.net) s.awaits.same ∙ ap (λ (l : Line). l.net) wait.1 in
      subst (Kept t (settled r ∷ es)) (sym s.left) (record {
        same_terms = k.same_terms;
        counted = omega (arith, k.counted);
        issued = refl;
        issue_fits = omega arith;
        twelve = k.twelve;
        year = omega (arith, wait.0);
        stood = (k.stood, ap (line_at a.lines) (sym k.counted) ∙ wait.1);
        waiting = not_out;
        sound = All-cons SoundMonth (pending es) (standing es) (k.sound_next s.awaits.is_out) k.sound;
        sound_next = not_out;
        squared = money es r _ _ _ _ net k.squared;
      })

  same : (b : Table) → b ≡ a → Kept t es b
  same b e = subst (Kept t es) (sym e) k

at_step : (t : PricedTerms) (h : List Call) (a : Table) → Kept t (events h) a → (c : Call) (b : Table) → Step a c b → Kept t (events (c ∷ h)) b
at_step t h a k (closing slots rules (Ok n)) b s = at_close t (events h) a k slots rules n b s.lawful s.answer
at_step t h a k (closing slots rules (Err e)) b s = same t (events h) a k b s.answer.1
at_step t h a k (settling n (Ok r)) b s = at_settle t (events h) a k n r b s
at_step t h a k (settling n (Err e)) b s = same t (events h) a k b s.1.unchanged
at_step t h a k (objecting n (Ok u)) b s = at_object t (events h) a k n b s
at_step t h a k (objecting n (Err e)) b s = same t (events h) a k b s.1.unchanged
at_step t h a k (reading_line month r) b s = same t (events h) a k b s.1
at_step t h a k (reading_totals r) b s = same t (events h) a k b s.1
at_step t h a k (reading_statement month r) b s = same t (events h) a k b s.1
at_step t h a k (reading_totals_statement r) b s = same t (events h) a k b s.1
at_step t h a k (printing_line month old r new) b s = same t (events h) a k b s.1

pub kept : {t : PricedTerms} {h : List Call} {a : Table} → Led t h a → Kept t (events h) a
kept {t} (opened {b} o) = at_start t b o
kept {t} (called {h} {a} {b} {c} l s) = at_step t h a (kept l) c b s

module _ {t : PricedTerms} {es : List Event} {a : Table} (k : Kept t es a) where
  pub within_lines : length (standing es) ≤ length a.lines
  within_lines = omega (arith, k.counted, k.year, k.twelve)

  -- the months that are settled or under notice
  pub record ShownMonths : Type 0 where
    pub months : List Month
    pub counted : length months ≡ shown a
    pub year : length months ≤ 12
    pub stand : Stands t.contract months a.lines
    pub sound : All SoundMonth months

  pub shown_months : ShownMonths
  shown_months = go a.out refl
    where
      go : (out : Bool) → a.out ≡ out → ShownMonths
      go true e = record {
        months = pending es ∷ standing es;
        counted = omega (arith, k.counted, ap {B = ℕ} (λ (b : Bool). cond b 1 0) e);
        year = omega (arith, k.counted, (k.waiting e).0);
        stand = (k.stood, ap (line_at a.lines) (sym k.counted) ∙ (k.waiting e).1);
        sound = All-cons SoundMonth (pending es) (standing es) (k.sound_next e) k.sound;
      }
      go false e = record {
        months = standing es;
        counted = omega (arith, k.counted, ap {B = ℕ} (λ (b : Bool). cond b 1 0) e);
        year = omega (arith, k.counted, k.year);
        stand = k.stood;
        sound = k.sound;
      }
