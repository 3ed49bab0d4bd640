-- Sums over the lines of a year.
use Rattle.std.proofs.Common.{◌≡◌, ℕ, ◌+◌, ◌*◌, ◌<◌, ◌≤◌, List, [], ◌∷◌, length, take, All, ℤ, pos, ◌+ℤ◌, ◌≤ℤ◌, fold, sum_by, arith, mul-le-mul_right}
use Rattle.std.proofs.lemmas.List.{length-take-le}
use Rattle.std.proofs.lemmas.Int.{ints}
use Rattle.std.proofs.lemmas.List.Elements.{All-head, All-tail, All-weaker}
use Rattle.std.proofs.lemmas.List.Sums.{fold_more, sum_by_more, sum_by-le}
use Rattle.book.specs.declared.line.Line.{Line}
use Rattle.book.specs.declared.line.Totals.{Totals}
use Rattle.book.specs.Lines.{empty, line_at, totals_of}
use Rattle.book.specs.Limits.{Modest, Few}

-- a net at the start, and those of the lines after it, are within this
nets_within : (z : ℤ) (ls : List Line) → All Modest ls → let sum = fold (λ z l. z +ℤ l.net) z ls in (z ≤ℤ (sum +ℤ pos (2200000000000 * length ls))) × (sum ≤ℤ (z +ℤ pos (2000000000000 * length ls)))
nets_within z [] modest = (omega (arith, ints), omega (arith, ints))
nets_within z (l ∷ ls) modest =
    let here = All-head Modest l ls modest in
    let rest = nets_within (z +ℤ l.net) ls (All-tail Modest l ls modest) in
    (omega (arith, ints, here.net_from, rest.0), omega (arith, ints, here.net_upto, rest.1))

module _ (ls : List Line) (year : length ls ≤ 12) (modest : All Modest ls) where
  -- a figure that is at most m in a modest line adds up to at most twelve times that
  pub sum_within : (f : Line → ℕ) (m : ℕ) → ((l : Line) → Modest l → f l ≤ m) → sum_by f ls ≤ m * 12
  sum_within f m one = omega (arith, sum_by-le f m ls (All-weaker Modest (λ l. f l ≤ m) one ls modest), mul-le-mul_right m year)

  pub few : Few 12 (totals_of ls)
  few =
      let nets = nets_within (pos 0) ls modest in
      record {
        months = year;
        amount = sum_within (λ l. l.amount) _ (λ l m. m.amount);
        outage = sum_within (λ l. l.penalties.outage) _ (λ l m. m.outage);
        market = sum_within (λ l. l.penalties.market) _ (λ l m. m.market);
        dispatch = sum_within (λ l. l.penalties.dispatch) _ (λ l m. m.dispatch);
        charged = sum_within (λ l. l.charged) _ (λ l m. m.charged);
        net_from = omega (arith, ints, nets.0);
        net_upto = omega (arith, ints, nets.1);
      }

-- the totals with one line more
abbrev pub with : Totals → Line → Totals
with t l = record {
  months = t.months + 1;
  amount = t.amount + l.amount;
  penalties = record {
    outage = t.penalties.outage + l.penalties.outage;
    market = t.penalties.market + l.penalties.market;
    dispatch = t.penalties.dispatch + l.penalties.dispatch;
  };
  charged = t.charged + l.charged;
  net = t.net +ℤ l.net;
}

pub totals_more : (ls : List Line) (i : ℕ) → i < length ls → totals_of (take (i + 1) ls) ≡ with (totals_of (take i ls)) (line_at ls i)
totals_more ls i here =
    let months : length (take (i + 1) ls) ≡ length (take i ls) + 1 = omega (arith, length-take-le (i + 1) ls (omega arith), length-take-le i ls (omega arith)) in
    λ k. record {
      months = months k;
      amount = sum_by_more (λ l. l.amount) ls i empty here k;
      penalties = record {
        outage = sum_by_more (λ l. l.penalties.outage) ls i empty here k;
        market = sum_by_more (λ l. l.penalties.market) ls i empty here k;
        dispatch = sum_by_more (λ l. l.penalties.dispatch) ls i empty here k;
      };
      charged = sum_by_more (λ l. l.charged) ls i empty here k;
      net = fold_more (λ z l. z +ℤ l.net) (pos 0) ls i empty here k;
    }
