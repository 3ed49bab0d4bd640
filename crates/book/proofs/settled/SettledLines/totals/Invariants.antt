use Rattle.std.proofs.Common.{◌≡◌, ◌*◌, take, pos, neg_ℤ, ◌≤ℤ◌}
use Rattle.book.specs.Lines.{totals_of}
use Rattle.book.proofs.settled.SettledLines.totals.Given as goal

abbrev pub invariant-loop-line : goal.invariant-loop-line
invariant-loop-line l = record {
  sum : l.totals ≡ totals_of (take l.line-index l.self.lines.now);
  from : neg_ℤ (pos (2200000000000 * l.line-index)) ≤ℤ l.totals.net;
  upto : l.totals.net ≤ℤ pos (2000000000000 * l.line-index);
}
