use Rattle.std.proofs.Common.{◌≤◌, length, take, arith}
use Rattle.std.proofs.lemmas.List.{length-take}
use Rattle.book.proofs.Adding.{few}
use Rattle.book.proofs.Has.{year, modest_first}
use Rattle.book.proofs.book.Book.first_lines.Goals as goal

pub invariant_of-result : goal.invariant_of-result
invariant_of-result c =
    let led = c.args.self.now.led in
    let ls = take c.args.months c.args.self.now.table.lines in
    let twelve : length ls ≤ 12 = omega (arith, length-take c.args.months c.args.self.now.table.lines, year led) in
    let modest = modest_first led c.args.months c.requires in
    record { year = twelve; modest = modest; few = few ls twelve modest }
