-- The text of what a notice says.
use Rattle.std.specs.Prelude.{ℕ, List, ◌++◌, codes, decimal}
use Rattle.std.specs.Fmt.{signed_decimal}
use Rattle.book.specs.declared.table.NoticeNumbers.{NoticeNumbers}

abbrev pub notice_text : NoticeNumbers → List ℕ
notice_text n =
    codes "notice of plant " ++ (decimal n.plant ++ (codes ", year " ++ (decimal n.year ++ (codes ", month " ++ (decimal n.month ++ (codes ", issue " ++ (decimal n.issue ++ (codes ", net " ++ (signed_decimal n.net ++ codes " yen")))))))))
