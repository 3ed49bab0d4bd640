-- The number and the place of each refusal; the place is 0 where none is named.
use Rattle.std.specs.Prelude.{ℕ}
use Rattle.refusal.specs.declared.Refusal.{Refusal}
use Rattle.rules.specs.declared.assessment.SlotsRefusal.{SlotsRefusal}
use Rattle.rules.specs.declared.assessment.SlotsRefusal.TheVariants.{WrongSlotCount, UnfitSlot}
use Rattle.book.specs.declared.refused.CloseRefusal.{CloseRefusal}
use Rattle.book.specs.declared.refused.CloseRefusal.TheVariants as close
use Rattle.book.specs.declared.refused.SettleRefusal.{SettleRefusal}
use Rattle.book.specs.declared.refused.SettleRefusal.TheVariants as settle
use Rattle.book.specs.declared.refused.ObjectRefusal.{ObjectRefusal}
use Rattle.book.specs.declared.refused.ObjectRefusal.TheVariants as object
use Rattle.book.specs.declared.refused.ReadLineRefusal.{ReadLineRefusal}
use Rattle.book.specs.declared.refused.ReadLineRefusal.TheVariants as line
use Rattle.book.specs.declared.refused.PrintLineRefusal.{PrintLineRefusal}
use Rattle.book.specs.declared.refused.PrintLineRefusal.TheVariants as print

abbrev numbered : ℕ → Refusal
numbered n = record { number = n; place = 0 }

abbrev pub close_refusal : CloseRefusal → Refusal
close_refusal close.NoticeOut = numbered 12
close_refusal close.YearSettled = numbered 13
close_refusal close.WrongSlotCount = numbered 14
close_refusal (close.UnfitSlot slot) = record { number = 15; place = slot }

abbrev pub settle_refusal : SettleRefusal → Refusal
settle_refusal settle.OtherNotice = numbered 16

abbrev pub object_refusal : ObjectRefusal → Refusal
object_refusal object.OtherNotice = numbered 16
object_refusal object.LastIssue = numbered 17

abbrev pub read_line_refusal : ReadLineRefusal → Refusal
read_line_refusal line.NoLine = numbered 18

abbrev pub print_line_refusal : PrintLineRefusal → Refusal
print_line_refusal print.NoLine = numbered 18
print_line_refusal print.ShortBuffer = numbered 19

-- what is wrong with the slots is what is wrong with closing on them
abbrev pub from_slots : SlotsRefusal → CloseRefusal
from_slots WrongSlotCount = close.WrongSlotCount
from_slots (UnfitSlot slot) = close.UnfitSlot slot
