-- The number and the place of each refusal.
use Rattle.refusal.specs.declared.Refusal.{Refusal}
use Rattle.year_file.specs.declared.body.BodyRefusal.{BodyRefusal}
use Rattle.year_file.specs.declared.body.BodyRefusal.TheVariants.{WrongSlotCount, Form, Limit, LineCount}
use Rattle.year_file.specs.declared.contents.ContentsRefusal.{ContentsRefusal}
use Rattle.year_file.specs.declared.contents.ContentsRefusal.TheVariants as contents

abbrev pub body_refusal : BodyRefusal → Refusal
body_refusal WrongSlotCount = record { number = 8; place = 0 }
body_refusal (Form line) = record { number = 9; place = line }
body_refusal (Limit line) = record { number = 10; place = line }
body_refusal LineCount = record { number = 11; place = 0 }

abbrev pub contents_refusal : ContentsRefusal → Refusal
contents_refusal (contents.Form month) = record { number = 6; place = month }
contents_refusal (contents.Start month) = record { number = 7; place = month }
