-- The number and the place of each refusal of a text of terms.
use Rattle.refusal.specs.declared.Refusal.{Refusal}
use Rattle.terms_file.specs.declared.refusals.TermsRefusal.{TermsRefusal}
use Rattle.terms_file.specs.declared.refusals.TermsRefusal.TheVariants.{Form, Range}

abbrev pub terms_refusal : TermsRefusal → Refusal
terms_refusal (Form line) = record { number = 1; place = line }
terms_refusal (Range line) = record { number = 2; place = line }
