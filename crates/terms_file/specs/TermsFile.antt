-- The text of terms: a number on each of 22 lines.
use Rattle.std.specs.Prelude.{◌≡◌, ℕ, suc, ◌+◌, Bool, true, ◌||◌, List, [], ◌∷◌, ◌++◌, length, ℤ, pos, negsuc, None, Ok, Err, Result, ◌==◌}
use Rattle.std.specs.Fmt.{signed_decimal}
use Rattle.text.specs.Files.{Format, texts, Stop, complete, out_of_form, out_of_limits, StopsAt}
use Rattle.text.specs.Number.{Short}
use Rattle.terms_file.specs.declared.refusals.TermsRefusal.{TermsRefusal}
use Rattle.terms_file.specs.declared.refusals.TermsRefusal.TheVariants.{Form, Range}
use Rattle.terms.specs.declared.terms.Terms.{Terms}
use Rattle.terms.specs.Ranges.{numbers, in_range, first_out}

-- a number, with a minus before it where it is below 0, and the line's end
abbrev pub line_text : ℤ → List ℕ
line_text z = signed_decimal z ++ (10 ∷ [])

-- the places of the rates
abbrev pub rate_at : ℕ → Bool
rate_at k = k == 19 || k == 20

-- a number has at most 13 digits, and only a rate may be below 0
abbrev pub InForm : ℕ → ℤ → Type 0
InForm k (pos n) = Short 13 n
InForm k (negsuc n) = Short 13 (suc n) × (rate_at k ≡ true)

-- each number is on its own line, and in its range
abbrev pub file : Format ℤ
file = record { write = λ k z. line_text z; Fit = InForm; Good = λ before z. in_range (before ++ (z ∷ [])) (length before) ≡ true }

abbrev pub terms_text : Terms → List ℕ
terms_text t = texts file (numbers t)

-- Where the good lines end is the answer: a refusal is of the line after them, and nothing may come after the last one.
abbrev pub answer : Stop ℤ → Result (List ℤ) TermsRefusal
answer (complete good []) = Ok good
answer (complete good (b ∷ rest)) = Err (Form (length good + 1))
answer (out_of_form good rest) = Err (Form (length good + 1))
answer (out_of_limits good rest) = Err (Range (length good + 1))

-- what is said of a text
pub record Judged (text : List ℕ) (said : Result (List ℤ) TermsRefusal) : Type 0 where
  pub stop : Stop ℤ
  pub stops : StopsAt file 22 text stop
  pub says : said ≡ answer stop

-- the numbers of the terms that were read
abbrev pub read : Result Terms TermsRefusal → Result (List ℤ) TermsRefusal
read (Ok t) = Ok (numbers t)
read (Err e) = Err e

abbrev pub Verdict : List ℕ → Result Terms TermsRefusal → Type 0
Verdict text said = Judged text (read said)

-- the text is that of the terms, and each of their numbers is in its range
pub record IsTextOf (text : List ℕ) (t : Terms) : Type 0 where
  pub written : text ≡ terms_text t
  pub ranges : first_out (numbers t) ≡ None

-- a text has one verdict
abbrev pub OneVerdict : Type 0
OneVerdict = (text : List ℕ) (v w : Result Terms TermsRefusal) → Verdict text v → Verdict text w → v ≡ w

-- and where it is the text of terms, the verdict is these
abbrev pub ReadsBack : Type 0
ReadsBack = (text : List ℕ) (t : Terms) → IsTextOf text t → Verdict text (Ok t)
