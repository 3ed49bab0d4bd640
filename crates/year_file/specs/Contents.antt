-- The contents: where the bodies of the months stand in the file.
use Rattle.std.specs.Prelude.{◌≡◌, ℕ, ◌+◌, ◌-◌, ◌≤◌, List, [], ◌∷◌, ◌++◌, length, replicate, Ok, Err, decimal, Result}
use Rattle.text.specs.Number.{Short}
use Rattle.text.specs.Files.{Format, texts, GoodAfter, Stop, complete, out_of_form, out_of_limits, StopsAt}
use Rattle.year_file.specs.declared.contents.Span.{Span}
use Rattle.year_file.specs.declared.contents.Contents.{Contents}
use Rattle.year_file.specs.declared.contents.ContentsRefusal.{ContentsRefusal}
use Rattle.year_file.specs.declared.contents.ContentsRefusal.TheVariants.{Form, Start}

-- a number, filled with zeros in front to a width
abbrev pub padded : ℕ → ℕ → List ℕ
padded width n = replicate (width - length (decimal n)) 48 ++ decimal n

-- the same, and the byte that ends it
abbrev pub column : ℕ → ℕ → ℕ → List ℕ
column width end n = padded width n ++ (end ∷ [])

-- the entry of a month at place k: its number from 1, where its body starts, and how many bytes the body has
abbrev pub entry_text : ℕ → Span → List ℕ
entry_text k s = column 2 32 (k + 1) ++ column 8 32 s.start ++ column 8 10 s.length

pub record InEntry (s : Span) : Type 0 where
  pub start : Short 8 s.start
  pub length : s.length ≤ 60000

-- where the last of the bodies ends, if the first comes after so many bytes
abbrev pub last_end : ℕ → List Span → ℕ
last_end before [] = before
last_end before (s ∷ spans) = last_end (s.start + s.length) spans

-- each body starts where the one before ends, and the first after the 252 bytes of the contents
abbrev pub contents : Format Span
contents = record { write = entry_text; Fit = λ k s. InEntry s; Good = λ before s. s.start ≡ last_end 252 before }

-- where the good entries end is the answer; what comes after the twelve does not matter
abbrev pub contents_answer : Stop Span → Result (List Span) ContentsRefusal
contents_answer (complete spans rest) = Ok spans
contents_answer (out_of_form spans rest) = Err (Form (length spans + 1))
contents_answer (out_of_limits spans rest) = Err (Start (length spans + 1))

-- what is said of a text that should begin with twelve entries
pub record ContentsVerdict (text : List ℕ) (said : Result (List Span) ContentsRefusal) : Type 0 where
  pub stop : Stop Span
  pub stops : StopsAt contents 12 text stop
  pub says : said ≡ contents_answer stop

abbrev pub spans_of : Result Contents ContentsRefusal → Result (List Span) ContentsRefusal
spans_of (Ok c) = Ok c.spans
spans_of (Err e) = Err e

-- a text has one verdict
abbrev pub OneContents : Type 0
OneContents = (text : List ℕ) (v w : Result (List Span) ContentsRefusal) → ContentsVerdict text v → ContentsVerdict text w → v ≡ w

-- twelve good entries fill the 252 bytes
abbrev pub TwelveFill : Type 0
TwelveFill = (spans : List Span) → length spans ≡ 12 → GoodAfter contents [] spans → length (texts contents spans) ≡ 252
