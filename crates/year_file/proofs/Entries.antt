-- The one entry that begins a text, and the verdict on the contents.
use Rattle.std.proofs.Common.{◌≡◌, ℕ, ◌+◌, ◌*◌, ◌<◌, ◌≤◌, List, [], ◌∷◌, ◌++◌, length, take, set, Ok, Err, Result, sym, refl, ap, ◌∙◌, append_assoc, arith, length-append, length-set}
use Rattle.std.proofs.lemmas.List.{append_cancel_left, length-take-le, take_more_set}
use Rattle.text.specs.Front.{Begins, NoneFirst}
use Rattle.text.specs.Number.{Short}
use Rattle.text.specs.Files.{texts_from, GoodAfter, Stop, complete, out_of_form, out_of_limits}
use Rattle.text.proofs.Fronts as fronts
use Rattle.text.proofs.Records as records
use Rattle.year_file.specs.declared.contents.Span.{Span}
use Rattle.year_file.specs.declared.contents.ContentsRefusal.{ContentsRefusal}
use Rattle.year_file.specs.declared.contents.ContentsRefusal.TheVariants.{Form, Start}
use Rattle.year_file.specs.Contents.{column, entry_text, InEntry, last_end, contents, contents_answer, ContentsVerdict, OneContents, TwelveFill}
use Rattle.year_file.proofs.Columns.{one_column, length_column}

-- what comes after the month
abbrev after_month : Span → List ℕ → List ℕ
after_month s rest = column 8 32 s.start ++ (column 8 10 s.length ++ rest)

entry_is : (k : ℕ) (s : Span) (rest : List ℕ) → entry_text k s ++ rest ≡ column 2 32 (k + 1) ++ after_month s rest
entry_is k s rest = simp append_assoc

short : (s : Span) → InEntry s → Short 8 s.length
short s h = omega (arith, h.length)

-- where an entry comes first, its parts come after the columns that were read
module _ {k : ℕ} (l : k < 12) {s : Span} {t0 rest : List ℕ} (entry : Begins (entry_text k) InEntry s t0 rest) where
  module _ {a : ℕ} {t1 : List ℕ} (f : Begins (column 2 32) (Short 2) a t0 t1) where
    month_first : (a ≡ k + 1) × (t1 ≡ after_month s rest)
    month_first = one_column 2 32 (omega arith) (omega arith) a (k + 1) t0 t1 (after_month s rest) f (record { fit = omega arith; front = entry.front ∙ entry_is k s rest })

    pub start_first : Begins (column 8 32) (Short 8) s.start t1 (column 8 10 s.length ++ rest)
    start_first = record { fit = entry.fit.start; front = month_first.1 }

    module _ {b : ℕ} {t2 : List ℕ} (g : Begins (column 8 32) (Short 8) b t1 t2) where
      pub length_first : Begins (column 8 10) (Short 8) s.length t2 rest
      length_first = record {
        fit = short s entry.fit;
        front = (one_column 8 32 (omega arith) (omega arith) b s.start t1 t2 (column 8 10 s.length ++ rest) g start_first).1;
      }

      pub month_and_length : {d : ℕ} {t3 : List ℕ} → Begins (column 8 10) (Short 8) d t2 t3 → (a ≡ k + 1) × (d ≤ 60000)
      month_and_length {d} {t3} h = (month_first.0, omega (arith, (one_column 8 10 (omega arith) (omega arith) d s.length t2 t3 rest h length_first).0, entry.fit.length))

one_entry : (k : ℕ) (s t : Span) (us rest : List ℕ) → InEntry s → InEntry t → entry_text k s ++ us ≡ entry_text k t ++ rest → (s ≡ t) × (us ≡ rest)
one_entry k s t us rest f g e =
    let a : after_month s us ≡ after_month t rest = append_cancel_left (column 2 32 (k + 1)) (after_month s us) (after_month t rest) (sym (entry_is k s us) ∙ e ∙ entry_is k t rest) in
    let p = one_column 8 32 (omega arith) (omega arith) s.start t.start (after_month s us) (column 8 10 s.length ++ us) (column 8 10 t.length ++ rest)
    (record { fit = f.start; front = refl }) (record { fit = g.start; front = a }) in
    let q = one_column 8 10 (omega arith) (omega arith) s.length t.length (column 8 10 s.length ++ us) us rest
    (record { fit = short s f; front = refl }) (record { fit = short t g; front = p.1 }) in
    (λ i. record { start = p.0 i; length = q.0 i }, q.1)

pub one_contents : OneContents
one_contents text v w a b =
    a.says ∙ ap contents_answer (records.one_stop contents one_entry 12 text a.stop b.stop a.stops b.stops) ∙ sym b.says

entry_long : (k : ℕ) (s : Span) → k < 12 → InEntry s → length (entry_text k s) ≡ 21
entry_long k s l f =
    let a = length_column 2 32 (omega arith) (omega arith) (k + 1) (omega arith) in
    let b = length_column 8 32 (omega arith) (omega arith) s.start f.start in
    let d = length_column 8 10 (omega arith) (omega arith) s.length (short s f) in
    omega (arith, a, b, d, length-append (column 2 32 (k + 1) ++ column 8 32 s.start) (column 8 10 s.length), length-append (column 2 32 (k + 1)) (column 8 32 s.start))

texts_long : (k : ℕ) (before spans : List Span) → k + length spans ≤ 12 → GoodAfter contents before spans → length (texts_from contents k spans) ≡ 21 * length spans
texts_long k before [] l g = refl
texts_long k before (s ∷ spans) l g =
    omega (arith, length-append (entry_text k s) (texts_from contents (k + 1) spans), entry_long k s (omega arith) g.0, texts_long (k + 1) (before ++ (s ∷ [])) spans (omega arith) g.2)

-- what follows the entries changes no answer
same_answer : (more : List ℕ) (s : Stop Span) → contents_answer s ≡ contents_answer (fronts.further more s)
same_answer more (complete spans rest) = refl
same_answer more (out_of_form spans rest) = refl
same_answer more (out_of_limits spans rest) = refl

-- the first bytes of a text decide what is said of its contents, if they are as many as these have
pub front_decides : (m : ℕ) → 252 ≤ m → (text : List ℕ) (said : Result (List Span) ContentsRefusal) → ContentsVerdict (take m text) said → ContentsVerdict text said
front_decides m enough text said =
    fronts.by_front (λ t. ContentsVerdict t said) m
    (λ front more long v. record {
      stop = fronts.further more v.stop;
      stops = fronts.front_stops contents 12 21 (λ k s l f. omega (arith, entry_long k s l f)) front more (omega (arith, long)) v.stop v.stops;
      says = v.says ∙ same_answer more v.stop;
    })
    text

pub twelve_fill : TwelveFill
twelve_fill spans e g = omega (arith, texts_long 0 [] spans (omega arith) g)

-- the last body ends where the one that was read last does
last_end_push : (before : ℕ) (spans : List Span) (s : Span) → last_end before (spans ++ (s ∷ [])) ≡ s.start + s.length
last_end_push before [] s = refl
last_end_push before (t ∷ spans) s = last_end_push (t.start + t.length) spans s

-- the first i spans are the entries before the rest, and `end` is where the last of their bodies ends
pub record Sofar (text : List ℕ) (spans : List Span) (i : ℕ) (rest : List ℕ) (end : ℕ) : Type 0 where
  pub twelve : length spans ≡ 12
  pub entries : records.Sofar contents text spans i rest
  pub ends : end ≡ last_end 252 (take i spans)

pub sofar_none : (text : List ℕ) (spans : List Span) → length spans ≡ 12 → Sofar text spans 0 text 252
sofar_none text spans e = record { twelve = e; entries = records.sofar_none contents text spans; ends = refl }

module _ {text : List ℕ} {spans : List Span} {i : ℕ} {rest : List ℕ} {end : ℕ} (h : Sofar text spans i rest end) where
  long : i ≡ length (take i spans)
  long = sym (length-take-le i spans h.entries.count)

  pub sofar_more : {s : Span} {more : List ℕ} → i < 12 → Begins (entry_text i) InEntry s rest more → s.start ≡ end → Sofar text (set spans i s) (i + 1) more (s.start + s.length)
  sofar_more {s} {more} l f e =
      let room : i < length spans = omega (arith, h.twelve) in
      record {
        twelve = simp length-set h.twelve;
        entries = records.sofar_more contents h.entries room f (e ∙ h.ends);
        ends = sym (ap (last_end 252) (take_more_set spans i s room) ∙ last_end_push 252 (take i spans) s);
      }

  pub bad_entry : i < 12 → NoneFirst (Begins (entry_text i) InEntry) rest → ContentsVerdict text (Err (Form (i + 1)))
  bad_entry l none = record {
    stop = out_of_form (take i spans) rest;
    stops = records.stops_form contents h.entries 12 h.twelve l none;
    says = ap (λ k. Err (Form (k + 1))) long;
  }

  pub bad_start : {s : Span} {more : List ℕ} → i < 12 → Begins (entry_text i) InEntry s rest more → (s.start ≡ end → ⊥) → ContentsVerdict text (Err (Start (i + 1)))
  bad_start l f other = record {
    stop = out_of_limits (take i spans) rest;
    stops = records.stops_limits contents h.entries 12 h.twelve l f (λ e. other (e ∙ sym h.ends));
    says = ap (λ k. Err (Start (k + 1))) long;
  }

  pub all_entries : 12 ≤ i → ContentsVerdict text (Ok spans)
  all_entries l = record { stop = complete spans rest; stops = records.stops_complete contents h.entries 12 h.twelve l; says = refl }
