-- The verdict on a text of terms.
use Rattle.std.proofs.Common.{◌≡◌, ℕ, suc, ◌+◌, ◌<◌, ◌≤◌, Bool, true, false, ◌&&◌, List, [], ◌∷◌, ◌++◌, length, get_or, take, set, ℤ, pos, negsuc, nat_abs, None, Ok, Err, decimal, Result, sym, refl, ap, ◌∙◌, append-nil, arith, length-append, length-set}
use Rattle.std.specs.Fmt.{signed_decimal}
use Rattle.std.proofs.lemmas.Fmt.{length-decimal-le}
use Rattle.std.proofs.lemmas.List.{length-take-le}
use Rattle.std.proofs.lemmas.Bool.{false≢true}
use Rattle.text.specs.Front.{Begins, NoneFirst}
use Rattle.text.specs.Files.{texts, Upto, Stop, complete, out_of_form, out_of_limits, StopsAt}
use Rattle.text.proofs.Fronts as fronts
use Rattle.text.proofs.Records as records
use Rattle.terms_file.specs.declared.refusals.TermsRefusal.{TermsRefusal}
use Rattle.terms_file.specs.declared.refusals.TermsRefusal.TheVariants.{Form, Range}
use Rattle.terms.specs.declared.terms.Terms.{Terms}
use Rattle.terms.specs.Ranges.{numbers, stands, in_range, first_out}
use Rattle.terms_file.specs.TermsFile.{line_text, InForm, file, answer, Judged, read, Verdict, IsTextOf, OneVerdict, ReadsBack}
use Rattle.terms_file.proofs.InRange.{all_good, good_all, range_put}
use Rattle.terms_file.proofs.Lines.{one_line}
use Rattle.terms.proofs.Walk.{all_in, none_out, range_told}

-- the first i numbers are the lines before the rest
pub record Sofar (text : List ℕ) (ns : List ℤ) (i : ℕ) (rest : List ℕ) : Type 0 where
  pub lines : records.Sofar file text ns i rest
  pub long : length ns ≡ 22

more_left : (ns : List ℤ) (rest : List ℕ) → length ns ≡ 22 → (length rest ≡ 0 → ⊥) → Err (Form 23) ≡ answer (complete ns rest)
more_left ns [] long some = absurd (some refl)
more_left ns (b ∷ rest) long some = ap (λ k. Err (Form k)) (omega (arith, long))

module _ {text : List ℕ} {ns : List ℤ} {i : ℕ} {rest : List ℕ} (h : Sofar text ns i rest) where
  next : length (take i ns) + 1 ≡ i + 1
  next = ap (λ k. k + 1) (length-take-le i ns h.lines.count)

  pub bad_form : i < 22 → NoneFirst (Begins line_text (InForm i)) rest → Judged text (Err (Form (i + 1)))
  bad_form l formless = record {
    stop = out_of_form (take i ns) rest;
    stops = records.stops_form file h.lines 22 h.long l formless;
    says = ap (λ k. Err (Form k)) (sym next);
  }

  -- the number that comes next is put at its place, and is in range there or not
  module _ {z : ℤ} {more : List ℕ} (b : Begins line_text (InForm i) z rest more) where
    told : (t : Bool) → i < 22 → t ≡ (stands (set ns i z) i && in_range (set ns i z) i) → t ≡ in_range (take i ns ++ (z ∷ [])) (length (take i ns))
    told t l e =
        let long = length-set ns i z ∙ h.long in
        range_told (set ns i z) i t l (omega (arith, long)) e ∙ range_put ns i z (omega (arith, h.long))

    pub out_of_range : i < 22 → false ≡ (stands (set ns i z) i && in_range (set ns i z) i) → Judged text (Err (Range (i + 1)))
    out_of_range l out = record {
      stop = out_of_limits (take i ns) rest;
      stops = records.stops_limits file h.lines 22 h.long l b (λ in_range. false≢true (told false l out ∙ in_range));
      says = ap (λ k. Err (Range k)) (sym next);
    }

    pub read_more : i < 22 → true ≡ (stands (set ns i z) i && in_range (set ns i z) i) → Sofar text (set ns i z) (i + 1) more
    read_more l in_range = record {
      lines = records.sofar_more file h.lines (omega (arith, h.long)) b (sym (told true l in_range));
      long = length-set ns i z ∙ h.long;
    }

  module _ (l : 22 ≤ i) where
    upto : Upto file text ns rest
    upto = (records.stops_complete file h.lines 22 h.long l).0

    pub too_long : (length rest ≡ 0 → ⊥) → Judged text (Err (Form 23))
    too_long some = record { stop = complete ns rest; stops = records.stops_complete file h.lines 22 h.long l; says = more_left ns rest h.long some }

    pub ranges_read : first_out ns ≡ None
    ranges_read = none_out ns (λ k less. all_good ns upto.each k (omega (arith, h.long)))

    pub all_read : rest ≡ [] → Judged text (Ok ns)
    all_read none = record { stop = complete ns rest; stops = records.stops_complete file h.lines 22 h.long l; says = ap (λ z. answer (complete ns z)) (sym none) }

    pub text_read : rest ≡ [] → (t : Terms) → numbers t ≡ ns → IsTextOf text t
    text_read none t e = record {
      written = upto.front ∙ ap (λ z. texts file ns ++ z) none ∙ append-nil (texts file ns) ∙ ap (texts file) (sym e);
      ranges = ap first_out e ∙ ranges_read;
    }

one_judged : (text : List ℕ) (v w : Result (List ℤ) TermsRefusal) → Judged text v → Judged text w → v ≡ w
one_judged text v w a b = a.says ∙ ap answer (records.one_stop file one_line 22 text a.stop b.stop a.stops b.stops) ∙ sym b.says

-- terms are known by their numbers
terms_of : List ℤ → Terms
terms_of ns =
    let n : ℕ → ℕ = λ k. nat_abs (get_or ns k (pos 0)) in
    record {
      plant = n 0;
      year = n 1;
      capacity = n 2;
      assessed = n 3;
      hours = n 4;
      capital = n 5;
      upkeep = n 6;
      returns = n 7;
      method = n 8;
      choices = record { capital = n 9; upkeep = n 10; returns = n 11; rates = n 12 };
      deflator = record { bid = n 13; settled = n 14 };
      corporate = record { bid = n 15; settled = n 16 };
      consumer = record { bid = n 17; settled = n 18 };
      rates = record { bid = get_or ns 19 (pos 0); settled = get_or ns 20 (pos 0) };
      reduction = n 21;
    }

same_read : (v w : Result Terms TermsRefusal) → read v ≡ read w → v ≡ w
unfolding terms_of numbers
same_read (Ok t) (Ok u) e = let n : numbers t ≡ numbers u = cc in ap (λ ns. Ok (terms_of ns)) n
same_read (Ok t) (Err d) e = cc
same_read (Err d) (Ok u) e = cc
same_read (Err d) (Err f) e = cc

pub one_verdict : OneVerdict
one_verdict text v w a b = same_read v w (one_judged text (read v) (read w) a b)

count : (t : Terms) → length (numbers t) ≡ 22
unfolding numbers
count t = refl

pub reads_back : ReadsBack
reads_back text t h = record {
  stop = complete (numbers t) [];
  stops = (
    record { front = h.written ∙ sym (append-nil (texts file (numbers t))); each = good_all (numbers t) (omega (arith, count t)) (λ k less. all_in (numbers t) h.ranges k (omega (arith, count t))) },
    count t,
  );
  says = refl;
}

-- a line in form has at most 15 bytes
short_line : (k : ℕ) (z : ℤ) → InForm k z → length (line_text z) ≤ 15
short_line k (pos n) h = omega (arith, length-append (decimal n) (10 ∷ []), length-decimal-le 13 n (omega arith) h (omega arith))
short_line k (negsuc n) h = omega (arith, length-append (signed_decimal (negsuc n)) (10 ∷ []), length-decimal-le 13 (suc n) (omega arith) h.0 (omega arith))

-- what follows a front with room for more than all lines changes no answer
same_answer : (front more : List ℕ) → 330 < length front → (s : Stop ℤ) → StopsAt file 22 front s → answer s ≡ answer (fronts.further more s)
same_answer front more room (complete good []) h =
    absurd (omega (arith, ap length h.0.front, length-append (texts file good) [], fronts.texts_short file 22 15 (λ k z l. short_line k z) good (omega (arith, h.1)) h.0.each, h.1))
same_answer front more room (complete good (b ∷ rest)) h = refl
same_answer front more room (out_of_form good rest) h = refl
same_answer front more room (out_of_limits good rest) h = refl

-- the first bytes of a text decide what is said of it, if they are more than all lines have
pub front_decides : (m : ℕ) → 330 < m → (text : List ℕ) (said : Result Terms TermsRefusal) → Verdict (take m text) said → Verdict text said
front_decides m over text said =
    fronts.by_front (λ t. Judged t (read said)) m
    (λ front more long v. record {
      stop = fronts.further more v.stop;
      stops = fronts.front_stops file 22 15 (λ k z l. short_line k z) front more (omega (arith, long)) v.stop v.stops;
      says = v.says ∙ same_answer front more (omega (arith, long)) v.stop v.stops;
    })
    text
