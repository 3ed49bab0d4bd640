-- The verdict on a body.
use Rattle.std.proofs.Common.{◌≡◌, ℕ, ◌+◌, ◌<◌, ◌≤◌, List, [], ◌∷◌, ◌++◌, length, take, Some, None, Ok, Err, Option, Result, sym, refl, ap, ◌∙◌, subst, ⊎_elim, append-nil, arith}
use Rattle.std.proofs.lemmas.List.{length-take-le, drop_more, nil_from_length}
use Rattle.std.proofs.lemmas.Bool.{cases_eq}
use Rattle.std.specs.List.{AllByRecursion}
use Rattle.text.specs.Front.{Begins, NoneFirst}
use Rattle.text.specs.Files.{GoodAfter, complete, out_of_form, out_of_limits}
use Rattle.text.proofs.Records as records
use Rattle.records.specs.declared.slot.Slot.{Slot}
use Rattle.year_file.specs.declared.body.BodyRefusal.{BodyRefusal}
use Rattle.year_file.specs.declared.body.BodyRefusal.TheVariants.{Form, Limit, LineCount}
use Rattle.records.specs.Slots.{Within}
use Rattle.year_file.specs.Lines.{InForm, slot_text}
use Rattle.year_file.specs.Bodies.{body, body_text, answer, Judged, Verdict, OneVerdict, ReadsBack}
use Rattle.calendar.proofs.Slots.{slots_upto}
use Rattle.year_file.proofs.Lines.{one_line, no_empty_line, short_lines}

-- the first i slots are the lines before the rest
module _ {text : List ℕ} {slots : List Slot} {i : ℕ} {rest : List ℕ} (h : records.Sofar body text slots i rest) (n : ℕ) (asks : length slots ≡ n) where
  -- something comes next
  some : (length rest ≡ 0 → ⊥) → (b : ℕ) × ((more : List ℕ) × (rest ≡ b ∷ more))
  some more = (_, (_, drop_more rest 0 0 (omega arith)))

  long : length (take i slots) + 1 ≡ i + 1
  long = ap (λ k. k + 1) (length-take-le i slots h.count)

  pub bad_form : i < n → (length rest ≡ 0 → ⊥) → NoneFirst (Begins slot_text InForm) rest → Judged n text (Err (Form (i + 1)))
  bad_form l more formless = record {
    stop = out_of_form (take i slots) rest;
    stops = records.stops_form body h n asks l formless;
    says = ap (λ k. Err (Form k)) (sym long) ∙ ap (λ z. answer (out_of_form (take i slots) z)) (sym (some more).1.1);
  }

  pub over_limit : {s : Slot} {more : List ℕ} → i < n → Begins slot_text InForm s rest more → (Within s → ⊥) → Judged n text (Err (Limit (i + 1)))
  over_limit l f over = record {
    stop = out_of_limits (take i slots) rest;
    stops = records.stops_limits body h n asks l f over;
    says = ap (λ k. Err (Limit k)) (sym long);
  }

  pub too_few : i < n → length rest ≡ 0 → Judged n text (Err LineCount)
  too_few l e = record {
    stop = out_of_form (take i slots) rest;
    stops = records.stops_form body h n asks l (λ s more b. no_empty_line s more (sym (nil_from_length rest e) ∙ b.front));
    says = ap (λ z. answer (out_of_form (take i slots) z)) (sym (nil_from_length rest e));
  }

  pub too_many : n ≤ i → (length rest ≡ 0 → ⊥) → Judged n text (Err LineCount)
  too_many l more = record {
    stop = complete slots rest;
    stops = records.stops_complete body h n asks l;
    says = ap (λ z. answer (complete slots z)) (sym (some more).1.1);
  }

  pub all_read : n ≤ i → length rest ≡ 0 → Judged n text (Ok slots)
  all_read l e = record {
    stop = complete slots rest;
    stops = records.stops_complete body h n asks l;
    says = ap (λ z. answer (complete slots z)) (sym (nil_from_length rest e));
  }

one_judged : (n : ℕ) (text : List ℕ) (v w : Result (List Slot) BodyRefusal) → Judged n text v → Judged n text w → v ≡ w
one_judged n text v w a b =
    a.says ∙ ap answer (records.one_stop body (λ k s t us rest f g e. one_line s t us rest f g e) n text a.stop b.stop a.stops b.stops) ∙ sym b.says

pub one_verdict : OneVerdict
one_verdict None room text v w a b = a ∙ sym b
one_verdict (Some n) room text v w a b =
    ⊎_elim (λ e. one_judged n text v w (a.0 e) (b.0 e)) (λ ne. a.1 ne ∙ sym (b.1 ne)) (cases_eq room n)

in_form : (s : Slot) → Within s → InForm s
in_form s w = record { supply = omega (arith, w.supply); plan = omega (arith, w.plan); offer = omega (arith, w.offer); meter = omega (arith, w.meter) }

all_good : (before slots : List Slot) → AllByRecursion Within slots → GoodAfter body before slots
all_good before [] h = tt
all_good before (s ∷ slots) h = (in_form s h.0, h.0, all_good (before ++ (s ∷ [])) slots h.1)

pub reads_back : ReadsBack
reads_back slots h = record {
  stop = complete slots [];
  stops = (record { front = sym (append-nil (body_text slots)); each = all_good [] slots h }, refl);
  says = refl;
}

pub right_room : (room : ℕ) (text : List ℕ) {count : Option ℕ} {m n : ℕ} {said : Result (List Slot) BodyRefusal} → Some n ≡ count → room ≡ n → Judged m text said → m ≡ n
    → Verdict count room text said
right_room room text {count} {m} {n} {said} e r j d = subst (λ o. Verdict o room text said) e ((λ _. subst (λ k. Judged k text said) d j), (λ ne. absurd (ne r)))

-- what is told of every body, and how many slots a month has at most
pub ruleset body_laws = (one_verdict, reads_back, short_lines, slots_upto)
