-- The one line that begins a text.
use Rattle.std.proofs.Common.{◌≡◌, ℕ, ◌≤◌, List, [], ◌∷◌, ◌++◌, length, decimal, refl, ap, ◌∙◌, append_assoc, arith, length-append}
use Rattle.std.proofs.lemmas.Fmt.{length-decimal-le}
use Rattle.text.specs.Front.{Begins}
use Rattle.text.specs.Number.{Short}
use Rattle.text.proofs.Ended.{one_ended}
use Rattle.records.specs.declared.slot.Slot.{Slot}
use Rattle.year_file.specs.Lines.{InForm, WordFirst, letters_of, field, word, slot_text}
use Rattle.year_file.specs.Bodies.{ShortLines}
use Rattle.year_file.proofs.Words.{one_word}

pub one_field : (m n : ℕ) (bs us rest : List ℕ) → Begins field (Short 7) m bs us → Begins field (Short 7) n bs rest → (m ≡ n) × (us ≡ rest)
one_field = one_ended 7 32 (omega arith) (omega arith) (λ d. omega (arith, d.0))

-- what is still to come of a line, from its last part to the first
abbrev pub after_meter : Slot → List ℕ → List ℕ
after_meter s rest = word (letters_of s) ++ rest

abbrev pub after_offer : Slot → List ℕ → List ℕ
after_offer s rest = field s.meter ++ after_meter s rest

abbrev pub after_plan : Slot → List ℕ → List ℕ
after_plan s rest = field s.offer ++ after_offer s rest

abbrev pub after_supply : Slot → List ℕ → List ℕ
after_supply s rest = field s.plan ++ after_plan s rest

pub line_is : (s : Slot) (rest : List ℕ) → slot_text s ++ rest ≡ field s.supply ++ after_supply s rest
line_is s rest = simp append_assoc

-- where a line comes first, its parts come after the fields that were read
module _ {s : Slot} {t0 rest : List ℕ} (line : Begins slot_text InForm s t0 rest) where
  supply_first : Begins field (Short 7) s.supply t0 (after_supply s rest)
  supply_first = record { fit = line.fit.supply; front = line.front ∙ line_is s rest }

  module _ {a : ℕ} {t1 : List ℕ} (f : Begins field (Short 7) a t0 t1) where
    pub plan_first : Begins field (Short 7) s.plan t1 (after_plan s rest)
    plan_first = record { fit = line.fit.plan; front = (one_field a s.supply t0 t1 (after_supply s rest) f supply_first).1 }

    module _ {b : ℕ} {t2 : List ℕ} (g : Begins field (Short 7) b t1 t2) where
      pub offer_first : Begins field (Short 7) s.offer t2 (after_offer s rest)
      offer_first = record { fit = line.fit.offer; front = (one_field b s.plan t1 t2 (after_plan s rest) g plan_first).1 }

      module _ {d : ℕ} {t3 : List ℕ} (h : Begins field (Short 7) d t2 t3) where
        pub meter_first : Begins field (Short 7) s.meter t3 (after_meter s rest)
        meter_first = record { fit = line.fit.meter; front = (one_field d s.offer t2 t3 (after_offer s rest) h offer_first).1 }

        pub word_first : {e : ℕ} {t4 : List ℕ} → Begins field (Short 7) e t3 t4 → WordFirst (letters_of s) t4 rest
        word_first {e} {t4} k = (one_field e s.meter t3 t4 (after_meter s rest) k meter_first).1

-- one line begins a text
pub one_line : (s t : Slot) (us rest : List ℕ) → InForm s → InForm t → slot_text s ++ us ≡ slot_text t ++ rest → (s ≡ t) × (us ≡ rest)
one_line s t us rest f g same =
    let own : Begins slot_text InForm s (slot_text s ++ us) us = record { fit = f; front = refl } in
    let line : Begins slot_text InForm t (slot_text s ++ us) rest = record { fit = g; front = same } in
    let a = supply_first own in
    let b : Begins field (Short 7) s.plan (after_supply s us) (after_plan s us) = record { fit = f.plan; front = refl } in
    let d : Begins field (Short 7) s.offer (after_plan s us) (after_offer s us) = record { fit = f.offer; front = refl } in
    let e : Begins field (Short 7) s.meter (after_offer s us) (after_meter s us) = record { fit = f.meter; front = refl } in
    let p = one_field s.supply t.supply (slot_text s ++ us) (after_supply s us) (after_supply t rest) a (supply_first line) in
    let q = one_field s.plan t.plan (after_supply s us) (after_plan s us) (after_plan t rest) b (plan_first line a) in
    let r = one_field s.offer t.offer (after_plan s us) (after_offer s us) (after_offer t rest) d (offer_first line a b) in
    let o = one_field s.meter t.meter (after_offer s us) (after_meter s us) (after_meter t rest) e (meter_first line a b d) in
    let w = one_word (letters_of s) (letters_of t) us rest (word_first line a b d e) in (
      λ i. record {
        supply = p.0 i;
        plan = q.0 i;
        offer = r.0 i;
        meter = o.0 i;
        outage = (w.0 i).outage;
        low_reserve = (w.0 i).low_reserve;
        dispatched = (w.0 i).dispatched;
        papers = (w.0 i).papers;
      },
      w.1,
    )

-- a field has at most eight bytes
field_short : (n : ℕ) → Short 7 n → length (field n) ≤ 8
field_short n h = omega (arith, length-append (decimal n) (32 ∷ []), length-decimal-le 7 n (omega arith) h (omega arith))

pub short_lines : ShortLines
short_lines s f =
    let a = field s.supply in
    let b = field s.plan in
    let c = field s.offer in
    let d = field s.meter in
    omega (
      arith,
      length-append (a ++ b ++ c ++ d) (word (letters_of s)),
      length-append (a ++ b ++ c) d,
      length-append (a ++ b) c,
      length-append a b,
      field_short s.supply f.supply,
      field_short s.plan f.plan,
      field_short s.offer f.offer,
      field_short s.meter f.meter,
    )

pub no_empty_line : (s : Slot) (rest : List ℕ) → [] ≡ slot_text s ++ rest → ⊥
no_empty_line s rest e =
    omega (arith, ap length e, length-append (slot_text s) rest, length-append (field s.supply ++ field s.plan ++ field s.offer ++ field s.meter) (word (letters_of s)))
