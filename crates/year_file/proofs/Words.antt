-- The letters of a line.
use Rattle.std.proofs.Common.{◌≡◌, ℕ, Bool, true, false, cond, eqb, List, ◌++◌, sym, refl, ap, ◌∙◌, arith}
use Rattle.records.specs.declared.slot.Outage.{Outage}
use Rattle.records.specs.declared.slot.Outage.TheVariants.{NoOutage, PlannedStop, UnplannedStop, PlannedSuppression, UnplannedSuppression}
use Rattle.year_file.specs.declared.body.Letters.{Letters}
use Rattle.year_file.specs.Lines.{outage_letter, flag_letter, word}

-- the letters differ
abbrev outage_of : ℕ → Outage
outage_of c = cond (eqb c 45) NoOutage (cond (eqb c 80) PlannedStop (cond (eqb c 85) UnplannedStop (cond (eqb c 112) PlannedSuppression UnplannedSuppression)))

outage_back : (m : Outage) → outage_of (outage_letter m) ≡ m
outage_back NoOutage = refl
outage_back PlannedStop = refl
outage_back UnplannedStop = refl
outage_back PlannedSuppression = refl
outage_back UnplannedSuppression = refl

one_outage : (m n : Outage) → outage_letter m ≡ outage_letter n → m ≡ n
one_outage m n e = sym (outage_back m) ∙ ap outage_of e ∙ outage_back n

one_flag : (l : ℕ) (t u : Bool) → (l ≡ 45 → ⊥) → flag_letter l t ≡ flag_letter l u → t ≡ u
one_flag l true true ne e = refl
one_flag l true false ne e = absurd (ne e)
one_flag l false true ne e = absurd (ne (sym e))
one_flag l false false ne e = refl

-- one word begins a text
pub one_word : (l m : Letters) (us rest : List ℕ) → word l ++ us ≡ word m ++ rest → (l ≡ m) × (us ≡ rest)
one_word l m us rest same =
    let e0 : outage_letter l.outage ≡ outage_letter m.outage = cc in
    let e1 : flag_letter 76 l.low_reserve ≡ flag_letter 76 m.low_reserve = cc in
    let e2 : flag_letter 68 l.dispatched ≡ flag_letter 68 m.dispatched = cc in
    let e3 : flag_letter 69 l.papers ≡ flag_letter 69 m.papers = cc in
    let e4 : us ≡ rest = cc in (
      λ i. record {
        outage = one_outage l.outage m.outage e0 i;
        low_reserve = one_flag 76 l.low_reserve m.low_reserve (λ z. omega arith) e1 i;
        dispatched = one_flag 68 l.dispatched m.dispatched (λ z. omega arith) e2 i;
        papers = one_flag 69 l.papers m.papers (λ z. omega arith) e3 i;
      },
      e4,
    )
