use Rattle.std.proofs.Common.{◌≡◌, ℕ, ◌+◌, ◌-◌, ◌<◌, ◌≤◌, ◌&&◌, Bool, true, false, List, ℤ, Option, Some, None, MatchOption, length, sym, ap, ◌∙◌, arith, rules, tests}
use Rattle.std.proofs.lemmas.Iterator.{first_from_Range}
use Rattle.std.specs.Option.{option_map}
use Rattle.terms.specs.Ranges.{in_range, stands, FirstOut}
use Rattle.terms.proofs.Walk.{range_told, one_first}
use Rattle.terms.proofs.ranges.first_out.Goals as goal

-- the test of a line answers b
abbrev Told : List ℤ → Bool → ℕ → Type 0
Told ns b k = b ≡ (stands ns k && in_range ns k)

-- the place where the first test fails is that of the first line out of range
first_of : (ns : List ℤ) (place : Option ℕ) → length ns ≡ 22
    → MatchOption place ((k : ℕ) → 0 ≤ k → k < 22 → Told ns true k) (λ i. (0 ≤ i) × (i < 22) × Told ns false i × ((k : ℕ) → 0 ≤ k → k < i → Told ns true k))
    → FirstOut ns (option_map (λ i. i + 1) place)
first_of ns None long h = λ k l. sym (range_told ns k true l (omega arith) (h k (omega arith) l))
first_of ns (Some i) long h =
    let place : i + 1 - 1 ≡ i = omega arith in (
      omega arith,
      omega (arith, h.1),
      ap (in_range ns) place ∙ sym (range_told ns i false h.1 (omega (arith, h.1)) h.2),
      λ k before. sym (range_told ns k true (omega (arith, h.1)) (omega (arith, h.1)) (h.3 k (omega arith) (omega arith))),
    )

pub returns : goal.returns
returns c =
    let ns = c.into-numbers.result in
    let place = first_from_Range _ _ _ _ (Told ns false) (Told ns true) c.find.ensures.ran
    (λ i q k. grind (arith, tests))
    (λ i q k. (search rules, grind (arith, tests))) in
    let line : c.map.result ≡ option_map (λ i. i + 1) c.find.result = search rules in
    let first = rw (← line, c.into-numbers.ensures) at (first_of ns c.find.result (omega arith) place) in
    record { value = one_first _ _ first; first = first }
