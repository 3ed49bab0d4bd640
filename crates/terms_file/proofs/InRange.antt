-- Ranges along a list of numbers.
use Rattle.std.proofs.Common.{◌≡◌, ℕ, ◌+◌, ◌<◌, ◌≤◌, true, List, [], ◌∷◌, ◌++◌, length, get_or, take, set, ℤ, pos, sym, refl, ap, ◌∙◌, ⊎_elim, append_assoc, arith, length-append}
use Rattle.std.proofs.lemmas.List.{get_or_at, length-take-le}
use Rattle.std.proofs.lemmas.Grind.{common_steps}
use Rattle.std.proofs.lemmas.Bool.{cases_eq, ne_eqb}
use Rattle.text.specs.Files.{GoodAfter}
use Rattle.terms.specs.Ranges.{in_range}
use Rattle.terms_file.specs.TermsFile.{file}
use Rattle.terms_file.proofs.RangeTable.{in_form}

-- a range looks at its own number, and that of the assessed capacity at the contract capacity too
same_range : (xs ys : List ℤ) (k : ℕ) → get_or xs k (pos 0) ≡ get_or ys k (pos 0) → (k ≡ 3 → get_or xs 2 (pos 0) ≡ get_or ys 2 (pos 0)) → in_range xs k ≡ in_range ys k
same_range xs ys k e c = ⊎_elim (λ three. let capacity = c three in cc) (λ other. let no = ne_eqb k 3 other in grind arith) (cases_eq k 3)

range_front : (xs ys : List ℤ) (k : ℕ) → k < length xs → in_range (xs ++ ys) k ≡ in_range xs k
range_front xs ys k h = same_range (xs ++ ys) xs k (grind (arith, common_steps)) (λ three. grind (arith, common_steps))

-- the number put at the place i is in range as it is after those before
pub range_put : (xs : List ℤ) (i : ℕ) (x : ℤ) → i < length xs → in_range (set xs i x) i ≡ in_range (take i xs ++ (x ∷ [])) (length (take i xs))
range_put xs i x h =
    let long = length-take-le i xs (omega arith) in
    rw long (same_range (set xs i x) (take i xs ++ (x ∷ [])) i (grind (arith, common_steps)) (λ three. grind (arith, common_steps)))

-- good numbers are in range
good_in : (before xs : List ℤ) → GoodAfter file before xs → (k : ℕ) → length before ≤ k → k < length before + length xs → in_range (before ++ xs) k ≡ true
good_in before [] g k l h = absurd (omega arith)
good_in before (x ∷ xs) g k l h =
    let one = length-append before (x ∷ []) in
    rw (← append_assoc before (x ∷ []) xs)
    (⊎_elim
    (λ here. range_front (before ++ (x ∷ [])) xs k (omega (arith, one)) ∙ ap (in_range (before ++ (x ∷ []))) here ∙ g.1)
    (λ later. good_in (before ++ (x ∷ [])) xs g.2 k (omega (arith, one)) (omega (arith, one)))
    (cases_eq k (length before)))

pub all_good : (ns : List ℤ) → GoodAfter file [] ns → (k : ℕ) → k < length ns → in_range ns k ≡ true
all_good ns g k h = good_in [] ns g k (omega arith) (omega arith)

-- and numbers in range are good
in_good : (before xs : List ℤ) → length before + length xs ≤ 22 → ((k : ℕ) → k < length before + length xs → in_range (before ++ xs) k ≡ true) → GoodAfter file before xs
in_good before [] few each = tt
in_good before (x ∷ xs) few each =
    let split = append_assoc before (x ∷ []) xs in
    let one = length-append before (x ∷ []) in
    let each' = rw (← split) at each in
    let here = sym (range_front (before ++ (x ∷ [])) xs (length before) (omega (arith, one))) ∙ each' (length before) (omega arith) in
    let number = get_or_at before x [] (pos 0) (length before) refl in
    (rw number at (in_form (before ++ (x ∷ [])) (length before) (omega arith) here), here, in_good (before ++ (x ∷ [])) xs (omega (arith, one)) (λ k h. each' k (omega (arith, one))))

pub good_all : (ns : List ℤ) → length ns ≤ 22 → ((k : ℕ) → k < length ns → in_range ns k ≡ true) → GoodAfter file [] ns
good_all ns few each = in_good [] ns (omega arith) (λ k h. each k (omega arith))
