-- A statement line has at most 128 bytes.
use Rattle.std.proofs.Common.{◌≡◌, ℕ, ◌+◌, ◌*◌, ◌^◌, ◌<◌, ◌≤◌, List, [], ◌∷◌, ◌++◌, length, get_or, take, ℤ, pos, negsuc, neg_ℤ, ◌<ℤ◌, decimal, sym, ap, ◌∙◌, append_assoc, arith, length-append}
use Rattle.std.specs.List.{flat_map, AllByRecursion}
use Rattle.std.specs.Fmt.{signed_decimal}
use Rattle.std.proofs.lemmas.Fmt.{length-decimal-le, length_signed_le}
use Rattle.std.proofs.lemmas.Int.{ints}
use Rattle.std.proofs.lemmas.List.{flat_map_more, take_more, take_all}
use Rattle.std.proofs.lemmas.List.Folds.{length-flat_map-take}
use Rattle.statement.specs.declared.statement.Statement.{Statement}
use Rattle.statement.specs.Text.{field, last, statement_text}

-- the numbers before the net
abbrev pub numbers : Statement → List ℕ
numbers s = s.month ∷ s.amount ∷ s.penalties.outage ∷ s.penalties.market ∷ s.penalties.dispatch ∷ s.charged ∷ []

field_short : (n : ℕ) → n < 10 ^ 17 → length (field n) ≤ 18
field_short n h = omega (arith, length-append (decimal n) (32 ∷ []), length-decimal-le 17 n (omega arith) h (omega arith))

fields_short : (ns : List ℕ) → AllByRecursion (λ n. n < 10 ^ 17) ns → length (flat_map field ns) ≤ 18 * length ns
fields_short [] h = omega arith
fields_short (n ∷ ns) h = omega (arith, length-append (field n) (flat_map field ns), field_short n h.0, fields_short ns h.1)

signed_short : (z : ℤ) → neg_ℤ (pos (10 ^ 17)) <ℤ z → z <ℤ pos (10 ^ 17) → length (signed_decimal z) ≤ 19
signed_short (pos n) low high = length_signed_le 18 (pos n) (omega (arith, ints)) (omega (arith, ints))
signed_short (negsuc n) low high = length_signed_le 18 (negsuc n) (omega (arith, ints)) (omega (arith, ints))

pub text_short : (s : Statement) → length (statement_text s) ≤ 128
text_short s =
    let p = s.penalty_limits in
    omega (arith, length-append (flat_map field (numbers s)) (last s.net), length-append (signed_decimal s.net) (10 ∷ []), fields_short (numbers s) (omega (arith, s.limits.0), (s.limits.1, (p.0, (p.1, (p.2, (s.limits.2, tt)))))), signed_short s.net s.net_limits.0 s.net_limits.1)

-- there is room for one more field
pub field_fits : (s : Statement) (i : ℕ) → i < 6 → length (flat_map field (take i (numbers s))) + length (field (get_or (numbers s) i 0)) ≤ 128
field_fits s i h = omega (arith, length-flat_map-take field (numbers s) i 0 h, text_short s, length-append (flat_map field (numbers s)) (last s.net))

-- the fields with one more
pub fields_more : (ns : List ℕ) (i : ℕ) → i < length ns → flat_map field (take i ns) ++ field (get_or ns i 0) ≡ flat_map field (take (i + 1) ns)
fields_more ns i h = flat_map_more field [] (take i ns) (get_or ns i 0) ∙ ap (flat_map field) (sym (take_more ns i 0 h))

-- the line ends with the net after the fields
pub fields_then : (s : Statement) (i : ℕ) (before net : List ℕ) → 6 ≤ i → before ≡ flat_map field (take i (numbers s)) → net ≡ signed_decimal s.net → (before ++ net) ++ 10 ∷ [] ≡ statement_text s
fields_then s i before net h e f =
    let all = take_all i (numbers s) h in
    let joined = append_assoc before net (10 ∷ []) in
    cc
