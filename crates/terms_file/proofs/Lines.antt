-- The one line that begins a text.
use Rattle.std.proofs.Common.{◌≡◌, ℕ, suc, List, [], ◌∷◌, ◌++◌, get_or, drop, ℤ, pos, negsuc, decimal, sym, refl, ap, ◌∙◌, subst, append_assoc, arith, to_z, of_z}
use mir.Syntax.{w128}
use Rattle.std.specs.Int.{IsInRange}
use Rattle.std.proofs.lemmas.Fmt.{digits_decimal, decimal_nonempty}
use Rattle.std.proofs.lemmas.Str.Parse.{numerals_by_value, tells_by_index}
use Rattle.std.proofs.lemmas.Int.{ints}
use Rattle.std.proofs.lemmas.List.{get_or_append_left}
use Rattle.text.specs.Front.{Begins, NoneFirst}
use Rattle.text.specs.Number.{Short, ended}
use Rattle.text.proofs.Ended as numbers
use Rattle.text.proofs.Runs.{fits}
use Rattle.terms_file.specs.TermsFile.{InForm, line_text}

-- a line's end is no digit
no_digit : IsInRange 48 57 10 → ⊥
no_digit d = omega (arith, d.0)

-- a number without a sign, and the line's end
pub one_ended : (m n : ℕ) (bs us rest : List ℕ) → Begins (ended 10) (Short 13) m bs us → Begins (ended 10) (Short 13) n bs rest → (m ≡ n) × (us ≡ rest)
one_ended = numbers.one_ended 13 10 (omega arith) (omega arith) no_digit

-- no number begins with a minus
no_minus : (n : ℕ) (us rest : List ℕ) → Short 13 n → 45 ∷ us ≡ decimal n ++ rest → ⊥
no_minus n us rest h e =
    let small = fits 13 n (omega arith) h in
    let some = decimal_nonempty n small in
    let digit = digits_decimal (numerals_by_value _ tells_by_index) n small 0 some in
    omega (arith, digit.0, ap (λ l. get_or l 0 0) e, get_or_append_left (decimal n) rest 0 0 some)

-- where a minus comes first, and after it no number but 0, no line does
pub no_line_minus : (k : ℕ) (bs us : List ℕ) → bs ≡ 45 ∷ us → ((n : ℕ) (rest : List ℕ) → Begins (ended 10) (Short 13) (suc n) us rest → ⊥) → NoneFirst (Begins line_text (InForm k)) bs
no_line_minus k bs us e none (pos n) rest b = no_minus n us (10 ∷ rest) b.fit (sym e ∙ b.front ∙ append_assoc (decimal n) (10 ∷ []) rest)
no_line_minus k bs us e none (negsuc n) rest b = none n rest (record { fit = b.fit.0; front = ap (drop 1) (sym e ∙ b.front) })

-- one line at most begins a text
pub one_line : (k : ℕ) (y z : ℤ) (us rest : List ℕ) → InForm k y → InForm k z → line_text y ++ us ≡ line_text z ++ rest → (y ≡ z) × (us ≡ rest)
one_line k (pos m) (pos n) us rest f g e =
    let p = one_ended m n (line_text (pos m) ++ us) us rest (record { fit = f; front = refl }) (record { fit = g; front = e }) in
    (ap pos p.0, p.1)
one_line k (pos m) (negsuc n) us rest f g e = absurd (no_minus m _ (10 ∷ us) f (sym e ∙ append_assoc (decimal m) (10 ∷ []) us))
one_line k (negsuc m) (pos n) us rest f g e = absurd (no_minus n _ (10 ∷ rest) g (e ∙ append_assoc (decimal n) (10 ∷ []) rest))
one_line k (negsuc m) (negsuc n) us rest f g e =
    let p = one_ended (suc m) (suc n) (ended 10 (suc m) ++ us) us rest (record { fit = f.0; front = refl }) (record { fit = g.0; front = ap (drop 1) e }) in
    (ap negsuc (omega (arith, p.0)), p.1)

held : (k : ℕ) (z : ℤ) → InForm k z → z ≡ to_z w128 (of_z w128 z)
held k (pos n) f = omega (arith, ints)
held k (negsuc n) f = omega (arith, ints, f.0)

-- a number in form fits the type that holds it
pub held_line : (k : ℕ) (z : ℤ) (bs rest : List ℕ) → Begins line_text (InForm k) z bs rest → Begins line_text (InForm k) (to_z w128 (of_z w128 z)) bs rest
held_line k z bs rest b = subst (λ (y : ℤ). Begins line_text (InForm k) y bs rest) (held k z b.fit) b
