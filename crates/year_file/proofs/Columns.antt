-- Numbers of a fixed width.
use Rattle.std.proofs.Common.{◌≡◌, ℕ, zero, suc, ◌+◌, ◌-◌, ◌^◌, ◌<◌, ◌≤◌, List, [], ◌∷◌, ◌++◌, length, get_or, take, drop, replicate, decimal, sym, refl, ap, ◌∙◌, subst, ⊎_elim, append_assoc, arith, length-append}
use Rattle.std.specs.List.{IsSplitAt}
use Rattle.std.specs.Str.Parse.{AllDigits, digits_value}
use Rattle.std.proofs.lemmas.Fmt.{digits_decimal, decimal-digits_value, digits_value-decimal, length-decimal-le}
use Rattle.std.proofs.lemmas.Int.Digits.{digits_value-lt}
use Rattle.std.proofs.lemmas.List.{take_at, drop_at, take-append-drop, length-replicate}
use Rattle.std.proofs.lemmas.Bool.{cases_eq}
use Rattle.text.specs.Front.{Begins}
use Rattle.text.specs.Number.{Short}
use Rattle.text.proofs.Runs.{own, fits}
use Rattle.year_file.specs.Contents.{padded, column}

-- zeros in front change no value
zeros_digits : (k : ℕ) (ds : List ℕ) → AllDigits 10 ds → AllDigits 10 (replicate k 48 ++ ds)
zeros_digits zero ds d = d
zeros_digits (suc k) ds d = (omega arith, zeros_digits k ds d)

zeros_value : (k : ℕ) (ds : List ℕ) → digits_value 10 (replicate k 48 ++ ds) ≡ digits_value 10 ds
zeros_value zero ds = refl
zeros_value (suc k) ds = zeros_value k ds

fits_digits : (ds : List ℕ) → AllDigits 10 ds → length ds ≤ 19 → digits_value 10 ds < 2 ^ 64
fits_digits ds d few = fits (length ds) (digits_value 10 ds) few (digits_value-lt 10 ds d)

-- digits with no zero in front that could go
exact : (ds : List ℕ) → AllDigits 10 ds → 0 < length ds → length ds ≤ 19 → (get_or ds 0 0 ≡ 48 → length ds ≡ 1) → padded (length ds) (digits_value 10 ds) ≡ ds
exact ds d some few lead =
    let none : length ds - length ds ≡ 0 = omega arith in
    ap (λ z. replicate (length ds - length z) 48 ++ z) (decimal-digits_value own ds d some lead (fits_digits ds d few)) ∙ ap (λ k. replicate k 48 ++ ds) none

zero_more : (w n : ℕ) → 0 < w → w ≤ 19 → n < 10 ^ w → padded (suc w) n ≡ 48 ∷ padded w n
zero_more w n some few short =
    let one : suc w - length (decimal n) ≡ suc (w - length (decimal n)) = omega (arith, length-decimal-le w n some short (fits w n few short)) in
    ap (λ k. replicate k 48 ++ decimal n) one

-- digits are their value, filled to as many
pub padded_value : (ds : List ℕ) → AllDigits 10 ds → 0 < length ds → length ds ≤ 19 → padded (length ds) (digits_value 10 ds) ≡ ds
padded_value [] d some few = absurd (omega arith)
padded_value (c ∷ []) d some few = exact (c ∷ []) d some few (λ _. refl)
padded_value (c ∷ b ∷ cs) d some few =
    ⊎_elim
    (λ e. subst (λ (x : ℕ). padded (length (x ∷ b ∷ cs)) (digits_value 10 (x ∷ b ∷ cs)) ≡ x ∷ b ∷ cs) (sym e)
    (zero_more (length (b ∷ cs)) (digits_value 10 (b ∷ cs)) (omega arith) (omega arith) (digits_value-lt 10 (b ∷ cs) d.1) ∙ ap (λ l. 48 ∷ l) (padded_value (b ∷ cs) d.1 (omega arith) (omega arith))))
    (λ ne. exact (c ∷ b ∷ cs) d some few (λ e. absurd (ne e)))
    (cases_eq c 48)

module _ (w end : ℕ) (some : 0 < w) (few : w ≤ 8) where
  module _ (n : ℕ) (short : n < 10 ^ w) where
    size : n < 2 ^ 64
    size = fits w n (omega arith) short

    long : length (padded w n) ≡ w
    long = omega (arith, length-append (replicate (w - length (decimal n)) 48) (decimal n), length-replicate {A = ℕ} (w - length (decimal n)) 48, length-decimal-le w n some short size)

    pub length_column : length (column w end n) ≡ w + 1
    length_column = omega (arith, length-append (padded w n) (end ∷ []), long)

    all : AllDigits 10 (padded w n)
    all = zeros_digits (w - length (decimal n)) (decimal n) (digits_decimal own n size)

    value : digits_value 10 (padded w n) ≡ n
    value = zeros_value (w - length (decimal n)) (decimal n) ∙ digits_value-decimal own n size

  -- a column that begins a text is its first bytes
  pub record Split (n : ℕ) (text rest : List ℕ) : Type 0 where
    pub all : AllDigits 10 (take w text)
    pub value : digits_value 10 (take w text) ≡ n
    pub after : drop w text ≡ end ∷ rest

  pub split : {n : ℕ} {text rest : List ℕ} → Begins (column w end) (Short w) n text rest → Split n text rest
  split {n} {text} {rest} f =
      let e : text ≡ padded w n ++ (end ∷ rest) = f.front ∙ append_assoc (padded w n) (end ∷ []) rest in
      let here : take w text ≡ padded w n = ap (take w) e ∙ take_at (padded w n) (end ∷ rest) w (long n f.fit) in
      record {
        all = rw here (all n f.fit);
        value = ap (digits_value 10) here ∙ value n f.fit;
        after = ap (drop w) e ∙ drop_at (padded w n) (end ∷ rest) w (long n f.fit);
      }

  -- so many digits and the byte are the column of their value
  pub column_of : (text digits after : List ℕ) {n : ℕ} {rest : List ℕ} → IsSplitAt text w digits after → AllDigits 10 digits → digits_value 10 digits ≡ n → after ≡ end ∷ rest
      → Begins (column w end) (Short w) n text rest
  column_of text digits after {n} {rest} s d is ends =
      let padded_is : padded w n ≡ digits = (λ i. padded (sym s.3 i) (sym is i)) ∙ padded_value digits d (omega (arith, s.3)) (omega (arith, s.3)) in
      record {
        fit = rw (sym s.3, sym is) (digits_value-lt 10 digits d);
        front =
            sym (take-append-drop w text) ∙ (λ i. (sym s.1 ∙ sym padded_is) i ++ (sym s.2 ∙ ends) i)
            ∙ sym (append_assoc (padded w n) (end ∷ []) rest);
      }

  pub one_column : (m n : ℕ) (bs us rest : List ℕ) → Begins (column w end) (Short w) m bs us → Begins (column w end) (Short w) n bs rest → (m ≡ n) × (us ≡ rest)
  one_column m n bs us rest f g =
      let p = split f in
      let q = split g in
      let e : end ∷ us ≡ end ∷ rest = sym p.after ∙ q.after in
      (sym p.value ∙ q.value, (cc))
