-- Runs of digits, and the one number that begins a text.
use Rattle.std.proofs.Common.{◌≡◌, ℕ, ◌+◌, ◌-◌, ◌*◌, ◌^◌, ◌<◌, ◌≤◌, List, [], ◌∷◌, ◌++◌, length, get_or, take, drop, decimal, sym, refl, ap, ◌∙◌, subst, ⊎_elim, append_assoc, arith, length-append}
use native.Mathlib.Nat.{pow-le-pow_right}
use Rattle.std.specs.Str.Parse.{AllDigits, digits_value}
use Rattle.std.specs.Int.{IsInRange}
use Rattle.std.specs.Char.{digit_value}
use Rattle.std.proofs.lemmas.Fmt.{digits_decimal, decimal-digits_value, decimal_nonempty, decimal_digit, first_decimal, length-decimal-le, decimal_injective}
use Rattle.std.proofs.lemmas.Int.Digits.{digits_push, digits_value_push}
use Rattle.std.proofs.lemmas.List.{get_or_append_left, take_at, drop_at}
use Rattle.std.proofs.lemmas.Str.Parse.{IsNumeralModel, numerals_by_value, tells_digits, digit_from_value, digits_value_short}
use Rattle.std.proofs.lemmas.Str.{digit_value_digit}
use Rattle.std.proofs.lemmas.Bool.{cases_eq}
use Rattle.text.specs.Front.{NoneFirst}
use Rattle.text.specs.Number.{NoDigit, NumberFirst}

-- digits and their value, as std's lemmas on numerals want them
pub own : IsNumeralModel (AllDigits 10) (digits_value 10)
own = numerals_by_value (AllDigits 10) tells_digits

-- a number of at most nineteen digits fits
pub fits : (most n : ℕ) → most ≤ 19 → n < 10 ^ most → n < 2 ^ 64
fits most n few h =
    let le : 10 ^ most ≤ 10 ^ 19 = pow-le-pow_right (omega arith) few in
    omega arith

-- a run of digits at the front is no longer than one that ends there
covers : (xs ys us bs : List ℕ) → AllDigits 10 xs → NoDigit bs → xs ++ us ≡ ys ++ bs → length xs ≤ length ys
covers [] ys us bs d n e = omega arith
covers (x ∷ xs) [] us bs d n e = absurd (subst NoDigit (sym e) n (digit_from_value x d.0))
covers (x ∷ xs) (y ∷ ys) us bs d n e =
    let e' : xs ++ us ≡ ys ++ bs = cc in
    omega (arith, covers xs ys us bs d.1 n e')

-- a text begins with one run of digits
pub one_run : (xs ys us bs : List ℕ) → AllDigits 10 xs → AllDigits 10 ys → NoDigit us → NoDigit bs → xs ++ us ≡ ys ++ bs → (xs ≡ ys) × (us ≡ bs)
one_run xs ys us bs d d' n n' e =
    let k = length xs in
    let same : length ys ≡ k = omega (arith, covers xs ys us bs d n' e, covers ys xs bs us d' n (sym e)) in
    (sym (take_at xs us k refl) ∙ ap (take k) e ∙ take_at ys bs k same, sym (drop_at xs us k refl) ∙ ap (drop k) e ∙ drop_at ys bs k same)

-- and with one number
pub one_number : (most m n : ℕ) (bs us rest : List ℕ) → most ≤ 19 → NumberFirst most m bs us → NumberFirst most n bs rest → (m ≡ n) × (us ≡ rest)
one_number most m n bs us rest few a b =
    let f = fits most m few a.short in
    let g = fits most n few b.short in
    let p = one_run (decimal m) (decimal n) us rest (digits_decimal own m f) (digits_decimal own n g) a.whole b.whole (sym a.front ∙ b.front) in
    (decimal_injective m n f g p.0, p.1)

-- digits that write n stand between the text's start and the rest
pub record Sofar (text rest : List ℕ) (n : ℕ) : Type 0 where
  pub digits : List ℕ
  pub front : text ≡ digits ++ rest
  pub all : AllDigits 10 digits
  pub is : digits_value 10 digits ≡ n

module _ {text rest : List ℕ} {n : ℕ} (s : Sofar text rest n) where
  pub sofar_more : (c : ℕ) (more : List ℕ) → rest ≡ c ∷ more → IsInRange 48 57 c → Sofar text more (n * 10 + (c - 48))
  sofar_more c more e d =
      let worth : digit_value c ≡ c - 48 = omega (arith, digit_value_digit c d) in
      record {
        digits = s.digits ++ (c ∷ []);
        front = s.front ∙ ap (λ l. s.digits ++ l) e ∙ sym (append_assoc s.digits (c ∷ []) more);
        all = digits_push 10 s.digits c s.all (omega (arith, worth, d));
        is = digits_value_push 10 s.digits c ∙ (λ i. s.is i * 10 + worth i);
      }

  pub long : length text ≡ length s.digits + length rest
  long = ap length s.front ∙ length-append s.digits rest

  pub small : (most : ℕ) → length text ≤ length rest + most → n < 10 ^ most
  small most h = rw (sym s.is) (digits_value_short own s.digits most s.all (omega (arith, long)))

  module _ (most : ℕ) (few : most ≤ 19) where
    pub none_long : length rest + most < length text → NoneFirst (NumberFirst most) text
    none_long over m us f =
        omega (arith, long, length-decimal-le most m f.some f.short (fits most m few f.short), covers s.digits (decimal m) rest us s.all f.whole (sym s.front ∙ f.front))

    module _ (stops : NoDigit rest) where
      -- what begins the text is the run
      is_run : (m : ℕ) (us : List ℕ) → NumberFirst most m text us → decimal m ≡ s.digits
      is_run m us f = (one_run (decimal m) s.digits us rest (digits_decimal own m (fits most m few f.short)) s.all f.whole stops (sym f.front ∙ s.front)).0

      first : length rest < length text → get_or text 0 0 ≡ get_or s.digits 0 0
      first some = ap (λ l. get_or l 0 0) s.front ∙ get_or_append_left s.digits rest 0 0 (omega (arith, long))

      pub found : length text ≤ length rest + most → length rest < length text → (get_or text 0 0 ≡ 48 → length text ≤ length rest + 1) → NumberFirst most n text rest
      found within some lead =
          let below = small most within in
          let size = fits most n few below in
          let written : decimal n ≡ s.digits =
          ap decimal (sym s.is) ∙ decimal-digits_value own s.digits s.all (omega (arith, long)) (λ z. omega (arith, long, lead (first some ∙ z))) (omega (arith, s.is, size))
          in
          record { some = omega arith; short = below; front = s.front ∙ ap (λ l. l ++ rest) (sym written); whole = stops }

      pub none_empty : length text ≤ length rest → NoneFirst (NumberFirst most) text
      none_empty e m us f = omega (arith, long, ap length (is_run m us f), decimal_nonempty m (fits most m few f.short))

      pub none_zero : get_or text 0 0 ≡ 48 → length rest + 1 < length text → NoneFirst (NumberFirst most) text
      none_zero z more m us f =
          let run = is_run m us f in
          ⊎_elim
          (λ e. let one = decimal_digit 0 (omega arith) in omega (arith, long, ap length (sym one ∙ ap decimal (sym e) ∙ run)))
          (λ ne. omega (arith, first_decimal m (omega arith) (fits most m few f.short), ap (λ l. get_or l 0 0) run, first (omega arith), z))
          (cases_eq m 0)
