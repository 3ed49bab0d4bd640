-- The first line out of range.
use Rattle.std.proofs.Common.{◌≡◌, ℕ, zero, suc, ◌+◌, ◌-◌, ◌<◌, ◌≤◌, Bool, true, false, ◌&&◌, List, length, ℤ, Some, None, Option, sym, refl, ap, ◌∙◌, ⊎_elim, arith}
use Rattle.std.proofs.lemmas.Bool.{cases_Bool, cases_eq, cond-true, cond-false, and_from, lt-ltb}
use Rattle.terms.specs.Ranges.{in_range, stands, first_from, first_out, FirstOut}

all_from : (ns : List ℤ) (n k : ℕ) → first_from ns n k ≡ None → (j : ℕ) → k ≤ j → j < k + n → in_range ns j ≡ true
unfolding first_from
all_from ns zero k e j l h = absurd (omega arith)
all_from ns (suc n) k e j l h =
    ⊎_elim
    (λ here. ⊎_elim (λ same. rw same at here) (λ other. all_from ns n (k + 1) (rw here at e) j (omega arith) (omega arith)) (cases_eq k j))
    (λ out. absurd (cc (rw out at e)))
    (cases_Bool (in_range ns k))

-- where no line is out of range, each is in range
pub all_in : (ns : List ℤ) → first_out ns ≡ None → (k : ℕ) → k < 22 → in_range ns k ≡ true
unfolding first_out
all_in ns e k h = all_from ns 22 0 e k (omega arith) (omega arith)

none_from : (ns : List ℤ) (n k : ℕ) → ((j : ℕ) → k ≤ j → j < k + n → in_range ns j ≡ true) → first_from ns n k ≡ None
unfolding first_from
none_from ns zero k each = refl
none_from ns (suc n) k each = rw (each k (omega arith) (omega arith)) (none_from ns n (k + 1) (λ j l h. each j (omega arith) (omega arith)))

pub none_out : (ns : List ℤ) → ((k : ℕ) → k < 22 → in_range ns k ≡ true) → first_out ns ≡ None
unfolding first_out
none_out ns each = none_from ns 22 0 (λ j l h. each j (omega arith))

-- of n lines from the place k on, the one at the place i is out of range, and those before it are not
from_some : (ns : List ℤ) (n k i : ℕ) → k ≤ i → i < k + n → in_range ns i ≡ false → ((j : ℕ) → k ≤ j → j < i → in_range ns j ≡ true) → first_from ns n k ≡ Some (i + 1)
unfolding first_from
from_some ns zero k i l h out each = absurd (omega arith)
from_some ns (suc n) k i l h out each =
    ⊎_elim
    (λ same. rw (rw (← same) at out) (ap (λ j. Some (j + 1)) same))
    (λ other. rw (each k (omega arith) (omega arith)) (from_some ns n (k + 1) i (omega arith) (omega arith) out (λ j m. each j (omega arith))))
    (cases_eq k i)

-- there is one first line out of range at most
pub one_first : (ns : List ℤ) (r : Option ℕ) → FirstOut ns r → r ≡ first_out ns
unfolding first_out
one_first ns None each = sym (none_out ns each)
one_first ns (Some l) h =
    let line : l ≡ l - 1 + 1 = omega (arith, h.0) in
    ap Some line ∙ sym (from_some ns 22 0 (l - 1) (omega arith) (omega (arith, h.0, h.1)) h.2 (λ j m before. h.3 j (omega (arith, h.0))))

-- the line that a walk stops at is out of range, and those before it are not
some_from : (ns : List ℤ) (n k l : ℕ) → first_from ns n k ≡ Some l → (k + 1 ≤ l) × (l ≤ k + n) × (in_range ns (l - 1) ≡ false) × ((j : ℕ) → k ≤ j → j + 1 < l → in_range ns j ≡ true)
unfolding first_from
some_from ns zero k l e = let n : ◌≡◌ {A = ℕ} 0 1 = cc in absurd (omega arith)
some_from ns (suc n) k l e =
    ⊎_elim
    (λ here.
    let h = some_from ns n (k + 1) l (sym (cond-true _ _ _ here) ∙ e) in
    (omega (arith, h.0), omega (arith, h.1), h.2, λ j from before. ⊎_elim (λ same. ap (in_range ns) (sym same) ∙ here) (λ other. h.3 j (omega arith) before) (cases_eq k j)))
    (λ out.
    let s : Some (k + 1) ≡ Some l = sym (cond-false _ _ _ out) ∙ e in
    let same : k + 1 ≡ l = cc in
    let place : l - 1 ≡ k = omega arith in
    (omega arith, omega arith, ap (in_range ns) place ∙ out, λ j from before. absurd (omega arith)))
    (cases_Bool (in_range ns k))

pub is_first : (ns : List ℤ) (r : Option ℕ) → r ≡ first_out ns → FirstOut ns r
unfolding first_out
is_first ns None e = all_in ns (sym e)
is_first ns (Some l) e = let h = some_from ns 22 0 l (sym e) in (omega (arith, h.0), omega (arith, h.1), h.2, λ k before. h.3 k (omega arith) before)

-- what a test of a number that is there says
pub range_told : (ns : List ℤ) (k : ℕ) (b : Bool) → k < 22 → k < length ns → b ≡ (stands ns k && in_range ns k) → b ≡ in_range ns k
range_told ns k b few there e = e ∙ ap (λ s. s && in_range ns k) (and_from _ _ (lt-ltb k 22 few) (lt-ltb k (length ns) there))
