-- The table as its rule makes it: each entry adds the length of its month to the one before.
use Rattle.std.proofs.Common.{◌≡◌, ℕ, zero, suc, ◌+◌, ◌<◌, List, [], ◌∷◌, length, arith, get_or, sym, refl, ap, ◌∙◌, le_of_suc-le-suc, not-suc-le-zero, add-zero, add-suc, suc-add, zero-add}
use Rattle.calendar.specs.Calendar.{first_day, days_after}

-- n entries from the month i on, which begins on the day d
unfoldable pub entries : ℕ → ℕ → ℕ → List ℕ
entries zero i d = []
entries (suc n) i d = d ∷ entries n (suc i) (d + days_after i)

from : (n i d : ℕ) → d ≡ first_day i → (k : ℕ) → k < n → get_or (entries n i d) k 0 ≡ first_day (i + k)
unfolding entries first_day
from zero i d e k h = absurd (not-suc-le-zero h)
from (suc n) i d e zero h = e ∙ ap first_day (sym (add-zero i))
from (suc n) i d e (suc k) h =
    from n (suc i) (d + days_after i) (ap (λ m. m + days_after i) e) k (le_of_suc-le-suc h)
    ∙ ap first_day (suc-add i k ∙ sym (add-suc i k))

pub at : (n k : ℕ) → k < n → get_or (entries n 0 0) k 0 ≡ first_day k
unfolding first_day
at n k h = from n 0 0 refl k h ∙ ap first_day (zero-add k)

pub length_entries : (n i d : ℕ) → length (entries n i d) ≡ n
unfolding entries
length_entries zero i d = refl
length_entries (suc n) i d = grind (arith, length_entries n (suc i) (d + days_after i))
