-- The 22 numbers of the terms, and their ranges.
use Rattle.std.specs.Prelude.{◌≡◌, ℕ, zero, suc, ◌+◌, ◌-◌, ◌<◌, ◌≤◌, Bool, true, false, cond, ◌&&◌, List, [], ◌∷◌, length, ℤ, pos, negsuc, ◌*ℤ◌, Some, None, Option, ◌==◌, int_le, nat_lt, slice_index_or}
use Rattle.terms.specs.declared.terms.Terms.{Terms}

-- the numbers in the order of a file of terms
unfoldable pub numbers : Terms → List ℤ
numbers t =
    pos t.plant ∷ pos t.year ∷ pos t.capacity ∷ pos t.assessed ∷ pos t.hours
    ∷ pos t.capital ∷ pos t.upkeep ∷ pos t.returns ∷ pos t.method
    ∷ pos t.choices.capital ∷ pos t.choices.upkeep ∷ pos t.choices.returns ∷ pos t.choices.rates
    ∷ pos t.deflator.bid ∷ pos t.deflator.settled ∷ pos t.corporate.bid ∷ pos t.corporate.settled
    ∷ pos t.consumer.bid ∷ pos t.consumer.settled ∷ t.rates.bid ∷ t.rates.settled ∷ pos t.reduction ∷ []

-- the lowest and the highest number of each line
abbrev pub ranges : List (ℤ × ℤ)
ranges =
    (pos 1, pos 999999) ∷ (pos 2025, pos 2074) ∷ (pos 1, pos 2000000) ∷ (pos 1, pos 2000000) ∷ (pos 1, pos 1000)
    ∷ (pos 0, pos 200000) ∷ (pos 0, pos 200000) ∷ (pos 0, pos 200000) ∷ (pos 1, pos 2)
    ∷ (pos 0, pos 1) ∷ (pos 0, pos 1) ∷ (pos 0, pos 1) ∷ (pos 0, pos 1)
    ∷ (pos 100, pos 9999) ∷ (pos 100, pos 9999) ∷ (pos 100, pos 9999) ∷ (pos 100, pos 9999)
    ∷ (pos 100, pos 9999) ∷ (pos 100, pos 9999) ∷ (negsuc 999, pos 15000) ∷ (negsuc 999, pos 15000) ∷ (pos 0, pos 2000000000000) ∷ []

abbrev pub within : ℤ × ℤ → ℤ → Bool
within r n = int_le r.0 n && int_le n r.1

-- the number at the place k, counted from 0, is in its range; the assessed capacity is a tenth of the contract capacity at least
abbrev pub in_range : List ℤ → ℕ → Bool
in_range ns k =
    within (slice_index_or ranges k (pos 0, pos 0)) (slice_index_or ns k (pos 0))
    && cond (k == 3) (int_le (slice_index_or ns 2 (pos 0)) (pos 10 *ℤ slice_index_or ns 3 (pos 0))) true

-- there is a number at the place k, and terms have one there
abbrev pub stands : List ℤ → ℕ → Bool
stands ns k = nat_lt k 22 && nat_lt k (length ns)

-- of the lines from the place k on, n in number, the first whose number is out of range; lines count from 1
unfoldable pub first_from : List ℤ → ℕ → ℕ → Option ℕ
first_from ns zero k = None
first_from ns (suc n) k = cond (in_range ns k) (first_from ns n (k + 1)) (Some (k + 1))

unfoldable pub first_out : List ℤ → Option ℕ
first_out ns = first_from ns 22 0

-- r is the first line whose number is out of range, if any is
abbrev pub FirstOut : List ℤ → Option ℕ → Type 0
FirstOut ns None = (k : ℕ) → k < 22 → in_range ns k ≡ true
FirstOut ns (Some line) = (1 ≤ line) × (line ≤ 22) × (in_range ns (line - 1) ≡ false) × ((k : ℕ) → k + 1 < line → in_range ns k ≡ true)
