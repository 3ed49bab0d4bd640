-- What a writer into a lent buffer leaves.
use Rattle.std.specs.Prelude.{◌≡◌, ℕ, ◌+◌, ◌<◌, ◌≤◌, List, ◌++◌, length, take, drop, Some, None, Option}

-- the bytes stand at the place `from`, which they move on to `to`, and the rest is as it was
pub record Puts (old : List ℕ) (from : ℕ) (bytes : List ℕ) (to : ℕ) (new : List ℕ) : Type 0 where
  pub place : to ≡ from + length bytes
  pub after : new ≡ take from old ++ (bytes ++ drop (from + length bytes) old)

-- the bytes were put there if they fit, and then r is where they end; otherwise the buffer is as it was
abbrev pub PutsIfFit : List ℕ → ℕ → List ℕ → Option ℕ → List ℕ → Type 0
PutsIfFit old from bytes (Some to) new = (from + length bytes ≤ length old) × Puts old from bytes to new
PutsIfFit old from bytes None new = (length old < from + length bytes) × (new ≡ old)
