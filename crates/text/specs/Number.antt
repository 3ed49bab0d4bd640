-- A number in a text.
use Rattle.std.specs.Prelude.{◌≡◌, ℕ, ◌^◌, ◌<◌, List, [], ◌∷◌, ◌++◌, decimal}
use Rattle.std.specs.Int.{IsInRange}

-- no digit comes next
abbrev pub NoDigit : List ℕ → Type 0
NoDigit [] = Unit {0}
NoDigit (c ∷ cs) = IsInRange 48 57 c → ⊥

-- bs begins with a whole number of at most so many digits, of which it has one at least
pub record NumberFirst (most n : ℕ) (bs rest : List ℕ) : Type 0 where
  pub some : 0 < most
  pub short : n < 10 ^ most
  pub front : bs ≡ decimal n ++ rest
  pub whole : NoDigit rest

-- the same, and then the byte that ends it, before the rest
abbrev pub EndedFirst : ℕ → ℕ → ℕ → List ℕ → List ℕ → Type 0
EndedFirst most end n bs rest = NumberFirst most n bs (end ∷ rest)

-- a number of at most so many digits
abbrev pub Short : ℕ → ℕ → Type 0
Short most n = n < 10 ^ most

-- a number, and the byte that ends it
abbrev pub ended : ℕ → ℕ → List ℕ
ended b n = decimal n ++ (b ∷ [])
