-- What begins a text.
use Rattle.std.specs.Prelude.{◌≡◌, ℕ, List, ◌++◌, Option, MatchOption}
use Rattle.std.specs.Borrow.{Bor}

-- `First x bs rest` says that bs begins with x, and that rest comes after it. Here bs begins with nothing of the kind.
abbrev pub NoneFirst : {X : Type 0} → (X → List ℕ → List ℕ → Type 0) → List ℕ → Type 0
NoneFirst First bs = (x : _) (rest : List ℕ) → First x bs rest → ⊥

-- r is what comes first in the text, and the rest, or None where nothing of the kind comes first
abbrev pub Reads : {X : Type 0} → (X → List ℕ → List ℕ → Type 0) → List ℕ → Option (X × Bor (List ℕ)) → Type 0
Reads First text r = MatchOption r (NoneFirst First text) (λ x. First x.0 text x.1.now)

-- bs begins with what is written of x, and x is fit to be written
pub record Begins {X : Type 0} (write : X → List ℕ) (Fit : X → Type 0) (x : X) (bs rest : List ℕ) : Type 0 where
  pub fit : Fit x
  pub front : bs ≡ write x ++ rest
