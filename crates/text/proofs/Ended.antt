-- A number and the byte that ends it, which is no digit: one of them at most begins a text.
use Rattle.std.proofs.Common.{◌≡◌, ℕ, ◌<◌, ◌≤◌, List, [], ◌∷◌, decimal, sym, ◌∙◌, append_assoc}
use Rattle.std.specs.Int.{IsInRange}
use Rattle.text.specs.Front.{Begins, NoneFirst}
use Rattle.text.specs.Number.{EndedFirst, Short, ended}
use Rattle.text.proofs.Runs.{one_number}

module _ (most b : ℕ) (some : 0 < most) (few : most ≤ 19) (no_digit : IsInRange 48 57 b → ⊥) where
  first_of : (n : ℕ) (bs rest : List ℕ) → Begins (ended b) (Short most) n bs rest → EndedFirst most b n bs rest
  first_of n bs rest f = record { some = some; short = f.fit; front = f.front ∙ append_assoc (decimal n) (b ∷ []) rest; whole = no_digit }

  pub ended_of : {n : ℕ} {bs rest : List ℕ} → EndedFirst most b n bs rest → Begins (ended b) (Short most) n bs rest
  ended_of {n} {bs} {rest} f = record { fit = f.short; front = f.front ∙ sym (append_assoc (decimal n) (b ∷ []) rest) }

  pub none_ended : {bs : List ℕ} → NoneFirst (EndedFirst most b) bs → NoneFirst (Begins (ended b) (Short most)) bs
  none_ended {bs} none n rest f = none n rest (first_of n bs rest f)

  pub one_ended : (m n : ℕ) (bs us rest : List ℕ) → Begins (ended b) (Short most) m bs us → Begins (ended b) (Short most) n bs rest → (m ≡ n) × (us ≡ rest)
  one_ended m n bs us rest f g =
      let p = one_number most m n bs (b ∷ us) (b ∷ rest) few (first_of m bs us f) (first_of n bs rest g) in
      let e : b ∷ us ≡ b ∷ rest = p.1 in
      (p.0, (cc))
