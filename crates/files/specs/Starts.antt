-- What a run is started from. No contract can say what the files hold.
use Rattle.std.specs.Prelude.{ℕ, ◌≤◌, List, length, Err, Result}
use Rattle.settlement.specs.Runs.{Started}
use Rattle.settlement.specs.declared.refused.RunRefusal.{RunRefusal}
use Rattle.settlement.specs.declared.run.Run.{Run}
use Rattle.files.specs.declared.ended.Ended.{Ended}
use Rattle.files.specs.declared.ended.Ended.TheVariants.{Refused, Failed}

-- the run starts so from some two texts, of at most m and n bytes
pub record StartsFromFronts (m n : ℕ) (r : Result Run RunRefusal) : Type 0 where
  pub terms : List ℕ
  pub year : List ℕ
  pub terms_front : length terms ≤ m
  pub year_front : length year ≤ n
  pub started : Started terms year r

-- a refusal is that of such a start, and anything else is an error
abbrev pub EndsStart : ℕ → ℕ → Ended → Type 0
EndsStart m n (Refused refusal) = StartsFromFronts m n (Err refusal)
EndsStart m n (Failed error) = Unit {0}
