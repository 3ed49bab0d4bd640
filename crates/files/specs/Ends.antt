-- How a run that ended so ends its process.
use Rattle.std.specs.Prelude.{◌≡◌, Bool, true, false, ◌⊎◌, Ok, Err, Result, IsOkAnd, IsTrue}
use Rattle.std.specs.Result.{IsErrAnd}
use Rattle.std.specs.Process.{exit_status}
use Rattle.std.specs.declared.process.ExitCode.{ExitCode}
use Rattle.anyhow.specs.declared.error.Error.{Error}
use Rattle.files.specs.declared.ended.Ended.{Ended}
use Rattle.files.specs.declared.ended.Ended.TheVariants.{Refused, Failed}

-- with status 0 where it came to its end, with 1 after a refusal, and else with the error that is told
abbrev pub EndsProcess : Result (Unit {0}) Ended → Result ExitCode Error → Type 0
EndsProcess (Ok u) r = IsOkAnd r (λ code. exit_status code ≡ 0)
EndsProcess (Err (Refused refusal)) r = IsOkAnd r (λ code. exit_status code ≡ 1)
EndsProcess (Err (Failed error)) r = r ≡ Err error

-- an error is told on standard error; a refusal by its line
abbrev pub is_error : Ended → Bool
is_error (Refused refusal) = false
is_error (Failed error) = true

-- the run ends as it did, but a refusal that cannot be told is an error
abbrev pub TellsOrFails : Result (Unit {0}) Ended → Result (Unit {0}) Ended → Type 0
TellsOrFails (Ok u) r = r ≡ Ok u
TellsOrFails (Err (Refused refusal)) r = (r ≡ Err (Refused refusal)) ⊎ IsErrAnd r (λ ended. IsTrue (is_error ended))
TellsOrFails (Err (Failed error)) r = r ≡ Err (Failed error)
