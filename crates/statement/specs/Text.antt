-- The text of a statement line: seven decimal numbers with single blanks between them, and a line end.
use Rattle.std.specs.Prelude.{◌≡◌, ℕ, ◌<◌, ◌≤◌, List, [], ◌∷◌, ◌++◌, length, drop, ℤ, Some, None, decimal, Option}
use Rattle.std.specs.List.{flat_map}
use Rattle.std.specs.Fmt.{signed_decimal}
use Rattle.rules.specs.declared.assessment.PerRule.{PerRule}
use Rattle.statement.specs.declared.statement.Statement.{Statement}

-- a number and a blank
abbrev pub field : ℕ → List ℕ
field n = decimal n ++ 32 ∷ []

-- the last number and the line end
abbrev pub last : ℤ → List ℕ
last z = signed_decimal z ++ 10 ∷ []

-- month, amount, the three penalties, charged and net
abbrev pub text_of : ℕ → ℕ → PerRule ℕ → ℕ → ℤ → List ℕ
text_of month amount penalties charged net =
    flat_map field (month ∷ amount ∷ penalties.outage ∷ penalties.market ∷ penalties.dispatch ∷ charged ∷ []) ++ last net

abbrev pub statement_text : Statement → List ℕ
statement_text s = text_of s.month s.amount s.penalties s.charged s.net

-- a buffer of 128 bytes or more begins with the text after the call, and the rest is as it was; a shorter one is left alone
abbrev pub Printed : List ℕ → List ℕ → Option ℕ → List ℕ → Type 0
Printed text old (Some n) new = (128 ≤ length old) × (n ≤ 128) × (n ≡ length text) × (new ≡ text ++ drop n old)
Printed text old None new = (length old < 128) × (new ≡ old)
