-- Files of records: the texts of the records one after the other.
use Rattle.std.specs.Prelude.{◌≡◌, ℕ, ◌+◌, ◌<◌, List, [], ◌∷◌, ◌++◌, length}
use Rattle.text.specs.Front.{Begins, NoneFirst}

-- How records X stand in a file. Places count from 0.
pub record Format (X : Type 0) : Type 1 where
  -- the text of a record at a place
  pub write : ℕ → X → List ℕ
  -- the record can be written at the place: its form
  pub Fit : ℕ → X → Type 0
  -- the record is allowed after the records before it: its limits
  pub Good : List X → X → Type 0

-- the texts of the records, the first of them at the place k
abbrev pub texts_from : {X : Type 0} → Format X → ℕ → List X → List ℕ
texts_from f k [] = []
texts_from f k (x ∷ xs) = f.write k x ++ texts_from f (k + 1) xs

abbrev pub texts : {X : Type 0} → Format X → List X → List ℕ
texts f xs = texts_from f 0 xs

-- each record is in form at its place and allowed after those before it
abbrev pub GoodAfter : {X : Type 0} → Format X → List X → List X → Type 0
GoodAfter f before [] = Unit {0}
GoodAfter f before (x ∷ xs) = f.Fit (length before) x × f.Good before x × GoodAfter f (before ++ (x ∷ [])) xs

-- the text is that of good records, and then the rest
pub record Upto {X : Type 0} (f : Format X) (text : List ℕ) (good : List X) (rest : List ℕ) : Type 0 where
  pub front : text ≡ texts f good ++ rest
  pub each : GoodAfter f [] good

-- x comes next after the records before
abbrev pub Next : {X : Type 0} → Format X → List X → X → List ℕ → List ℕ → Type 0
Next f before x rest more = Begins (f.write (length before)) (f.Fit (length before)) x rest more

-- no record in form comes next
abbrev pub NoneNext : {X : Type 0} → Format X → List X → List ℕ → Type 0
NoneNext f before = NoneFirst (Next f before)

-- a record in form comes next that is not allowed there
pub record BadNext {X : Type 0} (f : Format X) (before : List X) (rest : List ℕ) : Type 0 where
  pub bad : X
  pub more : List ℕ
  pub next : Next f before bad rest more
  pub barred : f.Good before bad → ⊥

-- where the good records of a text end: these, and the rest after them
pub data Stop (X : Type 0) : Type 0 where
  -- there are as many as were asked for
  complete : List X → List ℕ → Stop X
  -- no record in form comes next
  out_of_form : List X → List ℕ → Stop X
  -- a record comes next that is not allowed there
  out_of_limits : List X → List ℕ → Stop X

-- of n records that are asked for, the good ones end there
abbrev pub StopsAt : {X : Type 0} → Format X → ℕ → List ℕ → Stop X → Type 0
StopsAt f n text (complete good rest) = Upto f text good rest × (length good ≡ n)
StopsAt f n text (out_of_form good rest) = Upto f text good rest × (length good < n) × NoneNext f good rest
StopsAt f n text (out_of_limits good rest) = Upto f text good rest × (length good < n) × BadNext f good rest

-- a text begins with one record at most
abbrev pub OneRecord : {X : Type 0} → Format X → Type 0
OneRecord f = (k : ℕ) (x y : _) (us rest : List ℕ) → f.Fit k x → f.Fit k y → f.write k x ++ us ≡ f.write k y ++ rest → (x ≡ y) × (us ≡ rest)
