-- One write after another.
use Rattle.std.proofs.Common.{◌≡◌, ℕ, ◌+◌, ◌<◌, ◌≤◌, List, [], ◌∷◌, ◌++◌, length, take, drop, set, sym, ap, ◌∙◌, append_assoc, add-one, arith, length-append, length-take-le, drop-drop, take_at, drop_at}
use lib.Seq.{set_split}
use Rattle.std.proofs.lemmas.List.{take-append-drop}
use Rattle.text.specs.Puts.{Puts}

-- what a second write makes of the buffer b that the first left of a
second : (a b xs ys : List ℕ) (i j : ℕ) → i + length xs ≤ length a → j ≡ i + length xs → b ≡ take i a ++ (xs ++ drop j a)
    → take j b ++ (ys ++ drop (j + length ys) b) ≡ take i a ++ ((xs ++ ys) ++ drop (j + length ys) a)
second a b xs ys i j h e f =
    let n : length (take i a ++ xs) ≡ j = length-append (take i a) xs ∙ omega (arith, length-take-le i a (omega arith)) in
    let g : b ≡ (take i a ++ xs) ++ drop j a = f ∙ sym (append_assoc (take i a) xs (drop j a)) in
    let front : take j b ≡ take i a ++ xs = ap (take j) g ∙ take_at (take i a ++ xs) (drop j a) j n in
    let back : drop j b ≡ drop j a = ap (drop j) g ∙ drop_at (take i a ++ xs) (drop j a) j n in
    let rest : drop (j + length ys) b ≡ drop (j + length ys) a =
    sym (drop-drop (length ys) j b) ∙ ap (drop (length ys)) back ∙ drop-drop (length ys) j a in
    rw (front, rest) (simp append_assoc)

pub joins : {a b c xs ys : List ℕ} {i j k : ℕ} → j ≤ length a → Puts a i xs j b → Puts b j ys k c → Puts a i (xs ++ ys) k c
joins {a} {b} {c} {xs} {ys} {i} {j} {k} h p q =
    let n : j + length ys ≡ i + length (xs ++ ys) = omega (arith, length-append xs ys, p.place) in
    let f : b ≡ take i a ++ (xs ++ drop j a) = rw p.place p.after in
    record {
      place = q.place ∙ n;
      after = q.after ∙ second a b xs ys i j (omega (arith, p.place)) p.place f ∙ ap (λ (m : ℕ). take i a ++ ((xs ++ ys) ++ drop m a)) n;
    }

-- the same bytes, written otherwise
pub spelt : {a b xs ys : List ℕ} {i j : ℕ} → xs ≡ ys → Puts a i xs j b → Puts a i ys j b
spelt e p = rw e at p

-- a write at the start
pub whole : {old new xs : List ℕ} {n : ℕ} → Puts old 0 xs n new → (n ≡ length xs) × (new ≡ xs ++ drop n old)
whole {old} {new} {xs} {n} p = let e : n ≡ length xs = omega (arith, p.place) in (e, rw p.place p.after)

pub one : (old : List ℕ) (i x : ℕ) → i < length old → Puts old i (x ∷ []) (i + 1) (set old i x)
one old i x h = record { place = omega arith; after = set_split old i x h ∙ rw (add-one i) }

pub nothing : (old : List ℕ) (i : ℕ) → Puts old i [] i old
nothing old i = let e : i + 0 ≡ i = omega arith in record { place = omega arith; after = sym (take-append-drop i old) ∙ ap (λ k. take i old ++ drop k old) (sym e) }

-- the same place and the same buffer by other names
pub named : {old new new' xs : List ℕ} {i j j' : ℕ} → j' ≡ j → new' ≡ new → Puts old i xs j new → Puts old i xs j' new'
named e d p = rw (e, d) p
