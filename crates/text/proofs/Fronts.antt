-- The front of a text decides where its good records end, if it has room for them.
use Rattle.std.proofs.Common.{◌≡◌, ℕ, ◌+◌, ◌*◌, ◌<◌, ◌≤◌, List, [], ◌∷◌, ◌++◌, length, take, drop, sym, refl, ap, ◌∙◌, subst, append_assoc, mul-le-mul_left, mul-suc, arith, length-append}
use native.Mathlib.Decide.{dec_le}
use Rattle.std.proofs.lemmas.List.{take_all, take-append-le, take-append-drop, take_at, length-take-le}
use Rattle.text.specs.Files.{Format, texts_from, texts, GoodAfter, Upto, Stop, complete, out_of_form, out_of_limits, StopsAt}

-- what begins a text, and is no longer than a front of it, begins the front
begins_front : (w m front more : List ℕ) → length w ≤ length front → front ++ more ≡ w ++ m → front ≡ w ++ drop (length w) front
begins_front w m front more h e =
    let same : take (length w) front ≡ w = sym (take-append-le (length w) front more h) ∙ ap (take (length w)) e ∙ take_at w m (length w) refl in
    sym (take-append-drop (length w) front) ∙ ap (λ l. l ++ drop (length w) front) same

-- what passes from a front of so many bytes on to every longer text holds of a text if it holds of its first bytes
pub by_front : (P : List ℕ → Type 0) (m : ℕ) → ((front more : List ℕ) → length front ≡ m → P front → P (front ++ more)) → (text : List ℕ) → P (take m text) → P text
by_front P m longer text h = go (dec_le (length text) m)
  where
    go : Dec (length text ≤ m) → P text
    go (yes all) = subst P (take_all m text all) h
    go (no over) = subst P (take-append-drop m text) (longer (take m text) (drop m text) (length-take-le m text (omega arith)) h)

-- the same records, with more of the text after them
abbrev pub further : {X : Type 0} → List ℕ → Stop X → Stop X
further more (complete good rest) = complete good (rest ++ more)
further more (out_of_form good rest) = out_of_form good (rest ++ more)
further more (out_of_limits good rest) = out_of_limits good (rest ++ more)

module _ {X : Type 0} (f : Format X) (n most : ℕ) (short : (k : ℕ) (x : X) → k < n → f.Fit k x → length (f.write k x) ≤ most) where
  texts_short_from : (k : ℕ) (before xs : List X) → k ≡ length before → k + length xs ≤ n → GoodAfter f before xs → length (texts_from f k xs) ≤ most * length xs
  texts_short_from k before [] p l g = omega arith
  texts_short_from k before (x ∷ xs) p l g =
      let here = short k x (omega arith) (subst (λ (j : ℕ). f.Fit j x) (sym p) g.0) in
      let others = texts_short_from (k + 1) (before ++ (x ∷ [])) xs (omega (arith, length-append before (x ∷ []))) (omega arith) g.2 in
      omega (arith, here, others, length-append (f.write k x) (texts_from f (k + 1) xs), mul-suc most (length xs))

  pub texts_short : (xs : List X) → length xs ≤ n → GoodAfter f [] xs → length (texts f xs) ≤ most * length xs
  texts_short xs l g = texts_short_from 0 [] xs refl (omega arith) g

  module _ (front more : List ℕ) (room : most * n ≤ length front) where
    upto_further : (good : List X) (rest : List ℕ) → Upto f front good rest → Upto f (front ++ more) good (rest ++ more)
    upto_further good rest u = record { front = ap (λ l. l ++ more) u.front ∙ append_assoc (texts f good) rest more; each = u.each }

    -- one more record would be within the front
    room_left : (good : List X) (rest : List ℕ) → Upto f front good rest → length good < n → most ≤ length rest
    room_left good rest u less =
        omega (arith, room, ap length u.front, length-append (texts f good) rest, texts_short good (omega arith) u.each, mul-suc most (length good), mul-le-mul_left most less)

    pub front_stops : (s : Stop X) → StopsAt f n front s → StopsAt f n (front ++ more) (further more s)
    front_stops (complete good rest) h = (upto_further good rest h.0, h.1)
    front_stops (out_of_form good rest) h = (
      upto_further good rest h.0,
      h.1,
      λ x m next.
          let fits = short (length good) x h.1 next.fit in
          let left = room_left good rest h.0 h.1 in
          h.2 x (drop (length (f.write (length good) x)) rest) (record { fit = next.fit; front = begins_front (f.write (length good) x) m rest more (omega (arith, fits, left)) next.front }),
    )
    front_stops (out_of_limits good rest) h = (
      upto_further good rest h.0,
      h.1,
      record {
        bad = h.2.bad;
        more = h.2.more ++ more;
        next = record { fit = h.2.next.fit; front = ap (λ l. l ++ more) h.2.next.front ∙ append_assoc (f.write (length good) h.2.bad) h.2.more more };
        barred = h.2.barred;
      },
    )
