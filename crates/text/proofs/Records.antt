-- The good records of a text end in one place.
use Rattle.std.proofs.Common.{◌≡◌, ℕ, ◌+◌, ◌<◌, ◌≤◌, List, [], ◌∷◌, ◌++◌, length, take, set, sym, refl, ap, ◌∙◌, subst, append_assoc, append-nil, add-zero, arith, length-append, length-set}
use Rattle.std.proofs.lemmas.List.{length-take-le, take_more_set, take_all}
use Rattle.text.specs.Front.{Begins, NoneFirst}
use Rattle.text.specs.Files.{Format, texts_from, texts, GoodAfter, Upto, Next, NoneNext, BadNext, Stop, complete, out_of_form, out_of_limits, StopsAt, OneRecord}

abbrev good_of : {X : Type 0} → Stop X → List X
good_of (complete good rest) = good
good_of (out_of_form good rest) = good
good_of (out_of_limits good rest) = good

abbrev rest_of : {X : Type 0} → Stop X → List ℕ
rest_of (complete good rest) = rest
rest_of (out_of_form good rest) = rest
rest_of (out_of_limits good rest) = rest

module _ {X : Type 0} (f : Format X) where
  -- one record more at the end
  texts_push : (k : ℕ) (xs : List X) (x : X) → texts_from f k (xs ++ (x ∷ [])) ≡ texts_from f k xs ++ f.write (k + length xs) x
  texts_push k [] x = append-nil (f.write k x) ∙ ap (λ (j : ℕ). f.write j x) (sym (add-zero k))
  texts_push k (y ∷ xs) x =
      let place : k + 1 + length xs ≡ k + length (y ∷ xs) = omega arith in
      ap (λ l. f.write k y ++ l) (texts_push (k + 1) xs x) ∙ sym (append_assoc (f.write k y) (texts_from f (k + 1) xs) (f.write (k + 1 + length xs) x))
      ∙ ap (λ (j : ℕ). (f.write k y ++ texts_from f (k + 1) xs) ++ f.write j x) place

  good_push : (before xs : List X) (x : X) → GoodAfter f before xs → f.Fit (length (before ++ xs)) x → f.Good (before ++ xs) x → GoodAfter f before (xs ++ (x ∷ []))
  good_push before [] x g h k = let e : before ++ [] ≡ before = append-nil before in (subst (λ l. f.Fit (length l) x) e h, subst (λ l. f.Good l x) e k, tt)
  good_push before (y ∷ xs) x g h k =
      let e : before ++ (y ∷ xs) ≡ (before ++ (y ∷ [])) ++ xs = sym (append_assoc before (y ∷ []) xs) in
      (g.0, g.1, good_push (before ++ (y ∷ [])) xs x g.2 (subst (λ l. f.Fit (length l) x) e h) (subst (λ l. f.Good l x) e k))

  pub upto_none : (text : List ℕ) → Upto f text [] text
  upto_none text = record { front = refl; each = tt }

  -- the good record that comes next is one more
  pub upto_more : {text rest more : List ℕ} {good : List X} {x : X} → Upto f text good rest → Next f good x rest more → f.Good good x → Upto f text (good ++ (x ∷ [])) more
  upto_more {text} {rest} {more} {good} {x} u n g = record {
    front =
        u.front ∙ ap (λ l. texts f good ++ l) n.front ∙ sym (append_assoc (texts f good) (f.write (length good) x) more)
        ∙ ap (λ l. l ++ more) (ap (λ (j : ℕ). texts f good ++ f.write j x) (omega arith) ∙ sym (texts_push 0 good x));
    each = good_push [] good x u.each n.fit g;
  }

  -- the first i records of a list are the good ones before the rest
  pub record Sofar (text : List ℕ) (xs : List X) (i : ℕ) (rest : List ℕ) : Type 0 where
    pub count : i ≤ length xs
    pub upto : Upto f text (take i xs) rest

  pub sofar_none : (text : List ℕ) (xs : List X) → Sofar text xs 0 text
  sofar_none text xs = record { count = omega arith; upto = upto_none text }

  module _ {text : List ℕ} {xs : List X} {i : ℕ} {rest : List ℕ} (s : Sofar text xs i rest) where
    long : i ≡ length (take i xs)
    long = sym (length-take-le i xs s.count)

    -- the record that begins there is the next one
    next_of : {x : X} {more : List ℕ} → Begins (f.write i) (f.Fit i) x rest more → Next f (take i xs) x rest more
    next_of {x} {more} b = subst (λ (j : ℕ). Begins (f.write j) (f.Fit j) x rest more) long b

    pub sofar_more : {x : X} {more : List ℕ} → i < length xs → Begins (f.write i) (f.Fit i) x rest more → f.Good (take i xs) x → Sofar text (set xs i x) (i + 1) more
    sofar_more {x} {more} l b g = record {
      count = simp length-set (omega arith);
      upto = subst (λ good. Upto f text good more) (sym (take_more_set xs i x l)) (upto_more s.upto (next_of b) g);
    }

    module _ (n : ℕ) (asks : length xs ≡ n) where
      pub stops_complete : n ≤ i → StopsAt f n text (complete xs rest)
      stops_complete l = (subst (λ good. Upto f text good rest) (take_all i xs (omega arith)) s.upto, asks)

      pub stops_form : i < n → NoneFirst (Begins (f.write i) (f.Fit i)) rest → StopsAt f n text (out_of_form (take i xs) rest)
      stops_form l none = (s.upto, omega (arith, long), subst (λ (j : ℕ). NoneFirst (Begins (f.write j) (f.Fit j)) rest) long none)

      pub stops_limits : {x : X} {more : List ℕ} → i < n → Begins (f.write i) (f.Fit i) x rest more → (f.Good (take i xs) x → ⊥) → StopsAt f n text (out_of_limits (take i xs) rest)
      stops_limits {x} {more} l b barred = (s.upto, omega (arith, long), record { bad = x; more = more; next = next_of b; barred = barred })

  -- no good record comes after these, unless there are n already
  abbrev Ends : ℕ → List X → List ℕ → Type 0
  Ends n good rest = length good < n → (x : X) (more : List ℕ) → Next f good x rest more → f.Good good x → ⊥

  -- a good record t that stands after those before rules that out
  goes_on : (n k : ℕ) (before h : List X) (t : X) (r q : List ℕ) → k ≡ length before → length (before ++ (t ∷ h)) ≤ n → GoodAfter f before (t ∷ h)
      → Ends n (before ++ []) r → r ≡ texts_from f k (t ∷ h) ++ q → ⊥
  goes_on n k before h t r q p m b c e =
      let ends : Ends n before r = subst (λ l. Ends n l r) (append-nil before) c in
      ends (omega (arith, length-append before (t ∷ h))) t (texts_from f (k + 1) h ++ q)
      (record { fit = b.0; front = e ∙ append_assoc (f.write k t) (texts_from f (k + 1) h) q ∙ ap (λ (j : ℕ). f.write j t ++ (texts_from f (k + 1) h ++ q)) p })
      b.1

  module _ (one : OneRecord f) where
    -- after the same records, the good ones of a text are the same as far as they go
    one_good : (n k : ℕ) (before g h : List X) (r q : List ℕ) → k ≡ length before → length (before ++ g) ≤ n → length (before ++ h) ≤ n
        → GoodAfter f before g → GoodAfter f before h → Ends n (before ++ g) r → Ends n (before ++ h) q
        → texts_from f k g ++ r ≡ texts_from f k h ++ q → (g ≡ h) × (r ≡ q)
    one_good n k before [] [] r q p l m a b c d e = (refl, e)
    one_good n k before [] (t ∷ h) r q p l m a b c d e = absurd (goes_on n k before h t r q p m b c e)
    one_good n k before (s ∷ g) [] r q p l m a b c d e = absurd (goes_on n k before g s q r p l a d (sym e))
    one_good n k before (s ∷ g) (t ∷ h) r q p l m a b c d e =
        let first = one k s t (texts_from f (k + 1) g ++ r) (texts_from f (k + 1) h ++ q) (subst (λ (j : ℕ). f.Fit j s) (sym p) a.0) (subst (λ (j : ℕ). f.Fit j t) (sym p) b.0)
        (sym (append_assoc (f.write k s) (texts_from f (k + 1) g) r) ∙ e ∙ append_assoc (f.write k t) (texts_from f (k + 1) h) q) in
        let same : before ++ (t ∷ []) ≡ before ++ (s ∷ []) = ap (λ y. before ++ (y ∷ [])) (sym first.0) in
        let left : before ++ (s ∷ g) ≡ (before ++ (s ∷ [])) ++ g = sym (append_assoc before (s ∷ []) g) in
        let right : before ++ (t ∷ h) ≡ (before ++ (s ∷ [])) ++ h = sym (append_assoc before (t ∷ []) h) ∙ ap (λ l. l ++ h) same in
        let others = one_good n (k + 1) (before ++ (s ∷ [])) g h r q (omega (arith, length-append before (s ∷ [])))
        (subst (λ z. length z ≤ n) left l) (subst (λ z. length z ≤ n) right m)
        a.2 (subst (λ z. GoodAfter f z h) same b.2)
        (subst (λ z. Ends n z r) left c) (subst (λ z. Ends n z q) right d) first.1 in
        (λ i. first.0 i ∷ others.0 i, others.1)

    ends_out_of_limits : {n : ℕ} {good : List X} {rest : List ℕ} → BadNext f good rest → Ends n good rest
    ends_out_of_limits {n} {good} {rest} h less x more next allowed =
        h.barred (subst (λ y. f.Good good y) (one (length good) x h.bad more h.more next.fit h.next.fit (sym next.front ∙ h.next.front)).0 allowed)

    -- the same records and the same rest have one reason
    one_reason : (n : ℕ) (text : List ℕ) (a b : Stop X) → good_of a ≡ good_of b → rest_of a ≡ rest_of b → StopsAt f n text a → StopsAt f n text b → a ≡ b
    one_reason n text (complete g r) (complete h q) e d x y = λ i. complete (e i) (d i)
    one_reason n text (complete g r) (out_of_form h q) e d x y = absurd (omega (arith, ap length e, x.1, y.1))
    one_reason n text (complete g r) (out_of_limits h q) e d x y = absurd (omega (arith, ap length e, x.1, y.1))
    one_reason n text (out_of_form g r) (complete h q) e d x y = absurd (omega (arith, ap length e, x.1, y.1))
    one_reason n text (out_of_form g r) (out_of_form h q) e d x y = λ i. out_of_form (e i) (d i)
    one_reason n text (out_of_form g r) (out_of_limits h q) e d x y =
        let none : NoneNext f h q = subst (λ z. NoneNext f h z) d (subst (λ z. NoneNext f z r) e x.2) in
        absurd (none y.2.bad y.2.more y.2.next)
    one_reason n text (out_of_limits g r) (complete h q) e d x y = absurd (omega (arith, ap length e, x.1, y.1))
    one_reason n text (out_of_limits g r) (out_of_form h q) e d x y =
        let none : NoneNext f g r = subst (λ z. NoneNext f g z) (sym d) (subst (λ z. NoneNext f z q) (sym e) y.2) in
        absurd (none x.2.bad x.2.more x.2.next)
    one_reason n text (out_of_limits g r) (out_of_limits h q) e d x y = λ i. out_of_limits (e i) (d i)

    stop_upto : (n : ℕ) (text : List ℕ) (a : Stop X) → StopsAt f n text a → Upto f text (good_of a) (rest_of a) × (length (good_of a) ≤ n) × Ends n (good_of a) (rest_of a)
    stop_upto n text (complete g r) x = (x.0, omega (arith, x.1), λ less. absurd (omega (arith, x.1)))
    stop_upto n text (out_of_form g r) x = (x.0, omega (arith, x.1), λ less y more next allowed. x.2 y more next)
    stop_upto n text (out_of_limits g r) x = (x.0, omega (arith, x.1), ends_out_of_limits x.2)

    -- the good records of a text, of n that are asked for, end in one place and for one reason
    pub one_stop : (n : ℕ) (text : List ℕ) (a b : Stop X) → StopsAt f n text a → StopsAt f n text b → a ≡ b
    one_stop n text a b x y =
        let u = stop_upto n text a x in
        let v = stop_upto n text b y in
        let same = one_good n 0 [] (good_of a) (good_of b) (rest_of a) (rest_of b) refl u.1 v.1 u.0.each v.0.each u.2 v.2 (sym u.0.front ∙ v.0.front) in
        one_reason n text a b same.0 same.1 x y
