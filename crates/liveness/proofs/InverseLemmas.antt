-- The rows in which a number stands.
use Rattle.std.proofs.Common.{◌≡◌, ℕ, zero, suc, ◌+◌, ◌<◌, ◌⊎◌, Bool, true, false, List, [], ◌∷◌, ◌++◌, length, Some, refl, sym, ap, ◌∙◌, subst, inl, inr, ⊎_elim, arith, get_or, take, drop, cond}
use Rattle.std.specs.Prelude.{slice_get}
use Rattle.std.proofs.lemmas.Option.{slice_get_within}
use Rattle.std.proofs.lemmas.List.{length-take-le, get_or_past}
use Rattle.std.proofs.Math.Seq.{take-append_seam}
use Rattle.liveness.specs.Paths.{is_among}
use Rattle.liveness.specs.Rising.{AreAtMost, with_number, rows_with}
use Rattle.liveness.proofs.RisingLemmas.{none_among, lt_tells}

pub take_next : {A : Type 0} (xs : List A) (i : ℕ) (x : A) → slice_get xs i ≡ Some x → take (suc i) xs ≡ take i xs ++ x ∷ []
take_next [] i x e = cc
take_next (y ∷ xs) zero x e = let f : y ≡ x = cc in ap (λ z. z ∷ []) f
take_next (y ∷ xs) (suc i) x e = ap (λ z. y ∷ z) (take_next xs i x e)

pub either : (b : Bool) → (b ≡ true) ⊎ (b ≡ false)
either true = inl refl
either false = inr refl

-- a row more
rows_with_more : (rows : List (List ℕ)) (row : List ℕ) (n k : ℕ) → rows_with n (rows ++ row ∷ []) k ≡ cond (is_among row k) (rows_with n rows k ++ (n + length rows) ∷ []) (rows_with n rows k)
rows_with_more [] row n k =
    let e : n ≡ n + 0 = omega arith in
    ap (λ z. cond (is_among row k) (z ∷ []) []) e
rows_with_more (first ∷ rows) row n k =
    let e : suc n + length rows ≡ n + suc (length rows) = omega arith in
    let more : rows_with (suc n) (rows ++ row ∷ []) k ≡ cond (is_among row k) (rows_with (suc n) rows k ++ (n + suc (length rows)) ∷ []) (rows_with (suc n) rows k) =
    rows_with_more rows row (suc n) k ∙ ap (λ z. cond (is_among row k) (rows_with (suc n) rows k ++ z ∷ []) (rows_with (suc n) rows k)) e in
    ap (λ z. cond (is_among first k) (n ∷ z) z) more ∙ join (is_among first k) (is_among row k)
  where
    join : (a b : Bool) → cond a (n ∷ cond b (rows_with (suc n) rows k ++ (n + suc (length rows)) ∷ []) (rows_with (suc n) rows k)) (cond b (rows_with (suc n) rows k ++ (n + suc (length rows)) ∷ []) (rows_with (suc n) rows k)) ≡ cond b (cond a (n ∷ rows_with (suc n) rows k) (rows_with (suc n) rows k) ++ (n + suc (length rows)) ∷ []) (cond a (n ∷ rows_with (suc n) rows k) (rows_with (suc n) rows k))
    join true true = refl
    join true false = refl
    join false true = refl
    join false false = refl

pub rows_with_below : (rows : List (List ℕ)) (n k i : ℕ) → i < length (rows_with n rows k) → get_or (rows_with n rows k) i 0 < n + length rows
rows_with_below [] n k i lt = absurd (omega (arith, lt))
rows_with_below (row ∷ rows) n k i lt =
    below n (n + suc (length rows)) (omega arith) (rows_with (suc n) rows k) (λ j le. let h = rows_with_below rows (suc n) k j le in omega (arith, h)) (is_among row k) i lt
  where
    below : (n m : ℕ) → n < m → (xs : List ℕ) → ((j : ℕ) → j < length xs → get_or xs j 0 < m) → (b : Bool) (i : ℕ) → i < length (cond b (n ∷ xs) xs) → get_or (cond b (n ∷ xs) xs) i 0 < m
    below n m lt xs h true zero within = lt
    below n m lt xs h true (suc i) within = h i (omega (arith, within))
    below n m lt xs h false i within = h i within

with_new : (xs : List ℕ) (n : ℕ) → ((i : ℕ) → i < length xs → get_or xs i 0 < n) → with_number xs n ≡ xs ++ n ∷ []
with_new xs n h =
    ap (λ z. cond z xs (xs ++ n ∷ [])) (none_among xs n (λ i lt same. let g = h i lt in absurd (omega (arith, g, same))))

module _ (rows : List (List ℕ)) (i : ℕ) (row : List ℕ) (is : slice_get rows i ≡ Some row) where
  size_here : length (take i rows) ≡ i
  size_here =
      let lt = slice_get_within rows i row is in
      length-take-le i rows (omega (arith, lt))

  -- the numbers of rows so far are below the next one
  pub turned_below : (old : List ℕ) (k : ℕ) → old ≡ rows_with 0 (take i rows) k → (j : ℕ) → j < length old → get_or old j 0 < i
  turned_below old k e j lt =
      let h = rows_with_below (take i rows) 0 k j (subst (λ z. j < length z) e lt) in
      let g : get_or old j 0 ≡ get_or (rows_with 0 (take i rows) k) j 0 = ap (λ z. get_or z j 0) e in
      omega (arith, h, g, size_here)

  pub turn_more : (old : List ℕ) (k : ℕ) → old ≡ rows_with 0 (take i rows) k → cond (is_among row k) (with_number old i) old ≡ rows_with 0 (take (i + 1) rows) k
  turn_more old k e =
      let next : i + 1 ≡ suc i = omega arith in
      let at : 0 + length (take i rows) ≡ i = omega (arith, size_here) in
      ap (λ z. cond (is_among row k) z old) (with_new old i (turned_below old k e))
      ∙ ap (λ z. cond (is_among row k) (z ++ i ∷ []) z) e
      ∙ ap (λ z. cond (is_among row k) (rows_with 0 (take i rows) k ++ z ∷ []) (rows_with 0 (take i rows) k)) (sym at)
      ∙ sym (rows_with_more (take i rows) row 0 k)
      ∙ ap (λ z. rows_with 0 z k) (sym (take_next rows i row is))
      ∙ ap (λ z. rows_with 0 (take z rows) k) (sym next)

pub turned_most : (n i : ℕ) (rows inverse : List (List ℕ)) (row : List ℕ) → slice_get rows i ≡ Some row → length inverse ≡ n → ((k : ℕ) → k < n → get_or inverse k [] ≡ rows_with 0 (take i rows) k) → AreAtMost i inverse
turned_most n i rows inverse row is size turned t j lt =
    ⊎_elim
    (λ a. let h = turned_below rows i row is (get_or inverse t []) t (turned t a.1) j lt in omega (arith, h))
    (λ a.
    let none = get_or_past inverse t [] (omega (arith, a.1, size)) in
    let nothing : j < 0 = subst (λ z. j < length z) none lt in
    absurd (omega (arith, nothing)))
    (lt_tells t n)

pub whole : {A : Type 0} (n : ℕ) (xs ys : List A) → length xs ≡ n → take n (xs ++ drop (length xs) ys) ≡ xs
whole n xs ys e = ap (λ z. take z (xs ++ drop (length xs) ys)) (sym e) ∙ take-append_seam xs (drop (length xs) ys)
