-- The last write of a register before a place of a block.
use Rattle.std.proofs.Common.{◌≡◌, ℕ, zero, suc, ◌+◌, ◌-◌, ◌<◌, ◌≤◌, ◌⊎◌, Bool, true, false, List, [], ◌∷◌, ◌++◌, length, map, Option, Some, None, refl, sym, ap, ◌∙◌, inl, inr, ⊎_elim, arith, get_or, drop, take, cond, min, append_assoc}
use Rattle.std.specs.Prelude.{slice_get, not, ◌||◌, nat_lt}
use Rattle.std.proofs.lemmas.List.{length-append, length-drop, length-take-le, take-append-le, length-map, map-append}
use Rattle.std.proofs.lemmas.Option.{same_Some}
use Rattle.ir_core.specs.declared.code.Last.{Last}
use Rattle.liveness.specs.declared.step.Step.{Step}
use Rattle.liveness.specs.declared.step.Steps.{Steps}
use Rattle.liveness.specs.declared.places.Touches.{Touches}
use Rattle.liveness.specs.Paths.{is_among, is_target}
use Rattle.liveness.specs.Rising.{later, last_below, rows_with, IsInverse}
use Rattle.liveness.specs.Places.{end_of, places_of, places, span_of, writes_in, lends_in, AreTouches}
use Rattle.liveness.specs.Rows.{is_written, owned_after}
use Rattle.liveness.specs.Tables.{by_last, owned_in}
use Rattle.liveness.specs.Spread.{gives_in}
use Rattle.liveness.proofs.RisingLemmas.{lt_test, ge_test, none_below}
use Rattle.liveness.proofs.InverseLemmas.{rows_with_below, either}
use Rattle.liveness.proofs.PlaceLemmas.{rows_from, span_there, written_is, row_has}
use Rattle.liveness.proofs.FoundLemmas.{get_map_or}
use Rattle.liveness.proofs.ApartLemmas.{get_front, get_back}

-- ---- the last number below a bound

-- the second where it is there, else the first
abbrev or_else : Option ℕ → Option ℕ → Option ℕ
or_else a None = a
or_else a (Some n) = Some n

later_else : (x : ℕ) (a b : Option ℕ) → later x (or_else a b) ≡ or_else (later x a) b
later_else x a None = refl
later_else x a (Some n) = refl

last_append : (xs ys : List ℕ) (bound : ℕ) → last_below (xs ++ ys) bound ≡ or_else (last_below xs bound) (last_below ys bound)
last_append [] ys bound = by_case (last_below ys bound)
  where
    by_case : (b : Option ℕ) → b ≡ or_else None b
    by_case None = refl
    by_case (Some n) = refl
last_append (x ∷ xs) ys bound = by_case (nat_lt x bound) (last_append xs ys bound)
  where
    by_case : (c : Bool) → last_below (xs ++ ys) bound ≡ or_else (last_below xs bound) (last_below ys bound) → cond c (later x (last_below (xs ++ ys) bound)) (last_below (xs ++ ys) bound) ≡ or_else (cond c (later x (last_below xs bound)) (last_below xs bound)) (last_below ys bound)
    by_case true rest = ap (later x) rest ∙ later_else x (last_below xs bound) (last_below ys bound)
    by_case false rest = rest

last_is : (xs : List ℕ) (bound n : ℕ) → last_below xs bound ≡ Some n → (i : ℕ) × (i < length xs) × (get_or xs i 0 ≡ n)
last_is [] bound n e = let f : None ≡ Some n = e in absurd (cc)
last_is (x ∷ xs) bound n e =
    by_case (nat_lt x bound) (last_below xs bound) e (λ m is. last_is xs bound m is) (λ m is. is)
  where
    by_case : (c : Bool) (l : Option ℕ) → cond c (later x l) l ≡ Some n → ((m : ℕ) → last_below xs bound ≡ Some m → (i : ℕ) × (i < length xs) × (get_or xs i 0 ≡ m)) → ((m : ℕ) → l ≡ Some m → last_below xs bound ≡ Some m) → (i : ℕ) × (i < suc (length xs)) × (get_or (x ∷ xs) i 0 ≡ n)
    by_case true None h rest same = (0, omega arith, same_Some _ _ h)
    by_case true (Some m) h rest same =
        let t = rest m (same m refl) in
        (suc t.0, omega (arith, t.1), t.2 ∙ same_Some _ _ h)
    by_case false l h rest same = let t = rest n (same n h) in (suc t.0, omega (arith, t.1), t.2)

rows_with_append : (xs ys : List (List ℕ)) (n k : ℕ) → rows_with n (xs ++ ys) k ≡ rows_with n xs k ++ rows_with (n + length xs) ys k
rows_with_append [] ys n k =
    let e : n ≡ n + 0 = omega arith in
    ap (λ z. rows_with z ys k) e
rows_with_append (x ∷ xs) ys n k =
    let e : suc n + length xs ≡ n + suc (length xs) = omega arith in
    ap (λ z. cond (is_among x k) (n ∷ z) z) (rows_with_append xs ys (suc n) k ∙ ap (λ z. rows_with (suc n) xs k ++ rows_with z ys k) e) ∙ split (is_among x k)
  where
    split : (c : Bool) → cond c (n ∷ (rows_with (suc n) xs k ++ rows_with (n + suc (length xs)) ys k)) (rows_with (suc n) xs k ++ rows_with (n + suc (length xs)) ys k) ≡ cond c (n ∷ rows_with (suc n) xs k) (rows_with (suc n) xs k) ++ rows_with (n + suc (length xs)) ys k
    split true = refl
    split false = refl

-- ---- the last write of some steps

abbrev chosen : List ℕ → Bool → Option ℕ → Bool
chosen lends x None = x
chosen lends x (Some n) = not (is_among lends n)

chosen_later : (lends : List ℕ) (x : Bool) (m : ℕ) (l : Option ℕ) → chosen lends x (later m l) ≡ chosen lends (not (is_among lends m)) l
chosen_later lends x m None = refl
chosen_later lends x m (Some n) = refl

-- where none of those in front of m counts, and all others stand from m on
chosen_else : (lends : List ℕ) (x : Bool) (m : ℕ) (a b : Option ℕ) → ((n : ℕ) → a ≡ Some n → n < m) → ((n : ℕ) → b ≡ Some n → m ≤ n) → by_last lends x m (or_else a b) ≡ chosen lends x b
chosen_else lends x m None None before behind = refl
chosen_else lends x m (Some n) None before behind =
    ap (λ z. cond z x (not (is_among lends n))) (lt_test n m (before n refl))
chosen_else lends x m a (Some n) before behind =
    ap (λ z. cond z x (not (is_among lends n))) (ge_test n m (behind n refl))

module _ (r : ℕ) (lends : List ℕ) where
  -- steps from place m on, of which the rows know which only lend
  last_of : (ss : List Step) (m bound : ℕ) → m + length ss ≤ bound → ((i : ℕ) (s : Step) → slice_get ss i ≡ Some s → is_target s.write r ≡ true → is_among lends (m + i) ≡ s.lends) → (x : Bool) → chosen lends x (last_below (rows_with m (map writes_in ss) r) bound) ≡ owned_after ss r x
  last_of [] m bound le agree x = refl
  last_of (s ∷ ss) m bound le agree x =
      ap (λ z. chosen lends x (last_below (cond z (m ∷ rows_with (suc m) (map writes_in ss) r) (rows_with (suc m) (map writes_in ss) r)) bound)) (written_is s.write r)
      ∙ by_case (is_target s.write r) (λ w. let none : m ≡ m + 0 = omega arith in ap (is_among lends) none ∙ agree 0 s refl w) (λ y. last_of ss (suc m) bound (omega (arith, le)) (λ i t is w. let next : suc m + i ≡ m + suc i = omega arith in ap (is_among lends) next ∙ agree (suc i) t is w) y)
    where
      by_case : (c : Bool) → (c ≡ true → is_among lends m ≡ s.lends) → ((y : Bool) → chosen lends y (last_below (rows_with (suc m) (map writes_in ss) r) bound) ≡ owned_after ss r y) → chosen lends x (last_below (cond c (m ∷ rows_with (suc m) (map writes_in ss) r) (rows_with (suc m) (map writes_in ss) r)) bound) ≡ owned_after ss r (cond c (not s.lends) x)
      by_case true same rest =
          ap (λ z. chosen lends x (cond z (later m (last_below (rows_with (suc m) (map writes_in ss) r) bound)) (last_below (rows_with (suc m) (map writes_in ss) r) bound))) (lt_test m bound (omega (arith, le)))
          ∙ chosen_later lends x m (last_below (rows_with (suc m) (map writes_in ss) r) bound)
          ∙ ap (λ z. chosen lends (not z) (last_below (rows_with (suc m) (map writes_in ss) r) bound)) (same refl)
          ∙ rest (not s.lends)
      by_case false same rest = rest x

  -- the same among others
  module _ (pre mid tail : List Step) (m bound : ℕ) (size : length pre ≡ m) (end : bound ≡ m + length mid) where
    abbrev front : List ℕ
    front = rows_with 0 (map writes_in pre) r

    abbrev here : List ℕ
    here = rows_with m (map writes_in mid) r

    abbrev past : List ℕ
    past = rows_with bound (map writes_in tail) r

    parts : rows_with 0 (map writes_in (pre ++ (mid ++ tail))) r ≡ front ++ (here ++ past)
    parts =
        let start : 0 + length (map writes_in pre) ≡ m = omega (arith, size, length-map pre writes_in) in
        let next : m + length (map writes_in mid) ≡ bound = omega (arith, end, length-map mid writes_in) in
        ap (λ z. rows_with 0 z r) (map-append writes_in pre (mid ++ tail))
        ∙ rows_with_append (map writes_in pre) (map writes_in (mid ++ tail)) 0 r
        ∙ ap (λ z. front ++ rows_with z (map writes_in (mid ++ tail)) r) start
        ∙ ap (λ z. front ++ rows_with m z r) (map-append writes_in mid tail)
        ∙ ap (λ z. front ++ z) (rows_with_append (map writes_in mid) (map writes_in tail) m r)
        ∙ ap (λ z. front ++ (here ++ rows_with z (map writes_in tail) r)) next

    none_past : last_below past bound ≡ None
    none_past = none_below past bound (λ i lt. rows_from (map writes_in tail) bound r i lt)

    before : (n : ℕ) → last_below front bound ≡ Some n → n < m
    before n e =
        let t = last_is front bound n e in
        let below = rows_with_below (map writes_in pre) 0 r t.0 t.1 in
        omega (arith, below, t.2, size, length-map pre writes_in)

    behind : (n : ℕ) → last_below here bound ≡ Some n → m ≤ n
    behind n e =
        let t = last_is here bound n e in
        let from = rows_from (map writes_in mid) m r t.0 t.1 in
        omega (arith, from, t.2)

    last_among : ((i : ℕ) (s : Step) → slice_get mid i ≡ Some s → is_target s.write r ≡ true → is_among lends (m + i) ≡ s.lends) → (x : Bool) → by_last lends x m (last_below (rows_with 0 (map writes_in (pre ++ (mid ++ tail))) r) bound) ≡ owned_after mid r x
    last_among agree x =
        ap (λ z. by_last lends x m (last_below z bound)) parts
        ∙ ap (by_last lends x m) (last_append front (here ++ past) bound ∙ ap (or_else (last_below front bound)) (last_append here past bound ∙ ap (or_else (last_below here bound)) none_past))
        ∙ chosen_else lends x m (last_below front bound) (last_below here bound) before behind
        ∙ last_of mid m bound (omega (arith, end)) agree x

-- ---- what is owned behind some steps

pub after_more : (ss : List Step) (n r : ℕ) (s : Step) (x : Bool) → slice_get ss n ≡ Some s → owned_after (take (suc n) ss) r x ≡ cond (is_target s.write r) (not s.lends) (owned_after (take n ss) r x)
after_more [] n r s x e = cc
after_more (y ∷ ys) zero r s x e =
    let f : y ≡ s = cc in
    ap (λ (z : Step). cond (is_target z.write r) (not z.lends) x) f
after_more (y ∷ ys) (suc n) r s x e =
    after_more ys n r s (cond (is_target y.write r) (not y.lends) x) e

pub after_kept : (ss : List Step) (r : ℕ) (x : Bool) → is_written ss r ≡ false → owned_after ss r x ≡ x
after_kept [] r x e = refl
after_kept (s ∷ ss) r x e =
    by_case (is_target s.write r) e (λ none. after_kept ss r x none)
  where
    by_case : (c : Bool) → (c || is_written ss r) ≡ false → (is_written ss r ≡ false → owned_after ss r x ≡ x) → owned_after ss r (cond c (not s.lends) x) ≡ x
    by_case true h rest = cc
    by_case false h rest = rest h

-- it is owned by one of them, or from before
pub after_parts : (ss : List Step) (r : ℕ) (x : Bool) → owned_after ss r x ≡ true → (owned_after ss r false ≡ true) ⊎ ((x ≡ true) × (is_written ss r ≡ false))
after_parts [] r x e = inr (e, refl)
after_parts (s ∷ ss) r x e =
    by_case (is_target s.write r) e (λ h. after_parts ss r x h)
  where
    by_case : (c : Bool) → owned_after ss r (cond c (not s.lends) x) ≡ true → (owned_after ss r x ≡ true → (owned_after ss r false ≡ true) ⊎ ((x ≡ true) × (is_written ss r ≡ false))) → (owned_after ss r (cond c (not s.lends) false) ≡ true) ⊎ ((x ≡ true) × ((c || is_written ss r) ≡ false))
    by_case true h rest = inl h
    by_case false h rest = rest h

pub after_written : (ss : List Step) (r : ℕ) → owned_after ss r false ≡ true → is_written ss r ≡ true
after_written ss r e =
    ⊎_elim
    (λ a. a)
    (λ a. let clash : false ≡ true = sym (after_kept ss r false a) ∙ e in absurd (cc))
    (either (is_written ss r))

-- and what is owned from one of them on is so whatever was before
pub after_given : (ss : List Step) (r : ℕ) (x : Bool) → owned_after ss r false ≡ true → owned_after ss r x ≡ true
after_given [] r x e = let f : false ≡ true = e in absurd (cc)
after_given (s ∷ ss) r x e = by_case (is_target s.write r) e (λ h. after_given ss r x h)
  where
    by_case : (c : Bool) → owned_after ss r (cond c (not s.lends) false) ≡ true → (owned_after ss r false ≡ true → owned_after ss r x ≡ true) → owned_after ss r (cond c (not s.lends) x) ≡ true
    by_case true h rest = h
    by_case false h rest = rest h

-- an end writes nothing
after_end : (ss : List Step) (l : Last) (r : ℕ) (x : Bool) → owned_after (ss ++ end_of l ∷ []) r x ≡ owned_after ss r x
after_end [] l r x = refl
after_end (s ∷ ss) l r x = after_end ss l r (cond (is_target s.write r) (not s.lends) x)

-- ---- a block among all places

take_drop : (m : ℕ) (xs : List Step) → take m xs ++ drop m xs ≡ xs
take_drop zero xs = refl
take_drop (suc m) [] = refl
take_drop (suc m) (x ∷ xs) = ap (λ z. x ∷ z) (take_drop m xs)

take_whole : (xs : List Step) → take (length xs) xs ≡ xs
take_whole [] = refl
take_whole (x ∷ xs) = ap (λ z. x ∷ z) (take_whole xs)

pub lends_is : (s : Step) (r : ℕ) → is_target s.write r ≡ true → is_among (lends_in s) r ≡ s.lends
lends_is s r w = by_case s.lends
  where
    by_case : (c : Bool) → is_among (cond c (writes_in s) []) r ≡ c
    by_case true = written_is s.write r ∙ w
    by_case false = refl

module _ (blocks : List Steps) (r count : ℕ) (below : r < count) (touches : Touches) (lends : List (List ℕ)) (are : AreTouches blocks count touches) (lends_size : length lends ≡ count) (lends_are : IsInverse (map lends_in (places blocks)) lends) where
  -- up to any place of it
  owned_places : (b p : ℕ) (k : Steps) → slice_get blocks b ≡ Some k → p ≤ length (places_of k) → (x : Bool) → (m : ℕ) × (slice_get touches.spans b ≡ Some (span_of m k)) × (by_last (get_or lends r []) x m (last_below (get_or touches.writes r []) (m + p)) ≡ owned_after (take p (places_of k)) r x)
  owned_places b p k is le x =
      let h = span_there blocks 0 b k is in
      let m = h.0 in
      let none : 0 + m ≡ m = omega arith in
      let more = length-append k.steps (end_of k.last ∷ []) in
      let left = ap length h.3 in
      let both = length-append (places_of k) h.1 in
      let dropped = length-drop m (places blocks) in
      let inside : m ≤ length (places blocks) = omega (arith, more, left, both, dropped) in (
        m,
        ap (λ z. slice_get z b) are.0 ∙ h.2 ∙ ap (λ z. Some (span_of z k)) none,
        ap (λ z. by_last (get_or lends r []) x m (last_below z (m + p))) (are.4 r (omega (arith, below, are.3)) ∙ ap (λ z. rows_with 0 (map writes_in z) r) (parts m h.1 h.3))
            ∙ last_among r (get_or lends r []) (take m (places blocks)) (take p (places_of k)) (drop p (places_of k) ++ h.1) m (m + p) (length-take-le m (places blocks) inside) (ap (λ z. m + z) (sym (length-take-le p (places_of k) le))) (agree m h.1 h.3 inside) x,
      )
    where
      parts : (m : ℕ) (rest : List Step) → drop m (places blocks) ≡ places_of k ++ rest → places blocks ≡ take m (places blocks) ++ (take p (places_of k) ++ (drop p (places_of k) ++ rest))
      parts m rest at =
          sym (take_drop m (places blocks)) ∙ ap (λ z. take m (places blocks) ++ z) (at ∙ ap (λ z. z ++ rest) (sym (take_drop p (places_of k))) ∙ append_assoc (take p (places_of k)) (drop p (places_of k)) rest)

      agree : (m : ℕ) (rest : List Step) → drop m (places blocks) ≡ places_of k ++ rest → m ≤ length (places blocks) → (i : ℕ) (s : Step) → slice_get (take p (places_of k)) i ≡ Some s → is_target s.write r ≡ true → is_among (get_or lends r []) (m + i) ≡ s.lends
      agree m rest at inside i s e w =
          let there : slice_get (places blocks) (m + i) ≡ Some s =
          ap (λ z. slice_get z (m + i)) (parts m rest at)
          ∙ get_back (take m (places blocks)) (take p (places_of k) ++ (drop p (places_of k) ++ rest)) i (m + i) (ap (λ z. z + i) (sym (length-take-le m (places blocks) inside)))
          ∙ get_front (take p (places_of k)) (drop p (places_of k) ++ rest) i s e in
          ap (λ z. is_among z (m + i)) (lends_are r (omega (arith, below, lends_size)))
          ∙ row_has (map lends_in (places blocks)) 0 r (m + i) (m + i) (omega arith)
          ∙ ap (λ z. is_among z r) (get_map_or lends_in (places blocks) (m + i) s there)
          ∙ lends_is s r w

  -- before one of its operations, or its end
  pub owned_there : (b p : ℕ) (k : Steps) → slice_get blocks b ≡ Some k → p ≤ length k.steps → (x : Bool) → owned_in (get_or touches.writes r []) (get_or lends r []) x (slice_get touches.spans b) p ≡ owned_after (take p k.steps) r x
  owned_there b p k is le x =
      let more = length-append k.steps (end_of k.last ∷ []) in
      let h = owned_places b p k is (omega (arith, le, more)) x in
      let up : h.0 + min p ((h.0 + length (places_of k)) - h.0) ≡ h.0 + p = omega (arith, le, more) in
      ap (λ z. owned_in (get_or touches.writes r []) (get_or lends r []) x z p) h.1
      ∙ ap (λ z. by_last (get_or lends r []) x h.0 (last_below (get_or touches.writes r []) z)) up
      ∙ h.2
      ∙ ap (λ z. owned_after z r x) (take-append-le p k.steps (end_of k.last ∷ []) le)

  -- behind all of them
  pub gives_there : (b : ℕ) (k : Steps) → slice_get blocks b ≡ Some k → gives_in (get_or touches.writes r []) (get_or lends r []) (slice_get touches.spans b) ≡ owned_after k.steps r false
  gives_there b k is =
      let h = owned_places b (length (places_of k)) k is (omega arith) false in
      let up : h.0 + min (h.0 + length (places_of k)) ((h.0 + length (places_of k)) - h.0) ≡ h.0 + length (places_of k) = omega arith in
      ap (gives_in (get_or touches.writes r []) (get_or lends r [])) h.1
      ∙ ap (λ z. by_last (get_or lends r []) false h.0 (last_below (get_or touches.writes r []) z)) up
      ∙ h.2
      ∙ ap (λ z. owned_after z r false) (take_whole (places_of k))
      ∙ after_end k.steps k.last r false
