-- The places of blocks.
use Rattle.std.proofs.Common.{◌≡◌, ℕ, zero, suc, ◌+◌, ◌<◌, ◌≤◌, Bool, true, false, List, [], ◌∷◌, ◌++◌, length, map, Option, Some, None, refl, sym, ap, ◌∙◌, ⊎_elim, arith, get_or, drop, take, cond}
use Rattle.std.specs.Prelude.{slice_get, ◌||◌, nat_lt, nat_eq}
use Rattle.std.specs.Option.{option_to_list}
use Rattle.std.specs.List.{list_any}
use Rattle.std.proofs.lemmas.List.{length-append, length-map, length-drop, map-append, drop-drop, drop-append-le, take-append-le}
use Rattle.std.proofs.Math.Seq.{drop-append-add, take-append_seam}
use Rattle.std.proofs.lemmas.Option.{same_Some}
use Rattle.liveness.specs.declared.step.Step.{Step}
use Rattle.liveness.specs.declared.step.Steps.{Steps}
use Rattle.liveness.specs.declared.places.Touch.TheVariants.{Read, Written, Neither}
use Rattle.liveness.specs.Paths.{is_among, is_target}
use Rattle.liveness.specs.Rising.{next_from, rows_with}
use Rattle.liveness.specs.Places.{places_of, places, span_of, spans_from, reads_in, writes_in, is_below, first_touch, first_of}
use Rattle.liveness.proofs.RisingLemmas.{lt_test, ge_test, lt_tells, eq_tells, eq_same, none_among}
use Rattle.liveness.proofs.InverseLemmas.{take_next}

-- ---- where blocks stand

places_more : (ks : List Steps) (k : Steps) → places (ks ++ k ∷ []) ≡ places ks ++ places_of k
places_more [] k = append_none (places_of k)
  where
    append_none : (xs : List Step) → xs ++ [] ≡ xs
    append_none [] = refl
    append_none (x ∷ xs) = ap (λ z. x ∷ z) (append_none xs)
places_more (x ∷ ks) k = ap (λ z. places_of x ++ z) (places_more ks k) ∙ joined (places_of x) (places ks) (places_of k)
  where
    joined : (xs ys zs : List Step) → xs ++ (ys ++ zs) ≡ (xs ++ ys) ++ zs
    joined [] ys zs = refl
    joined (x ∷ xs) ys zs = ap (λ z. x ∷ z) (joined xs ys zs)

spans_more : (ks : List Steps) (n : ℕ) (k : Steps) → spans_from n (ks ++ k ∷ []) ≡ spans_from n ks ++ span_of (n + length (places ks)) k ∷ []
spans_more [] n k =
    let e : n ≡ n + 0 = omega arith in ap (λ z. span_of z k ∷ []) e
spans_more (x ∷ ks) n k =
    let e : (n + length (places_of x)) + length (places ks) ≡ n + length (places_of x ++ places ks) =
    omega (arith, length-append (places_of x) (places ks)) in
    ap (λ z. span_of n x ∷ z) (spans_more ks (n + length (places_of x)) k ∙ ap (λ z. spans_from (n + length (places_of x)) ks ++ span_of z k ∷ []) e)

module _ (blocks : List Steps) (i : ℕ) (k : Steps) (is : slice_get blocks i ≡ Some k) where
  pub reads_laid : map reads_in (places (take i blocks)) ++ map reads_in (places_of k) ≡ map reads_in (places (take (i + 1) blocks))
  reads_laid =
      let next : suc i ≡ i + 1 = omega arith in
      sym (map-append reads_in (places (take i blocks)) (places_of k))
      ∙ ap (map reads_in) (sym (places_more (take i blocks) k))
      ∙ ap (λ z. map reads_in (places z)) (sym (take_next blocks i k is) ∙ ap (λ z. take z blocks) next)

  pub spans_laid : (first behind : ℕ) → first ≡ length (map reads_in (places (take i blocks))) → behind ≡ first + length (map reads_in (places_of k)) → spans_from 0 (take i blocks) ++ record { first = first; behind = behind; last = k.last } ∷ [] ≡ spans_from 0 (take (i + 1) blocks)
  spans_laid first behind e f =
      let next : suc i ≡ i + 1 = omega arith in
      let at : first ≡ 0 + length (places (take i blocks)) =
      omega (arith, e, length-map (places (take i blocks)) reads_in) in
      let end : behind ≡ first + length (places_of k) =
      omega (arith, f, length-map (places_of k) reads_in) in
      let one : record { first = first; behind = behind; last = k.last } ≡ span_of (0 + length (places (take i blocks))) k =
      ap (λ z. record { first = first; behind = z; last = k.last }) end ∙ ap (λ z. span_of z k) at in
      ap (λ z. spans_from 0 (take i blocks) ++ z ∷ []) one ∙ sym (spans_more (take i blocks) 0 k) ∙ ap (spans_from 0) (sym (take_next blocks i k is) ∙ ap (λ z. take z blocks) next)

-- ---- the next place

drop_none : (p : ℕ) → drop {A = Step} p [] ≡ []
drop_none zero = refl
drop_none (suc p) = refl

take_none : (m : ℕ) → take {A = Step} m [] ≡ []
take_none zero = refl
take_none (suc m) = refl

abbrev first_at : ℕ → (Step → List ℕ) → List Step → ℕ → Option ℕ
first_at q g [] r = None
first_at q g (s ∷ ss) r = cond (is_among (g s) r) (Some q) (first_at (suc q) g ss r)

-- the rows are counted from n
pub rows_from : (rows : List (List ℕ)) (n k i : ℕ) → i < length (rows_with n rows k) → n ≤ get_or (rows_with n rows k) i 0
rows_from [] n k i lt = absurd (omega (arith, lt))
rows_from (row ∷ rows) n k i lt =
    from n (rows_with (suc n) rows k) (λ j le. rows_from rows (suc n) k j le) (is_among row k) i lt
  where
    from : (n : ℕ) (xs : List ℕ) → ((j : ℕ) → j < length xs → suc n ≤ get_or xs j 0) → (b : Bool) (i : ℕ) → i < length (cond b (n ∷ xs) xs) → n ≤ get_or (cond b (n ∷ xs) xs) i 0
    from n xs h true zero within = omega arith
    from n xs h true (suc i) within = let g = h i (omega (arith, within)) in omega (arith, g)
    from n xs h false i within = let g = h i within in omega (arith, g)

-- where nothing stands between two bounds
next_low : (xs : List ℕ) (q : ℕ) → ((i : ℕ) → i < length xs → suc q ≤ get_or xs i 0) → next_from xs q ≡ next_from xs (suc q)
next_low [] q h = refl
next_low (x ∷ xs) q h =
    let ge = h 0 (omega arith) in
    let one : nat_lt x q ≡ false = ge_test x q (omega (arith, ge)) in
    let two : nat_lt x (suc q) ≡ false = ge_test x (suc q) ge in
    ap (λ z. cond z (next_from xs q) (Some x)) one ∙ sym (ap (λ z. cond z (next_from xs (suc q)) (Some x)) two)

next_first : (g : Step → List ℕ) (ss : List Step) (n p q r : ℕ) → q ≡ n + p → next_from (rows_with n (map g ss) r) q ≡ first_at q g (drop p ss) r
next_first g [] n p q r e = sym (ap (λ z. first_at q g z r) (drop_none p))
next_first g (s ∷ ss) n zero q r e =
    let same : q ≡ n = omega (arith, e) in
    by_case (is_among (g s) r) same (next_first g ss (suc n) zero (suc q) r (omega (arith, e)))
  where
    by_case : (b : Bool) → q ≡ n → next_from (rows_with (suc n) (map g ss) r) (suc q) ≡ first_at (suc q) g ss r → next_from (cond b (n ∷ rows_with (suc n) (map g ss) r) (rows_with (suc n) (map g ss) r)) q ≡ cond b (Some q) (first_at (suc q) g ss r)
    by_case true same h =
        ap (λ z. cond z (next_from (rows_with (suc n) (map g ss) r) q) (Some n)) (ge_test n q (omega (arith, same))) ∙ ap (λ z. Some z) (sym same)
    by_case false same h =
        next_low (rows_with (suc n) (map g ss) r) q (λ i lt. let low = rows_from (map g ss) (suc n) r i lt in omega (arith, low, same)) ∙ h
next_first g (s ∷ ss) n (suc p) q r e =
    by_case (is_among (g s) r) (next_first g ss (suc n) p q r (omega (arith, e)))
  where
    by_case : (b : Bool) → next_from (rows_with (suc n) (map g ss) r) q ≡ first_at q g (drop p ss) r → next_from (cond b (n ∷ rows_with (suc n) (map g ss) r) (rows_with (suc n) (map g ss) r)) q ≡ first_at q g (drop p ss) r
    by_case true h =
        ap (λ z. cond z (next_from (rows_with (suc n) (map g ss) r) q) (Some n)) (lt_test n q (omega (arith, e))) ∙ h
    by_case false h = h

not_below : (g : Step → List ℕ) (ss : List Step) (q e r : ℕ) → e ≤ q → is_below (first_at q g ss r) e ≡ false
not_below g [] q e r le = refl
not_below g (s ∷ ss) q e r le = by_case (is_among (g s) r) (not_below g ss (suc q) e r (omega (arith, le)))
  where
    by_case : (b : Bool) → is_below (first_at (suc q) g ss r) e ≡ false → is_below (cond b (Some q) (first_at (suc q) g ss r)) e ≡ false
    by_case true h = ge_test q e le
    by_case false h = h

-- whether one of the next steps has a register
below_some : (g : Step → List ℕ) (ss : List Step) (q m e r : ℕ) → e ≡ q + m → is_below (first_at q g ss r) e ≡ list_any (λ s. is_among (g s) r) (take m ss)
below_some g [] q m e r same = sym (ap (list_any (λ s. is_among (g s) r)) (take_none m))
below_some g (s ∷ ss) q zero e r same = not_below g (s ∷ ss) q e r (omega (arith, same))
below_some g (s ∷ ss) q (suc m) e r same =
    by_case (is_among (g s) r) (below_some g ss (suc q) m e r (omega (arith, same)))
  where
    by_case : (b : Bool) → is_below (first_at (suc q) g ss r) e ≡ list_any (λ s. is_among (g s) r) (take m ss) → is_below (cond b (Some q) (first_at (suc q) g ss r)) e ≡ (b || list_any (λ s. is_among (g s) r) (take m ss))
    by_case true h = lt_test q e (omega (arith, same))
    by_case false h = h

pub written_is : (w : Option ℕ) (r : ℕ) → is_among (option_to_list w) r ≡ is_target w r
written_is None r = refl
written_is (Some s) r = or_none (nat_eq s r)
  where
    or_none : (b : Bool) → (b || false) ≡ b
    or_none true = refl
    or_none false = refl

-- where both come late, there is neither
late : (x y : Option ℕ) (e : ℕ) → is_below x e ≡ false → is_below y e ≡ false → first_of x y e ≡ Neither
late None y e h k = ap (λ z. cond z Written Neither) k
late (Some n) y e h k =
    ap (λ z. cond (is_below y n) (cond z Written Neither) (cond (nat_lt n e) Read Neither)) k ∙ ap (λ z. cond (is_below y n) Neither (cond z Read Neither)) h ∙ same (is_below y n)
  where
    same : (b : Bool) → cond b Neither Neither ≡ Neither
    same true = refl
    same false = refl

-- a write here, and a read behind it
write_first : (x : Option ℕ) (q e : ℕ) → q < e → is_below x (suc q) ≡ false → first_of x (Some q) e ≡ Written
write_first None q e lt h = ap (λ z. cond z Written Neither) (lt_test q e lt)
write_first (Some n) q e lt h =
    let before : nat_lt q n ≡ true =
    ⊎_elim
    (λ a. let clash : true ≡ false = sym a.0 ∙ h in absurd (cc))
    (λ a. lt_test q n (omega (arith, a.1)))
    (lt_tells n (suc q)) in
    ap (λ z. cond z (cond (nat_lt q e) Written Neither) (cond (nat_lt n e) Read Neither)) before ∙ ap (λ z. cond z Written Neither) (lt_test q e lt)

touch_at : (ss : List Step) (q m e r : ℕ) → e ≡ q + m → first_of (first_at q reads_in ss r) (first_at q writes_in ss r) e ≡ first_touch (take m ss) r
touch_at [] q m e r same = sym (ap (λ z. first_touch z r) (take_none m))
touch_at (s ∷ ss) q zero e r same =
    late (first_at q reads_in (s ∷ ss) r) (first_at q writes_in (s ∷ ss) r) e (not_below reads_in (s ∷ ss) q e r (omega (arith, same))) (not_below writes_in (s ∷ ss) q e r (omega (arith, same)))
touch_at (s ∷ ss) q (suc m) e r same =
    by_case (is_among s.reads r) (is_target s.write r) (ap (λ z. cond z (Some q) (first_at (suc q) writes_in ss r)) (written_is s.write r)) (touch_at ss (suc q) m e r (omega (arith, same)))
  where
    by_case : (a b : Bool) → first_at q writes_in (s ∷ ss) r ≡ cond b (Some q) (first_at (suc q) writes_in ss r) → first_of (first_at (suc q) reads_in ss r) (first_at (suc q) writes_in ss r) e ≡ first_touch (take m ss) r → first_of (cond a (Some q) (first_at (suc q) reads_in ss r)) (first_at q writes_in (s ∷ ss) r) e ≡ cond a Read (cond b Written (first_touch (take m ss) r))
    by_case true b w h =
        ap (λ z. cond z (cond (is_below (first_at q writes_in (s ∷ ss) r) e) Written Neither) (cond (nat_lt q e) Read Neither)) (not_below writes_in (s ∷ ss) q q r (omega arith)) ∙ ap (λ z. cond z Read Neither) (lt_test q e (omega (arith, same)))
    by_case false true w h =
        ap (λ z. first_of (first_at (suc q) reads_in ss r) z e) w ∙ write_first (first_at (suc q) reads_in ss r) q e (omega (arith, same)) (not_below reads_in ss (suc q) (suc q) r (omega arith))
    by_case false false w h = ap (λ z. first_of (first_at (suc q) reads_in ss r) z e) w ∙ h

-- ---- a block among the places

pub span_there : (blocks : List Steps) (n b : ℕ) (k : Steps) → slice_get blocks b ≡ Some k → (m : ℕ) × (rest : List Step) × (slice_get (spans_from n blocks) b ≡ Some (span_of (n + m) k)) × (drop m (places blocks) ≡ places_of k ++ rest)
span_there [] n b k is = cc
span_there (x ∷ ks) n zero k is =
    let same : x ≡ k = same_Some _ _ is in
    let e : n ≡ n + 0 = omega arith in
    (0, places ks, ap (λ z. Some (span_of n z)) same ∙ ap (λ z. Some (span_of z k)) e, ap (λ z. places_of z ++ places ks) same)
span_there (x ∷ ks) n (suc b) k is =
    let h = span_there ks (n + length (places_of x)) b k is in
    let e : (n + length (places_of x)) + h.0 ≡ n + (length (places_of x) + h.0) = omega arith in
    (length (places_of x) + h.0, h.1, h.2 ∙ ap (λ z. Some (span_of z k)) e, drop-append-add (places_of x) (places ks) h.0 ∙ h.3)

-- what is left of a block from a place on, among all places
module _ (all : List Step) (m p : ℕ) (here rest : List Step) (at : drop m all ≡ here ++ rest) (le : p ≤ length here) where
  left : drop (m + p) all ≡ drop p here ++ rest
  left = sym (drop-drop p m all) ∙ ap (drop p) at ∙ drop-append-le p here rest le

  pub touch_among : (q e r : ℕ) → q ≡ m + p → e ≡ m + length here → first_of (next_from (rows_with 0 (map reads_in all) r) q) (next_from (rows_with 0 (map writes_in all) r) q) e ≡ first_touch (drop p here) r
  touch_among q e r start end =
      let from : q ≡ 0 + (m + p) = omega (arith, start) in
      let size : e ≡ q + length (drop p here) = omega (arith, start, end, length-drop p here, le) in
      ap (λ z. first_of z (next_from (rows_with 0 (map writes_in all) r) q) e) (next_first reads_in all 0 (m + p) q r from)
      ∙ ap (λ z. first_of (first_at q reads_in (drop (m + p) all) r) z e) (next_first writes_in all 0 (m + p) q r from)
      ∙ touch_at (drop (m + p) all) q (length (drop p here)) e r size
      ∙ ap (λ z. first_touch (take (length (drop p here)) z) r) left
      ∙ ap (λ z. first_touch z r) (take-append_seam (drop p here) rest)

-- whether a block has a write up to a place
pub written_among : (all : List Step) (m p : ℕ) (here rest : List Step) → drop m all ≡ here ++ rest → p ≤ length here → (e r : ℕ) → e ≡ m + p → is_below (next_from (rows_with 0 (map writes_in all) r) m) e ≡ list_any (λ s. is_among (writes_in s) r) (take p here)
written_among all m p here rest at le e r end =
    ap (λ z. is_below z e) (next_first writes_in all 0 m m r (omega arith))
    ∙ below_some writes_in (drop m all) m p e r end
    ∙ ap (λ z. list_any (λ s. is_among (writes_in s) r) (take p z)) at
    ∙ ap (list_any (λ s. is_among (writes_in s) r)) (take-append-le p here rest le)

-- ---- under which numbers a row stands

pub row_has : (rows : List (List ℕ)) (n k i q : ℕ) → q ≡ n + i → is_among (rows_with n rows k) q ≡ is_among (get_or rows i []) k
row_has [] n k i q e = refl
row_has (row ∷ rows) n k zero q e =
    let same : q ≡ n = omega (arith, e) in
    by_case (is_among row k) same
  where
    none : q ≡ n → is_among (rows_with (suc n) rows k) q ≡ false
    none same =
        none_among (rows_with (suc n) rows k) q (λ i lt at. let h = rows_from rows (suc n) k i lt in absurd (omega (arith, h, at, same)))

    by_case : (b : Bool) → q ≡ n → is_among (cond b (n ∷ rows_with (suc n) rows k) (rows_with (suc n) rows k)) q ≡ b
    by_case true same =
        ap (λ z. nat_eq z q || is_among (rows_with (suc n) rows k) q) (sym same) ∙ ap (λ z. z || is_among (rows_with (suc n) rows k) q) (eq_same q)
    by_case false same = none same
row_has (row ∷ rows) n k (suc i) q e =
    by_case (is_among row k) (row_has rows (suc n) k i q (omega (arith, e)))
  where
    other : nat_eq n q ≡ false
    other =
        ⊎_elim
        (λ a. let same = a.1 in absurd (omega (arith, same, e)))
        (λ a. a.0)
        (eq_tells n q)

    by_case : (b : Bool) → is_among (rows_with (suc n) rows k) q ≡ is_among (get_or rows i []) k → is_among (cond b (n ∷ rows_with (suc n) rows k) (rows_with (suc n) rows k)) q ≡ is_among (get_or rows i []) k
    by_case true h = ap (λ z. z || is_among (rows_with (suc n) rows k) q) other ∙ h
    by_case false h = h
