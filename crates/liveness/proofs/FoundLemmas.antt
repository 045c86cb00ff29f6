-- What is found of blocks, and paths over what is left of them.
use Rattle.std.proofs.Common.{◌≡◌, ℕ, zero, suc, ◌+◌, ◌-◌, ◌<◌, ◌≤◌, ◌⊎◌, Bool, true, false, List, [], ◌∷◌, ◌++◌, length, map, Some, refl, sym, ap, ◌∙◌, subst, inl, inr, ⊎_elim, arith, get_or, drop, take, cond}
use Rattle.std.specs.Prelude.{slice_get, not, ◌&&◌, ◌||◌, nat_eq, ◌↔◌}
use Rattle.std.specs.List.{list_any, flat_map}
use Rattle.std.proofs.lemmas.List.{length-append, drop-append-le, get_or_past}
use Rattle.std.proofs.lemmas.Option.{same_Some, slice_get_within}
use Rattle.ir_core.specs.declared.code.Last.{Last}
use Rattle.liveness.specs.declared.step.Step.{Step}
use Rattle.liveness.specs.declared.step.Steps.{Steps}
use Rattle.liveness.specs.declared.places.Touches.{Touches}
use Rattle.liveness.specs.declared.places.Touch.TheVariants.{Read, Written, Neither}
use Rattle.liveness.specs.Paths.{is_among, is_target, reads_of_last, targets}
use Rattle.liveness.specs.Rising.{next_from, rows_with, has}
use Rattle.liveness.specs.Places.{end_of, places_of, places, span_of, spans_from, reads_in, writes_in, reads_of_block, targets_of, lets, lets_span, first_touch, first_of, touch_from, is_read, reads_span, reads_first, AreTouches}
use Rattle.liveness.specs.Rows.{live_given, Live, reads_here, reads_last, goes_past, jumps_on, IsLiveRow, is_written, Found, reads_it, leads_on}
use Rattle.liveness.specs.Tables.{live_in, live_by}
use Rattle.liveness.proofs.RisingLemmas.{lt_test, lt_tells, eq_tells, eq_same}
use Rattle.liveness.proofs.FloodLemmas.{among_front, among_back}
use Rattle.liveness.proofs.PlaceLemmas.{span_there, touch_among, written_among, written_is, row_has}
use Rattle.liveness.proofs.RowLemmas.{some_any, there_is}

-- ---- lists

pub get_map_or : {A : Type 0} (g : A → List ℕ) (xs : List A) (i : ℕ) (x : A) → slice_get xs i ≡ Some x → get_or (map g xs) i [] ≡ g x
get_map_or g [] i x e = cc
get_map_or g (y ∷ xs) zero x e = let f : y ≡ x = cc in ap g f
get_map_or g (y ∷ xs) (suc i) x e = get_map_or g xs i x e

pub map_get_or : {A : Type 0} (g : A → List ℕ) (xs : List A) (i r : ℕ) → is_among (get_or (map g xs) i []) r ≡ true → (x : A) × (slice_get xs i ≡ Some x) × (is_among (g x) r ≡ true)
map_get_or g [] i r e = let f : false ≡ true = e in absurd (cc)
map_get_or g (x ∷ xs) zero r e = (x, refl, e)
map_get_or g (x ∷ xs) (suc i) r e = map_get_or g xs i r e

pub target_among : (ts : List ℕ) (i t : ℕ) → slice_get ts i ≡ Some t → is_among ts t ≡ true
target_among ts i t e = some_any (λ s. nat_eq s t) ts i t e (eq_same t)

pub among_target : (ts : List ℕ) (t : ℕ) → is_among ts t ≡ true → (i : ℕ) × (slice_get ts i ≡ Some t)
among_target [] t e = let f : false ≡ true = e in absurd (cc)
among_target (x ∷ ts) t e =
    ⊎_elim
    (λ a. (0, ap (λ z. Some z) a.1))
    (λ a.
    let h = among_target ts t (sym (ap (λ z. z || is_among ts t) a.0) ∙ e) in
    (suc h.0, h.1))
    (eq_tells x t)

pub written_any : (ss : List Step) (r : ℕ) → list_any (λ s. is_among (writes_in s) r) ss ≡ is_written ss r
written_any [] r = refl
written_any (s ∷ ss) r =
    ap (λ z. z || list_any (λ s. is_among (writes_in s) r) ss) (written_is s.write r) ∙ ap (λ z. is_target s.write r || z) (written_any ss r)

-- an end writes nothing
written_block : (ss : List Step) (l : Last) (r : ℕ) → is_written (ss ++ end_of l ∷ []) r ≡ is_written ss r
written_block [] l r = refl
written_block (s ∷ ss) l r = ap (λ z. is_target s.write r || z) (written_block ss l r)

take_whole : (xs : List Step) → take (length xs) xs ≡ xs
take_whole [] = refl
take_whole (x ∷ xs) = ap (λ z. x ∷ z) (take_whole xs)

not_true : (b : Bool) → not b ≡ true → b ≡ false
not_true true e = cc
not_true false e = refl

-- ---- the first touch of a block

-- what is left of a block gives what its first touch does
pub touch_given : (ss : List Step) (l : Last) (marked : ℕ → Bool) (r : ℕ) → is_read (first_touch (ss ++ end_of l ∷ []) r) (list_any marked (targets l)) ≡ live_given ss l marked r
touch_given [] l marked r = by_case (is_among (reads_of_last l) r)
  where
    by_case : (a : Bool) → is_read (cond a Read Neither) (list_any marked (targets l)) ≡ (a || list_any marked (targets l))
    by_case true = refl
    by_case false = refl
touch_given (s ∷ ss) l marked r =
    by_case (is_among s.reads r) (is_target s.write r) (touch_given ss l marked r)
  where
    by_case : (a b : Bool) → is_read (first_touch (ss ++ end_of l ∷ []) r) (list_any marked (targets l)) ≡ live_given ss l marked r → is_read (cond a Read (cond b Written (first_touch (ss ++ end_of l ∷ []) r))) (list_any marked (targets l)) ≡ (a || (not b && live_given ss l marked r))
    by_case true b h = refl
    by_case false true h = refl
    by_case false false h = h

-- a read that comes first stands among what the block reads
touch_reads : (ss : List Step) (r : ℕ) → is_read (first_touch ss r) false ≡ true → is_among (flat_map reads_in ss) r ≡ true
touch_reads [] r e = let f : false ≡ true = e in absurd (cc)
touch_reads (s ∷ ss) r e =
    by_case (is_among s.reads r) refl (is_target s.write r) e (λ h. touch_reads ss r h)
  where
    by_case : (a : Bool) → is_among s.reads r ≡ a → (b : Bool) → is_read (cond a Read (cond b Written (first_touch ss r))) false ≡ true → (is_read (first_touch ss r) false ≡ true → is_among (flat_map reads_in ss) r ≡ true) → is_among (s.reads ++ flat_map reads_in ss) r ≡ true
    by_case true is b h rest = among_front s.reads (flat_map reads_in ss) r is
    by_case false is true h rest = let f : false ≡ true = h in absurd (cc)
    by_case false is false h rest = among_back s.reads (flat_map reads_in ss) r (rest h)

module _ (blocks : List Steps) (r : ℕ) where
  touch_live : (ss : List Step) (l : Last) → is_read (first_touch (ss ++ end_of l ∷ []) r) false ≡ true → Live blocks r ss l
  touch_live [] l e = by_case (is_among (reads_of_last l) r) refl e
    where
      by_case : (a : Bool) → is_among (reads_of_last l) r ≡ a → is_read (cond a Read Neither) false ≡ true → Live blocks r [] l
      by_case true is h = reads_last l is
      by_case false is h = let f : false ≡ true = h in absurd (cc)
  touch_live (s ∷ ss) l e =
      by_case (is_among s.reads r) refl (is_target s.write r) refl e (λ h. touch_live ss l h)
    where
      by_case : (a : Bool) → is_among s.reads r ≡ a → (b : Bool) → is_target s.write r ≡ b → is_read (cond a Read (cond b Written (first_touch (ss ++ end_of l ∷ []) r))) false ≡ true → (is_read (first_touch (ss ++ end_of l ∷ []) r) false ≡ true → Live blocks r ss l) → Live blocks r (s ∷ ss) l
      by_case true is b was h rest = reads_here s ss l is
      by_case false is true was h rest = let f : false ≡ true = h in absurd (cc)
      by_case false is false was h rest = goes_past s ss l was (rest h)

  pass_live : (ss : List Step) (l : Last) → is_written ss r ≡ false → Live blocks r [] l → Live blocks r ss l
  pass_live [] l none p = p
  pass_live (s ∷ ss) l none p =
      let both = neither (is_target s.write r) (is_written ss r) none in
      goes_past s ss l both.0 (pass_live ss l both.1 p)
    where
      neither : (a b : Bool) → (a || b) ≡ false → (a ≡ false) × (b ≡ false)
      neither true b e = cc
      neither false b e = (refl, e)

  module _ (count : ℕ) (touches : Touches) (are : AreTouches blocks count touches) (below : r < count) where
    reads_are : get_or touches.reads r [] ≡ rows_with 0 (map reads_in (places blocks)) r
    reads_are = are.2 r (omega (arith, below, are.1))

    writes_are : get_or touches.writes r [] ≡ rows_with 0 (map writes_in (places blocks)) r
    writes_are = are.4 r (omega (arith, below, are.3))

    -- from a place of a block on
    touch_there : (b : ℕ) (k : Steps) → slice_get blocks b ≡ Some k → (p : ℕ) → p ≤ length (places_of k) → (m : ℕ) × (slice_get touches.spans b ≡ Some (span_of m k)) × (touch_from touches (span_of m k) (m + p) r ≡ first_touch (drop p (places_of k)) r)
    touch_there b k is p le =
        let h = span_there blocks 0 b k is in
        let e : 0 + h.0 ≡ h.0 = omega arith in (
          h.0,
          ap (λ z. slice_get z b) are.0 ∙ h.2 ∙ ap (λ z. Some (span_of z k)) e,
          ap (λ z. first_of (next_from z (h.0 + p)) (next_from (get_or touches.writes r []) (h.0 + p)) (h.0 + length (places_of k))) reads_are
              ∙ ap (λ z. first_of (next_from (rows_with 0 (map reads_in (places blocks)) r) (h.0 + p)) (next_from z (h.0 + p)) (h.0 + length (places_of k))) writes_are
              ∙ touch_among (places blocks) h.0 p (places_of k) h.1 h.3 le (h.0 + p) (h.0 + length (places_of k)) r refl refl,
        )

    reads_first_is : (b : ℕ) (k : Steps) → slice_get blocks b ≡ Some k → reads_first touches r b ≡ is_read (first_touch (places_of k) r) false
    reads_first_is b k is =
        let h = touch_there b k is 0 (omega arith) in
        let e : h.0 ≡ h.0 + 0 = omega arith in
        ap (λ z. reads_span touches z r) h.1 ∙ ap (λ z. is_read (touch_from touches (span_of h.0 k) z r) false) e ∙ ap (λ z. is_read z false) h.2

    pub lets_is : (b : ℕ) (k : Steps) → slice_get blocks b ≡ Some k → lets touches.spans (get_or touches.writes r []) b ≡ not (is_written k.steps r)
    lets_is b k is =
        let h = span_there blocks 0 b k is in
        let size = length (places_of k) in
        let e : 0 + h.0 ≡ h.0 = omega arith in
        ap (λ z. lets z (get_or touches.writes r []) b) are.0
        ∙ ap (λ z. lets (spans_from 0 blocks) z b) writes_are
        ∙ ap (λ z. lets_span (rows_with 0 (map writes_in (places blocks)) r) z) (h.2 ∙ ap (λ z. Some (span_of z k)) e)
        ∙ ap not (written_among (places blocks) h.0 size (places_of k) h.1 h.3 (omega arith) (h.0 + size) r refl ∙ ap (list_any (λ s. is_among (writes_in s) r)) (take_whole (places_of k)) ∙ written_any (places_of k) r ∙ written_block k.steps k.last r)

    module _ (readers : List ℕ) (from : List (List ℕ)) (readers_are : readers ≡ rows_with 0 (map reads_of_block blocks) r) (size : length from ≡ length blocks) (from_are : (t : ℕ) → t < length from → get_or from t [] ≡ rows_with 0 (map targets_of blocks) t) where
      -- a block leads to one where its end goes there
      source_is : (b t : ℕ) → is_among (get_or from b []) t ≡ true → (b < length blocks) × (k : Steps) × (slice_get blocks t ≡ Some k) × (is_among (targets k.last) b ≡ true)
      source_is b t e =
          ⊎_elim
          (λ a.
          let there = map_get_or targets_of blocks t b (sym (row_has (map targets_of blocks) 0 b t t (omega arith)) ∙ ap (λ z. is_among z t) (sym (from_are b a.1)) ∙ e) in
          (omega (arith, a.1, size), there.0, there.1, there.2))
          (λ a.
          let none : false ≡ true = ap (λ z. is_among z t) (sym (get_or_past from b [] a.1)) ∙ e in
          absurd (cc))
          (lt_tells b (length from))

      is_source : (b t i : ℕ) (k : Steps) → b < length blocks → slice_get blocks t ≡ Some k → slice_get (targets k.last) i ≡ Some b → is_among (get_or from b []) t ≡ true
      is_source b t i k lt is at =
          ap (λ z. is_among z t) (from_are b (omega (arith, lt, size))) ∙ row_has (map targets_of blocks) 0 b t t (omega arith) ∙ ap (λ z. is_among z b) (get_map_or targets_of blocks t k is) ∙ target_among (targets k.last) i b at

      pub found_live : (t : ℕ) → Found touches readers from r t → (k : Steps) → slice_get blocks t ≡ Some k → Live blocks r k.steps k.last
      found_live t (reads_it s e reads) k is =
          touch_live k.steps k.last (sym (reads_first_is t k is) ∙ reads)
      found_live t (leads_on b s found e lets_it) k is =
          let source = source_is b t e in
          let same : source.1 ≡ k = same_Some _ _ (sym source.2 ∙ is) in
          let to = among_target (targets k.last) b (subst (λ (z : Steps). is_among (targets z.last) b ≡ true) same source.3) in
          let there = there_is blocks b source.0 in
          pass_live k.steps k.last (not_true (is_written k.steps r) (sym (lets_is t k is) ∙ lets_it)) (jumps_on to.0 b k.last there.0 to.1 there.1 (found_live b found there.0 there.1))

      -- what a path gives: a read first, or no write and a jump to a block that is found
      abbrev Gives : List Step → Last → Type 0
      Gives ss l =
          (is_read (first_touch (ss ++ end_of l ∷ []) r) false ≡ true) ⊎ ((is_written ss r ≡ false) × (t : ℕ) × (i : ℕ) × (slice_get (targets l) i ≡ Some t) × (t < length blocks) × Found touches readers from r t)

      block_found : (t : ℕ) (k : Steps) → slice_get blocks t ≡ Some k → Gives k.steps k.last → Found touches readers from r t
      block_found t k is gives =
          ⊎_elim
          (λ a.
          reads_it t (ap (λ z. is_among z t) readers_are ∙ row_has (map reads_of_block blocks) 0 r t t (omega arith) ∙ ap (λ z. is_among z r) (get_map_or reads_of_block blocks t k is) ∙ touch_reads (places_of k) r a) (reads_first_is t k is ∙ a))
          (λ a. leads_on a.1 t a.5 (is_source a.1 t a.2 k a.4 is a.3) (lets_is t k is ∙ ap not a.0))
          gives

      gives_past : (s : Step) (ss : List Step) (l : Last) → is_target s.write r ≡ false → Gives ss l → Gives (s ∷ ss) l
      gives_past s ss l past gives =
          ⊎_elim
          (λ a. inl (by_case (is_among s.reads r) (is_target s.write r) past a))
          (λ a. inr (ap (λ z. z || is_written ss r) past ∙ a.0, a.1, a.2, a.3, a.4, a.5))
          gives
        where
          by_case : (a b : Bool) → b ≡ false → is_read (first_touch (ss ++ end_of l ∷ []) r) false ≡ true → is_read (cond a Read (cond b Written (first_touch (ss ++ end_of l ∷ []) r))) false ≡ true
          by_case true b e h = refl
          by_case false true e h = cc
          by_case false false e h = h

      path_gives : (ss : List Step) (l : Last) → Live blocks r ss l → Gives ss l
      path_gives ss l (reads_here s xs j a) =
          inl (ap (λ z. is_read (cond z Read (cond (is_target s.write r) Written (first_touch (xs ++ end_of j ∷ []) r))) false) a)
      path_gives ss l (reads_last j a) = inl (ap (λ z. is_read (cond z Read Neither) false) a)
      path_gives ss l (goes_past s xs j a p) = gives_past s xs j a (path_gives xs j p)
      path_gives ss l (jumps_on i t j k at is p) =
          inr (refl, t, i, at, slice_get_within blocks t k is, block_found t k is (path_gives k.steps k.last p))

      pub live_found : (t : ℕ) (k : Steps) → slice_get blocks t ≡ Some k → Live blocks r k.steps k.last → Found touches readers from r t
      live_found t k is p = block_found t k is (path_gives k.steps k.last p)

      pub marks_exact : (rows : List (List ℕ)) → length rows ≡ length blocks → ((t : ℕ) → t < length rows → (has rows r t ≡ true) ↔ Found touches readers from r t) → IsLiveRow blocks r (has rows r)
      marks_exact rows same finds = (
        λ b e.
            ⊎_elim
            (λ a. omega (arith, a.1, same))
            (λ a.
            let none : false ≡ true = ap (λ z. is_among z r) (sym (get_or_past rows b [] a.1)) ∙ e in
            absurd (cc))
            (lt_tells b (length rows)),
        λ b k is.
            let lt : b < length rows = omega (arith, same, slice_get_within blocks b k is) in
            (λ e. found_live b ((finds b lt).0 e) k is, λ p. (finds b lt).1 (live_found b k is p)),
      )

    -- what the table gives at a place
    pub table_given : (rows : List (List ℕ)) (b p : ℕ) (k : Steps) → slice_get blocks b ≡ Some k → p ≤ length k.steps → live_by touches rows b p r ≡ live_given (drop p k.steps) k.last (has rows r) r
    table_given rows b p k is le =
        let more = length-append k.steps (end_of k.last ∷ []) in
        let within : p ≤ length (places_of k) = omega (arith, le, more) in
        let h = touch_there b k is p within in
        let inside : p < (h.0 + length (places_of k)) - h.0 = omega (arith, le, more) in
        ap (λ z. live_in touches rows z p r) h.1
        ∙ ap (λ z. cond z (is_read (touch_from touches (span_of h.0 k) (h.0 + p) r) (list_any (has rows r) (targets k.last))) false) (lt_test p ((h.0 + length (places_of k)) - h.0) inside)
        ∙ ap (λ z. is_read z (list_any (has rows r) (targets k.last))) (h.2 ∙ ap (λ z. first_touch z r) (drop-append-le p k.steps (end_of k.last ∷ []) le))
        ∙ touch_given (drop p k.steps) k.last (has rows r) r
