-- What derivations and fronts begin with.
use Rattle.std.proofs.Common.{◌≡◌, ℕ, ◌≤◌, ◌<◌, Bool, true, false, not, ◌&&◌, ◌||◌, List, [], ◌∷◌, ◌++◌, Option, Some, None, if◌then◌else◌, inl, inr, refl, sym, ◌∙◌, ap, arith, ◌⊎◌}
use Rattle.py_syntax.specs.declared.token.Token.{Token}
use Rattle.py_parser_grammar.specs.declared.terminal.Terminal.{Terminal}
use Rattle.py_parser_grammar.specs.Terminals.{terminal_of, same, among, code, next_in}
use Rattle.py_parser_grammar.specs.Levels.{Limit}
use Rattle.py_parser_grammar.specs.Grammar.{Part, ◌·◌, maybe, many, after, grown, rhs}
use Rattle.py_parser_grammar.specs.Actions.{Val}
use Rattle.py_parser_grammar.specs.Derivation.{Derives, one, by_rule, both, first, other, absent, present, no_more, again, ends, trails, goes_on, from_left, full, grows, Front, empty, whole, of_rule, in_first, in_second, of_first, of_other, of_maybe, in_one, in_more, in_item, in_items, in_left, behind_left, in_growth, behind_growth}
use Rattle.py_parser_grammar.specs.Reader.{starts, firsts, may_be_empty}
use Rattle.std.specs.Prelude.{slice_get, ◌==◌}
use Rattle.std.proofs.Math.Nat.{eq-or-lt_of_le}
use Rattle.std.proofs.lemmas.Bool.{eqb-true, eq-eqb}
use Rattle.py_parser_grammar.proofs.Lookahead.{apart, within}
use Rattle.py_parser_grammar.proofs.Checks.{solid, firsts_told}

-- ---- tests

pub or_left : (a b : Bool) → a ≡ true → (a || b) ≡ true
or_left true b e = refl
or_left false b e = cc

pub or_right : (a b : Bool) → b ≡ true → (a || b) ≡ true
or_right true b e = refl
or_right false b e = e

pub or_cases : {X : Type 0} (a b : Bool) → (a || b) ≡ true → (a ≡ true → X) → (b ≡ true → X) → X
or_cases true b e f h = f refl
or_cases false b e f h = h e

pub and_left : (a b : Bool) → (a && b) ≡ true → a ≡ true
and_left true b e = refl
and_left false b e = e

pub and_right : (a b : Bool) → (a && b) ≡ true → b ≡ true
and_right true b e = e
and_right false b e = absurd (cc)

pub not_true : (a : Bool) → not a ≡ true → a ≡ false
not_true true e = cc
not_true false e = refl

-- ---- sets of terminals

pub among_left : (c : Terminal) (xs bs : List Terminal) → among c xs ≡ true → among c (xs ++ bs) ≡ true
among_left c [] bs h = cc
among_left c (a ∷ xs) bs h = or_cases (same c a) (among c xs) h (or_left _ _) (λ e. or_right (same c a) _ (among_left c xs bs e))

pub among_right : (c : Terminal) (xs bs : List Terminal) → among c bs ≡ true → among c (xs ++ bs) ≡ true
among_right c [] bs h = h
among_right c (a ∷ xs) bs h = or_right (same c a) _ (among_right c xs bs h)

-- terminals with one code are alike to every set
pub among_same : (c a : Terminal) (ds : List Terminal) → same c a ≡ true → among a ds ≡ true → among c ds ≡ true
among_same c a ds s h = go ds h
  where
    e : code c ≡ code a
    e = eqb-true (code c) (code a) s

    go : (xs : List Terminal) → among a xs ≡ true → among c xs ≡ true
    go [] k = k
    go (d ∷ xs) k = or_cases (same a d) (among a xs) k (λ t. or_left (same c d) _ (ap (λ n. n == code d) e ∙ t)) (λ t. or_right (same c d) _ (go xs t))

pub among_within : (c : Terminal) (xs ds : List Terminal) → among c xs ≡ true → within xs ds ≡ true → among c ds ≡ true
among_within c [] ds h w = absurd (cc)
among_within c (a ∷ xs) ds h w =
    or_cases (same c a) (among c xs) h (λ t. among_same c a ds t (and_left (among a ds) _ w)) (λ t. among_within c xs ds t (and_right (among a ds) _ w))

pub among_apart : (c : Terminal) (xs ds : List Terminal) → among c xs ≡ true → among c ds ≡ true → apart xs ds ≡ true → ⊥
among_apart c [] ds h k w = cc
among_apart c (a ∷ xs) ds h k w =
    or_cases (same c a) (among c xs) h
    (λ t. let no : among a ds ≡ false = not_true _ (and_left (not (among a ds)) _ w) in
    let yes : among a ds ≡ true = among_same a c ds (flip c a t) k in cc)
    (λ t. among_apart c xs ds t k (and_right (not (among a ds)) _ w))
  where
    flip : (x y : Terminal) → same x y ≡ true → same y x ≡ true
    flip x y t = eq-eqb (code y) (code x) (sym (eqb-true (code x) (code y) t))

-- ---- the next token

pub next_left : (o : Option Token) (xs ds : List Terminal) → next_in o xs ≡ true → next_in o (xs ++ ds) ≡ true
next_left None xs ds h = h
next_left (Some t) xs ds h = among_left (terminal_of t.kind) xs ds h

pub next_right : (o : Option Token) (xs ds : List Terminal) → next_in o ds ≡ true → next_in o (xs ++ ds) ≡ true
next_right None xs ds h = h
next_right (Some t) xs ds h = among_right (terminal_of t.kind) xs ds h

pub next_within : (o : Option Token) (xs ds : List Terminal) → next_in o xs ≡ true → within xs ds ≡ true → next_in o ds ≡ true
next_within None xs ds h w = h
next_within (Some t) xs ds h w = among_within (terminal_of t.kind) xs ds h w

pub next_apart : (o : Option Token) (xs ds : List Terminal) → next_in o xs ≡ true → next_in o ds ≡ true → apart xs ds ≡ true → ⊥
next_apart None xs ds h k w = cc
next_apart (Some t) xs ds h k w = among_apart (terminal_of t.kind) xs ds h k w

pub next_first : (o : Option Token) (b : Bool) (xs ds : List Terminal) → next_in o xs ≡ true → next_in o (if b then xs ++ ds else xs) ≡ true
next_first o true xs ds h = next_left o xs ds h
next_first o false xs ds h = h

pub next_second : (o : Option Token) (b : Bool) (xs ds : List Terminal) → b ≡ true → next_in o ds ≡ true → next_in o (if b then xs ++ ds else xs) ≡ true
next_second o true xs ds e h = next_right o xs ds h
next_second o false xs ds e h = absurd (cc)

pub true_or_false : (b : Bool) → (b ≡ true) ⊎ (b ≡ false)
true_or_false true = inl refl
true_or_false false = inr refl

pub next_one : (ts : List Token) (i : ℕ) (t : Token) (c : Terminal) → slice_get ts i ≡ Some t → same (terminal_of t.kind) c ≡ true → next_in (slice_get ts i) (c ∷ []) ≡ true
next_one ts i t c e h = ap (λ o. next_in o (c ∷ [])) e ∙ or_left (same (terminal_of t.kind) c) false h

-- ---- derivations

pub record Begins (ts : List Token) (r : Part) (i j : ℕ) : Type 0 where
  pub le : i ≤ j
  pub shows : i < j → next_in (slice_get ts i) (firsts r) ≡ true
  pub solid : may_be_empty r ≡ false → i < j

nothing : (ts : List Token) (r : Part) (i : ℕ) → may_be_empty r ≡ true → Begins ts r i i
nothing ts r i e = record { le = omega arith; shows = λ lt. absurd (omega arith); solid = λ f. absurd (cc) }

seq_begins : (ts : List Token) (a b : Part) (i j k : ℕ) → Begins ts a i j → Begins ts b j k → Begins ts (a · b) i k
seq_begins ts a b i j k x y = record {
  le = omega (arith, x.le, y.le);
  shows = λ lt. shown lt (true_or_false (may_be_empty a)) (eq-or-lt_of_le x.le);
  solid = λ f. steps f (true_or_false (may_be_empty a));
}
  where
    shown : i < k → (may_be_empty a ≡ true) ⊎ (may_be_empty a ≡ false) → (i ≡ j) ⊎ (i < j) → next_in (slice_get ts i) (firsts (a · b)) ≡ true
    shown lt m (inr l) = next_first (slice_get ts i) (may_be_empty a) (firsts a) (firsts b) (x.shows l)
    shown lt (inr m) (inl e) = absurd (omega (arith, x.solid m))
    shown lt (inl m) (inl e) = next_second (slice_get ts i) (may_be_empty a) (firsts a) (firsts b) m (ap (λ n. next_in (slice_get ts n) (firsts b)) e ∙ y.shows (omega arith))

    steps : may_be_empty (a · b) ≡ false → (may_be_empty a ≡ true) ⊎ (may_be_empty a ≡ false) → i < k
    steps f (inr m) = omega (arith, x.solid m, y.le)
    steps f (inl m) = omega (arith, x.le, y.solid (sym (ap (λ t. t && may_be_empty b) m) ∙ f))

or_false_left : (a b : Bool) → (a || b) ≡ false → a ≡ false
or_false_left true b e = cc
or_false_left false b e = refl

or_false_right : (a b : Bool) → (a || b) ≡ false → b ≡ false
or_false_right true b e = absurd (cc)
or_false_right false b e = e

-- a round of a repetition, which may be empty itself
many_begins : (ts : List Token) (a : Part) (i j k : ℕ) → Begins ts a i j → Begins ts (many a) j k → Begins ts (many a) i k
many_begins ts a i j k x y = record {
  le = omega (arith, x.le, y.le);
  shows = λ lt. shown lt (eq-or-lt_of_le x.le);
  solid = λ f. absurd (cc);
}
  where
    shown : i < k → (i ≡ j) ⊎ (i < j) → next_in (slice_get ts i) (firsts a) ≡ true
    shown lt (inr l) = x.shows l
    shown lt (inl e) = ap (λ n. next_in (slice_get ts n) (firsts a)) e ∙ y.shows (omega arith)

pub record Shows (ts : List Token) (n : ℕ) (r : Part) (i : ℕ) : Type 0 where
  pub le : i ≤ n
  pub shows : i < n → next_in (slice_get ts i) (firsts r) ≡ true

seq_shows : (ts : List Token) (n : ℕ) (a b : Part) (i j : ℕ) → Begins ts a i j → Shows ts n b j → Shows ts n (a · b) i
seq_shows ts n a b i j x y = record { le = omega (arith, x.le, y.le); shows = λ lt. shown lt (true_or_false (may_be_empty a)) (eq-or-lt_of_le x.le) }
  where
    shown : i < n → (may_be_empty a ≡ true) ⊎ (may_be_empty a ≡ false) → (i ≡ j) ⊎ (i < j) → next_in (slice_get ts i) (firsts (a · b)) ≡ true
    shown lt m (inr l) = next_first (slice_get ts i) (may_be_empty a) (firsts a) (firsts b) (x.shows l)
    shown lt (inr m) (inl e) = absurd (omega (arith, x.solid m))
    shown lt (inl m) (inl e) = next_second (slice_get ts i) (may_be_empty a) (firsts a) (firsts b) m (ap (λ n. next_in (slice_get ts n) (firsts b)) e ∙ y.shows (omega arith))

many_shows : (ts : List Token) (n : ℕ) (a : Part) (i j : ℕ) → Begins ts a i j → Shows ts n (many a) j → Shows ts n (many a) i
many_shows ts n a i j x y = record { le = omega (arith, x.le, y.le); shows = λ lt. shown lt (eq-or-lt_of_le x.le) }
  where
    shown : i < n → (i ≡ j) ⊎ (i < j) → next_in (slice_get ts i) (firsts a) ≡ true
    shown lt (inr l) = x.shows l
    shown lt (inl e) = ap (λ n. next_in (slice_get ts n) (firsts a)) e ∙ y.shows (omega arith)

pub derives_begins : (lim : Limit) (ts : List Token) {r : Part} {i j : ℕ} {v : Val r} → Derives lim ts r i j v → Begins ts r i j
derives_begins lim ts (one c i t e h) = record { le = omega arith; shows = λ lt. next_one ts i t c e h; solid = λ f. omega arith }
derives_begins lim ts (by_rule s i j v d w) =
    let x = derives_begins lim ts d in
    record { le = x.le; shows = λ lt. next_within (slice_get ts i) (firsts (rhs s)) (starts s) (x.shows lt) (firsts_told s); solid = λ f. x.solid (solid s) }
derives_begins lim ts (both a b i j k v w d e) = seq_begins ts a b i j k (derives_begins lim ts d) (derives_begins lim ts e)
derives_begins lim ts (first a b i j v d) =
    let x = derives_begins lim ts d in
    record { le = x.le; shows = λ lt. next_left (slice_get ts i) (firsts a) (firsts b) (x.shows lt); solid = λ f. x.solid (none f) }
  where
    none : (may_be_empty a || may_be_empty b) ≡ false → may_be_empty a ≡ false
    none f = or_false_left (may_be_empty a) (may_be_empty b) f
derives_begins lim ts (other a b i j v d) =
    let x = derives_begins lim ts d in
    record { le = x.le; shows = λ lt. next_right (slice_get ts i) (firsts a) (firsts b) (x.shows lt); solid = λ f. x.solid (or_false_right (may_be_empty a) (may_be_empty b) f) }
derives_begins lim ts (absent a i) = nothing ts (maybe a) i refl
derives_begins lim ts (present a i j v d) =
    let x = derives_begins lim ts d in
    record { le = x.le; shows = x.shows; solid = λ f. absurd (cc) }
derives_begins lim ts (no_more a i) = nothing ts (many a) i refl
derives_begins lim ts (again a i j k v vs d e) = many_begins ts a i j k (derives_begins lim ts d) (derives_begins lim ts e)
derives_begins lim ts (ends c a i) = nothing ts (after c a) i refl
derives_begins lim ts (trails c a i j t d) =
    let x = derives_begins lim ts d in
    record { le = x.le; shows = x.shows; solid = λ f. absurd (cc) }
derives_begins lim ts (goes_on c a i j k l t v vs d e f) =
    let x = derives_begins lim ts d in
    let y = derives_begins lim ts e in
    let z = derives_begins lim ts f in
    record { le = omega (arith, x.le, y.le, z.le); shows = λ lt. x.shows (x.solid refl); solid = λ f. absurd (cc) }
derives_begins lim ts (from_left e m i j k v u d f) =
    let x = derives_begins lim ts d in
    let y = derives_begins lim ts f in
    record { le = omega (arith, x.le, y.le); shows = λ lt. x.shows (x.solid refl); solid = λ f. omega (arith, x.solid refl, y.le) }
derives_begins lim ts (full m v i) = nothing ts (grown m v) i refl
derives_begins lim ts (grows m v u i j k w d f e) =
    let x = derives_begins lim ts d in
    let y = derives_begins lim ts e in
    record { le = omega (arith, x.le, y.le); shows = λ lt. x.shows (x.solid refl); solid = λ f. absurd (cc) }

pub front_begins : (lim : Limit) (ts : List Token) (n : ℕ) {r : Part} {i : ℕ} → Front lim ts n r i → Shows ts n r i
front_begins lim ts n (empty r) = record { le = omega arith; shows = λ lt. absurd (omega arith) }
front_begins lim ts n (whole r i v d) = let x = derives_begins lim ts d in record { le = x.le; shows = x.shows }
front_begins lim ts n (of_rule s i f) =
    let x = front_begins lim ts n f in
    record { le = x.le; shows = λ lt. next_within (slice_get ts i) (firsts (rhs s)) (starts s) (x.shows lt) (firsts_told s) }
front_begins lim ts n (in_first a b i f) =
    let x = front_begins lim ts n f in
    record { le = x.le; shows = λ lt. next_first (slice_get ts i) (may_be_empty a) (firsts a) (firsts b) (x.shows lt) }
front_begins lim ts n (in_second a b i j v d f) = seq_shows ts n a b i j (derives_begins lim ts d) (front_begins lim ts n f)
front_begins lim ts n (of_first a b i f) =
    let x = front_begins lim ts n f in record { le = x.le; shows = λ lt. next_left (slice_get ts i) (firsts a) (firsts b) (x.shows lt) }
front_begins lim ts n (of_other a b i f) =
    let x = front_begins lim ts n f in record { le = x.le; shows = λ lt. next_right (slice_get ts i) (firsts a) (firsts b) (x.shows lt) }
front_begins lim ts n (of_maybe a i f) = let x = front_begins lim ts n f in record { le = x.le; shows = x.shows }
front_begins lim ts n (in_one a i f) = let x = front_begins lim ts n f in record { le = x.le; shows = x.shows }
front_begins lim ts n (in_more a i j v d f) = many_shows ts n a i j (derives_begins lim ts d) (front_begins lim ts n f)
front_begins lim ts n (in_item c a i j t d f) =
    let x = derives_begins lim ts d in let y = front_begins lim ts n f in
    record { le = omega (arith, x.le, y.le); shows = λ lt. x.shows (x.solid refl) }
front_begins lim ts n (in_items c a i j k t v d e f) =
    let x = derives_begins lim ts d in let y = derives_begins lim ts e in let z = front_begins lim ts n f in
    record { le = omega (arith, x.le, y.le, z.le); shows = λ lt. x.shows (x.solid refl) }
front_begins lim ts n (in_left e m i f) = let x = front_begins lim ts n f in record { le = x.le; shows = x.shows }
front_begins lim ts n (behind_left e m i j v d f) =
    let x = derives_begins lim ts d in let y = front_begins lim ts n f in
    record { le = omega (arith, x.le, y.le); shows = λ lt. x.shows (x.solid refl) }
front_begins lim ts n (in_growth m v i f) = let x = front_begins lim ts n f in record { le = x.le; shows = x.shows }
front_begins lim ts n (behind_growth m v i j w d h f) =
    let x = derives_begins lim ts d in let y = front_begins lim ts n f in
    record { le = omega (arith, x.le, y.le); shows = λ lt. x.shows (x.solid refl) }
