-- That a stable sort by line and column gives what the definition says, and what holds of that.
use Rattle.std.proofs.Common.{◌≡◌, ◌∙◌, ℕ, ◌<◌, ◌≤◌, Bool, true, false, not, ◌&&◌, ◌||◌, ◌==◌, cond, nat_lt, List, [], ◌∷◌, length, get_or, filter, refl, sym, ap, subst, arith, true≢false, zero, suc, add-one, Bor}
use Rattle.std.specs.Prelude.{⊤}
use denote.Param.Members.{Mut}
use Rattle.std.specs.Cmp.{IsStrictWeakOrder}
use Rattle.std.specs.Fn.{Called, ComputesKey}
use Rattle.std.specs.List.Sorted.{IsPermutation, IsSortedBy, IsStableBy, ties}
use Rattle.std.specs.Ordering.{is_lt, ordering_then, nat_cmp}
use Rattle.std.specs.declared.cmp.Ordering.TheVariants.{Less, Equal, Greater}
use Rattle.std.proofs.lemmas.Fn.{always_returns_same}
use Rattle.std.proofs.lemmas.Bool.Decides.{nat_tests}
use Rattle.std.proofs.lemmas.List.Sorted.{IsPermutation-refl, IsPermutation-cons, IsPermutation-middle, IsPermutation-trans, sorted_far}
use Rattle.py_syntax.specs.declared.token.Span.{Span}
use Rattle.py_syntax_diagnostics.specs.declared.diagnostic.Diag.{Diag}
use Rattle.py_syntax_diagnostics.specs.Order.{is_before, put_in, by_place}
use Rattle.py_syntax_diagnostics.specs.Laws.{is_at, KeepsAll, Ascends, KeepsOrderOfAPlace}

-- a diagnostic in front of another
abbrev pub before : Diag → Diag → Bool
before d other = is_before d.span other.span

-- ---- places as numbers

one_way : (a b c d : ℕ) → (nat_lt a b || (a == b && nat_lt c d)) ≡ true → (nat_lt b a || (b == a && nat_lt d c)) ≡ false
one_way a b c d h = grind (arith, nat_tests)

chain : (a b c x y z : ℕ) → (nat_lt a b || (a == b && nat_lt x y)) ≡ false → (nat_lt b c || (b == c && nat_lt y z)) ≡ false → (nat_lt a c || (a == c && nat_lt x z)) ≡ false
chain a b c x y z h k = grind (arith, nat_tests)

-- places in order are an order
pub an_order : IsStrictWeakOrder before
an_order = record {
  one_way = λ d other h. one_way d.span.line other.span.line d.span.col other.span.col h;
  chain = λ d other last h k. chain d.span.line other.span.line last.span.line d.span.col other.span.col last.span.col h k;
}

by_tests : (p q r s : Bool) → is_lt (ordering_then (cond p Less (cond q Equal Greater)) (cond r Less (cond s Equal Greater))) ≡ (p || (q && r))
by_tests true q r s = refl
by_tests false true true s = refl
by_tests false true false true = refl
by_tests false true false false = refl
by_tests false false r s = refl

-- the test by which the program compares places
abbrev compared : Span → Span → Bool
compared a b = is_lt (ordering_then (nat_cmp a.line b.line) (nat_cmp a.col b.col))

by_compare : (a b : Span) → compared a b ≡ is_before a b
by_compare a b = by_tests (nat_lt a.line b.line) (a.line == b.line) (nat_lt a.col b.col) (a.col == b.col)

-- ---- what is kept

swapped : (b c : Bool) (d y : Diag) (rest : List Diag) → (b && c) ≡ false
    → cond b (y ∷ cond c (d ∷ rest) rest) (cond c (d ∷ rest) rest) ≡ cond c (d ∷ cond b (y ∷ rest) rest) (cond b (y ∷ rest) rest)
swapped true true d y rest h = absurd (true≢false h)
swapped true false d y rest h = refl
swapped false true d y rest h = refl
swapped false false d y rest h = refl

module _ (p : Diag → Bool) (apart : (y d : Diag) → before y d ≡ true → (p y && p d) ≡ false) where
  kept_put : (d : Diag) (ys : List Diag) → filter p (put_in d ys) ≡ filter p (d ∷ ys)
  kept_put d [] = refl
  kept_put d (y ∷ ys) =
      let at : (b : Bool) → before y d ≡ b → filter p (cond b (y ∷ put_in d ys) (d ∷ y ∷ ys)) ≡ filter p (d ∷ y ∷ ys) =
      λ b. elim b as (λ b. before y d ≡ b → filter p (cond b (y ∷ put_in d ys) (d ∷ y ∷ ys)) ≡ filter p (d ∷ y ∷ ys)) [
        | true ↦ λ e. ap (λ l. cond (p y) (y ∷ l) l) (kept_put d ys) ∙ swapped (p y) (p d) d y (filter p ys) (apart y d e)
        | false ↦ λ e. refl
      ] in
      at (before y d) refl

  -- what holds of no two of different places is kept in its order
  pub kept : (ds : List Diag) → filter p (by_place ds) ≡ filter p ds
  kept [] = refl
  kept (d ∷ ds) = kept_put d (by_place ds) ∙ ap (λ l. cond (p d) (d ∷ l) l) (kept ds)

both_false : (a b : Bool) → (not a && not b) ≡ true → (a ≡ false) × (b ≡ false)
both_false true b h = absurd (true≢false (sym h))
both_false false true h = absurd (true≢false (sym h))
both_false false false h = (refl, refl)

not_both : (a b : Bool) → (a ≡ true → b ≡ true → ⊥) → (a && b) ≡ false
not_both true true f = absurd (f refl refl)
not_both true false f = refl
not_both false b f = refl

itself : (b : Bool) → (b ≡ true → b ≡ false) → b ≡ false
itself true f = f refl
itself false f = refl

-- no place is in front of itself
irreflexive : (d : Diag) → before d d ≡ false
irreflexive d = itself (before d d) (an_order.one_way d d)

tied_apart : (x y d : Diag) → before y d ≡ true → (ties before x y && ties before x d) ≡ false
tied_apart x y d h =
    not_both (ties before x y) (ties before x d)
    (λ e f. true≢false (sym h ∙ an_order.chain y x d (both_false _ _ e).1 (both_false _ _ f).0))

-- those that tie with one
tied_kept : (x : Diag) (ds : List Diag) → filter (ties before x) (by_place ds) ≡ filter (ties before x) ds
tied_kept x ds = kept (ties before x) (tied_apart x) ds

-- ---- what ascends

-- none of these is in front of that one
abbrev Low : Diag → List Diag → Type 0
Low x [] = ⊤
Low x (y ∷ ys) = (before y x ≡ false) × Low x ys

abbrev Rises : List Diag → Type 0
Rises [] = ⊤
Rises (x ∷ xs) = Low x xs × Rises xs

low_put : (x d : Diag) (ys : List Diag) → before d x ≡ false → Low x ys → Low x (put_in d ys)
low_put x d [] h low = (h, tt)
low_put x d (y ∷ ys) h low =
    elim (before y d) as (λ b. Low x (cond b (y ∷ put_in d ys) (d ∷ y ∷ ys))) [
      | true ↦ (low.0, low_put x d ys h low.1)
      | false ↦ (h, low)
    ]

lower : (x y : Diag) (ys : List Diag) → before y x ≡ false → Low y ys → Low x ys
lower x y [] h low = tt
lower x y (z ∷ zs) h low = (an_order.chain z y x low.0 h, lower x y zs h low.1)

rises_put : (d : Diag) (ys : List Diag) → Rises ys → Rises (put_in d ys)
rises_put d [] up = (tt, tt)
rises_put d (y ∷ ys) up =
    let at : (b : Bool) → before y d ≡ b → Rises (cond b (y ∷ put_in d ys) (d ∷ y ∷ ys)) =
    λ b. elim b as (λ b. before y d ≡ b → Rises (cond b (y ∷ put_in d ys) (d ∷ y ∷ ys))) [
      | true ↦ λ e. (low_put y d ys (an_order.one_way y d e) up.0, rises_put d ys up.1)
      | false ↦ λ e. ((e, lower d y ys e up.0), up)
    ] in
    at (before y d) refl

rises : (ds : List Diag) → Rises (by_place ds)
rises [] = tt
rises (d ∷ ds) = rises_put d (by_place ds) (rises ds)

low_at : (x : Diag) (ys : List Diag) → ((k : ℕ) (d : Diag) → k < length ys → before (get_or ys k d) x ≡ false) → Low x ys
low_at x [] h = tt
low_at x (y ∷ ys) h = (h 0 y (omega arith), low_at x ys (λ k d lt. h (suc k) d (omega arith)))

-- a list whose neighbours ascend
rises_from : (ys : List Diag) → ((i j : ℕ) (d : Diag) → i ≤ j → j < length ys → before (get_or ys j d) (get_or ys i d) ≡ false) → Rises ys
rises_from [] h = tt
rises_from (y ∷ ys) h =
    (low_at y ys (λ k d lt. h 0 (suc k) d (omega arith) (omega arith)), rises_from ys (λ i j d le lt. h (suc i) (suc j) d (omega arith) (omega arith)))

next_at : (ys : List Diag) (k : ℕ) (d : Diag) → Rises ys → suc k < length ys → before (get_or ys (suc k) d) (get_or ys k d) ≡ false
next_at [] k d up lt = absurd (omega arith)
next_at (y ∷ []) k d up lt = absurd (omega arith)
next_at (y ∷ z ∷ ys) zero d up lt = up.0.0
next_at (y ∷ z ∷ ys) (suc k) d up lt = next_at (z ∷ ys) k d up.1 (omega arith)

-- ---- there is one such list

low_found : (x y : Diag) (zs : List Diag) → Low x zs → (h : Diag) (r : List Diag) → filter (ties before y) zs ≡ h ∷ r → before y x ≡ false
low_found x y [] low h r e = cc
low_found x y (z ∷ zs) low h r e =
    let at : (b : Bool) → ties before y z ≡ b → cond b (z ∷ filter (ties before y) zs) (filter (ties before y) zs) ≡ h ∷ r → before y x ≡ false =
    λ b. elim b as (λ b. ties before y z ≡ b → cond b (z ∷ filter (ties before y) zs) (filter (ties before y) zs) ≡ h ∷ r → before y x ≡ false) [
      | true ↦ λ f g. an_order.chain y z x (both_false _ _ f).0 low.0
      | false ↦ λ f g. low_found x y zs low.1 h r g
    ] in
    at (ties before y z) refl e

tied : (x y : Diag) → before x y ≡ false → before y x ≡ false → ties before x y ≡ true
tied x y h k = rw (h, k) refl

with_itself : (x : Diag) (xs : List Diag) → filter (ties before x) (x ∷ xs) ≡ x ∷ filter (ties before x) xs
with_itself x xs = ap (λ b. cond b (x ∷ filter (ties before x) xs) (filter (ties before x) xs)) (tied x x (irreflexive x) (irreflexive x))

rest_same : (b : Bool) (x : Diag) (xs ys : List Diag) → cond b (x ∷ xs) xs ≡ cond b (x ∷ ys) ys → xs ≡ ys
rest_same true x xs ys e = cc
rest_same false x xs ys e = e

-- two lists that ascend, and have those of each place in one order
unique : (xs ys : List Diag) → Rises xs → Rises ys → ((x : Diag) → filter (ties before x) xs ≡ filter (ties before x) ys) → xs ≡ ys
unique [] [] up vp same = refl
unique [] (y ∷ ys) up vp same = let e = same y ∙ with_itself y ys in cc
unique (x ∷ xs) [] up vp same = let e = sym (same x) ∙ with_itself x xs in cc
unique (x ∷ xs) (y ∷ ys) up vp same =
    let yx : before y x ≡ false = low_found x y (x ∷ xs) (irreflexive x, up.0) y (filter (ties before y) ys) (same y ∙ with_itself y ys) in
    let xy : before x y ≡ false = low_found y x (y ∷ ys) (irreflexive y, vp.0) x (filter (ties before x) xs) (sym (same x) ∙ with_itself x xs) in
    let e : filter (ties before x) (y ∷ ys) ≡ y ∷ filter (ties before x) ys =
    ap (λ b. cond b (y ∷ filter (ties before x) ys) (filter (ties before x) ys)) (tied x y xy yx) in
    let one : x ∷ filter (ties before x) xs ≡ y ∷ filter (ties before x) ys = sym (with_itself x xs) ∙ same x ∙ e in
    let head : x ≡ y = cc in
    let tails : (z : Diag) → filter (ties before z) xs ≡ filter (ties before z) ys =
    λ z. rest_same (ties before z x) x _ _ (same z ∙ sym (ap (λ w. filter (ties before z) (w ∷ ys)) head)) in
    ap (λ w. w ∷ xs) head ∙ ap (λ l. y ∷ l) (unique xs ys up.1 vp.1 tails)

-- what a stable sort of a list gives
stable_is_by_place : (ds ys : List Diag) → IsSortedBy before ys → IsStableBy before ds ys → ys ≡ by_place ds
stable_is_by_place ds ys up stable =
    unique ys (by_place ds) (rises_from ys (sorted_far before an_order ys up)) (rises ds) (λ x. stable x ∙ sym (tied_kept x ds))

pub sorted_by_span : {F : Type 0} {g : Mut F (Bor Diag × Unit {0}) Span} {f : F} (ds ys : List Diag)
    → ((key : Diag → Span) → ComputesKey g key f → IsSortedBy (λ d other. compared (key d) (key other)) ys)
    → ((key : Diag → Span) → ComputesKey g key f → IsStableBy (λ d other. compared (key d) (key other)) ds ys)
    → ((a : Bor Diag × Unit {0}) (r : Span) (f' : F) → Called g f a r f' → (r ≡ a.0.now.span) × (f' ≡ f))
    → ys ≡ by_place ds
sorted_by_span {g = g} {f = f} ds ys up stable h =
    let key : Diag → Span = λ d. d.span in
    let computes : ComputesKey g key f = always_returns_same g (λ a r. r ≡ a.0.now.span) f h in
    let lt : Diag → Diag → Bool = λ d other. compared d.span other.span in
    let same : lt ≡ before = λ i d other. by_compare d.span other.span i in
    stable_is_by_place ds ys (subst (λ (t : Diag → Diag → Bool). IsSortedBy t ys) same (up key computes)) (subst (λ (t : Diag → Diag → Bool). IsStableBy t ds ys) same (stable key computes))

-- ---- the laws

permuted_put : (d : Diag) (ys : List Diag) → IsPermutation (d ∷ ys) (put_in d ys)
permuted_put d [] = IsPermutation-refl (d ∷ [])
permuted_put d (y ∷ ys) =
    elim (before y d) as (λ b. IsPermutation (d ∷ y ∷ ys) (cond b (y ∷ put_in d ys) (d ∷ y ∷ ys))) [
      | true ↦ IsPermutation-trans _ _ _ (IsPermutation-middle (d ∷ []) y ys) (IsPermutation-cons y _ _ (permuted_put d ys))
      | false ↦ IsPermutation-refl (d ∷ y ∷ ys)
    ]

pub all_kept : KeepsAll
all_kept [] = IsPermutation-refl []
all_kept (d ∷ ds) = IsPermutation-trans _ _ _ (IsPermutation-cons d _ _ (all_kept ds)) (permuted_put d (by_place ds))

pub ascending : Ascends
ascending ds k d le lt =
    subst (λ n. before (get_or (by_place ds) n d) (get_or (by_place ds) k d) ≡ false) (sym (add-one k)) (next_at (by_place ds) k d (rises ds) (omega arith))

at_one_place : (p a b c x y : ℕ) → (nat_lt a b || (a == b && nat_lt x y)) ≡ true → (((a == p) && (x == c)) && ((b == p) && (y == c))) ≡ false
at_one_place p a b c x y h = grind (arith, nat_tests)

pub in_order_of_a_place : KeepsOrderOfAPlace
in_order_of_a_place ds place =
    kept (is_at place) (λ y d h. at_one_place place.line y.span.line d.span.line place.col y.span.col d.span.col h) ds
