-- The steps by which lists are split and counts are parted.
use Rattle.std.proofs.Common.{◌≡◌, ℕ, zero, suc, ◌+◌, ◌<◌, ◌⊎◌, List, [], ◌∷◌, ◌++◌, ◌-◌, take, drop, length, get_or, Some, None, refl, sym, ap, ◌∙◌, inl, inr, ⊎_elim, subst, arith, append_assoc, length-append}
use Rattle.std.specs.Prelude.{slice_get}
use Rattle.c_core.specs.Cells.{same, times}
use Rattle.refcount_insert.specs.declared.sharing.EdgeCounts.{EdgeCounts}
use Rattle.refcount_insert.specs.declared.pairs.Part.{Part}
use Rattle.refcount_insert.specs.Pairs.{IsSum, IsPair, IsAlone, AreParted}

-- ---- how often numbers stand in lists

push_times : (xs : List ℕ) (x r : ℕ) → times (xs ++ x ∷ []) r ≡ times xs r + same x r
push_times [] x r = omega arith
push_times (y ∷ xs) x r = omega (arith, push_times xs x r)

take_times : (xs : List ℕ) (i x : ℕ) → slice_get xs i ≡ Some x → (r : ℕ) → times (take (suc i) xs) r ≡ times (take i xs) r + same x r
take_times [] i x e r = absurd (cc)
take_times (y ∷ xs) zero x e r =
    let f : Some y ≡ Some x = e in
    let is : y ≡ x = cc in
    let one : same y r ≡ same x r = ap (λ z. same z r) is in
    omega (arith, one)
take_times (y ∷ xs) (suc i) x e r = omega (arith, take_times xs i x e r)

next_times : (xs : List ℕ) (i x : ℕ) → slice_get xs i ≡ Some x → (r : ℕ) → times (take (i + 1) xs) r ≡ times (take i xs) r + same x r
next_times xs i x e r =
    let z : i + 1 ≡ suc i = omega arith in ap (λ j. times (take j xs) r) z ∙ take_times xs i x e r

rest_times : (xs : List ℕ) (i r : ℕ) → times (take i xs) r + times (drop i xs) r ≡ times xs r
rest_times xs zero r = omega arith
rest_times [] (suc i) r = refl
rest_times (x ∷ xs) (suc i) r = omega (arith, rest_times xs i r)

append_times : (xs ys : List ℕ) (r : ℕ) → times (xs ++ ys) r ≡ times xs r + times ys r
append_times [] ys r = omega arith
append_times (x ∷ xs) ys r = omega (arith, append_times xs ys r)

get_within : (xs : List ℕ) (i : ℕ) → i < length xs → slice_get xs i ≡ Some (get_or xs i 0)
get_within [] i lt = absurd (omega (arith, lt))
get_within (x ∷ xs) zero lt = refl
get_within (x ∷ xs) (suc i) lt = get_within xs i (omega (arith, lt))

-- numbers below a bound go behind others
pub below_pushed : (rest new start numbers : List ℕ) (place i : ℕ) (r : ℕ) → i < length numbers → new ≡ rest ++ get_or numbers i 0 ∷ [] → times rest r + times (take place numbers) r ≡ times start r + times (take i numbers) r → times new r + times (take place numbers) r ≡ times start r + times (take (i + 1) numbers) r
below_pushed rest new start numbers place i r lt is so_far =
    omega (arith, so_far, ap (λ z. times z r) is, push_times rest (get_or numbers i 0) r, next_times numbers i (get_or numbers i 0) (get_within numbers i lt) r)

-- a number that stands in both
pub both_pushed : (common new first second : List ℕ) (place x r : ℕ) → place < length second → get_or second place 0 ≡ x → new ≡ common ++ x ∷ [] → (times new r + times first r ≡ times common r + times first r + same x r) × (times new r + times (take place second) r ≡ times common r + times (take (place + 1) second) r)
both_pushed common new first second place x r lt found is =
    let there : slice_get second place ≡ Some x = get_within second place lt ∙ ap (λ z. Some z) found in
    let pushed : times new r ≡ times common r + same x r = ap (λ z. times z r) is ∙ push_times common x r in
    (omega (arith, pushed), omega (arith, pushed, next_times second place x there r))

-- one that stands in the first list alone
pub own_pushed : (common first new : List ℕ) (x r : ℕ) → new ≡ first ++ x ∷ [] → times common r + times new r ≡ times common r + times first r + same x r
own_pushed common first new x r is =
    let pushed : times new r ≡ times first r + same x r = ap (λ z. times z r) is ∙ push_times first x r in
    omega (arith, pushed)

-- one more number of the first list
pub split_first : (common first more own a : List ℕ) (i r : ℕ) → i < length a → times more r + times own r ≡ times common r + times first r + same (get_or a i 0) r → times common r + times first r ≡ times (take i a) r → times more r + times own r ≡ times (take (i + 1) a) r
split_first common first more own a i r lt pushed so_far =
    omega (arith, pushed, so_far, next_times a i (get_or a i 0) (get_within a i lt) r)

pub split_second : (common more second own b : List ℕ) (place next end r : ℕ) → times own r + times (take place b) r ≡ times second r + times (take next b) r → times more r + times (take next b) r ≡ times common r + times (take end b) r → times common r + times second r ≡ times (take place b) r → times more r + times own r ≡ times (take end b) r
split_second common more second own b place next end r below either so_far = omega (arith, below, either, so_far)

take_all : (xs : List ℕ) → take (length xs) xs ≡ xs
take_all [] = refl
take_all (x ∷ xs) = ap (λ z. x ∷ z) (take_all xs)

take_rest : (xs : List ℕ) (i : ℕ) → take (length xs - i) (drop i xs) ≡ drop i xs
take_rest xs zero = let z : length xs - 0 ≡ length xs = omega arith in ap (λ n. take n xs) z ∙ take_all xs
take_rest [] (suc i) = let z : 0 - suc i ≡ 0 = omega arith in ap (λ n. take {A = ℕ} n []) z
take_rest (x ∷ xs) (suc i) =
    let z : length (x ∷ xs) - suc i ≡ length xs - i = omega arith in
    ap (λ n. take n (drop i xs)) z ∙ take_rest xs i

pub whole_second : (common second new list : List ℕ) (place r : ℕ) → new ≡ second ++ take (length list - place) (drop place list) → times common r + times second r ≡ times (take place list) r → times common r + times new r ≡ times list r
whole_second common second new list place r is so_far =
    omega (arith, so_far, ap (λ z. times z r) (is ∙ ap (λ z. second ++ z) (take_rest list place)), append_times second (drop place list) r, rest_times list place r)

-- ---- counts in parts

get_more : {A : Type 0} (xs : List A) (y x : A) (i : ℕ) → slice_get xs i ≡ Some x → slice_get (xs ++ y ∷ []) i ≡ Some x
get_more [] y x i e = absurd (cc)
get_more (z ∷ xs) y x zero e = e
get_more (z ∷ xs) y x (suc i) e = get_more xs y x i e

get_new : {A : Type 0} (xs : List A) (y : A) → slice_get (xs ++ y ∷ []) (length xs) ≡ Some y
get_new [] y = refl
get_new (z ∷ xs) y = get_new xs y

get_either : {A : Type 0} (xs : List A) (y x : A) (i : ℕ) → slice_get (xs ++ y ∷ []) i ≡ Some x → (slice_get xs i ≡ Some x) ⊎ ((i ≡ length xs) × (y ≡ x))
get_either [] y x zero e = let f : Some y ≡ Some x = e in inr (refl, cc)
get_either [] y x (suc i) e = absurd (cc)
get_either (z ∷ xs) y x zero e = inl e
get_either (z ∷ xs) y x (suc i) e =
    ⊎_elim (λ h. inl h) (λ h. inr (ap suc h.0, h.1)) (get_either xs y x i e)

size_more : {A : Type 0} (xs : List A) (y : A) → length (xs ++ y ∷ []) ≡ suc (length xs)
size_more [] y = refl
size_more (x ∷ xs) y = ap suc (size_more xs y)

pub parted_none : (all : List EdgeCounts) → AreParted all [] []
parted_none all =
    record {
      sums = λ i x e. let f : None ≡ Some x = e in absurd (cc);
      from = λ j c e. let f : None ≡ Some c = e in absurd (cc);
    }

with_common : (all : List EdgeCounts) (parts : List Part) (commons : List EdgeCounts) (i : ℕ) (e c x : EdgeCounts) → AreParted all parts commons → slice_get all i ≡ Some e → IsSum c x e → AreParted all parts (commons ++ c ∷ [])
with_common all parts commons i e c x h there sum =
    record {
      sums = λ j y at. let one = h.sums j y at in (one.0, one.1, one.2, get_more commons c one.1 y.over one.3, one.4);
      from = λ j d at. ⊎_elim
          (λ old. h.from j d old)
          (λ new. (i, e, x, there, subst (λ z. IsSum z x e) new.1 sum))
          (get_either commons c d j at);
    }

with_part : (all : List EdgeCounts) (parts : List Part) (commons : List EdgeCounts) (e c : EdgeCounts) (x : Part) → AreParted all parts commons → slice_get all (length parts) ≡ Some e → slice_get commons x.over ≡ Some c → IsSum c x.own e → AreParted all (parts ++ x ∷ []) commons
with_part all parts commons e c x h there over sum =
    record {
      sums = λ i y at. ⊎_elim
          (λ old. h.sums i y old)
          (λ new. (e, c, ap (slice_get all) new.0 ∙ there, subst (λ (z : Part). slice_get commons z.over ≡ Some c) new.1 over, subst (λ (z : Part). IsSum c z.own e) new.1 sum))
          (get_either parts x y i at);
      from = h.from;
    }

pub parted_two : (all : List EdgeCounts) (parts more : List Part) (commons shared : List EdgeCounts) (a b : EdgeCounts) → AreParted all parts commons → slice_get all (length parts) ≡ Some a → slice_get all (length parts + 1) ≡ Some b → IsPair parts commons a b more shared → AreParted all more shared
parted_two all parts more commons shared a b h first second pair =
    let c : EdgeCounts = pair.0 in
    let p : Part = record { own = pair.1; over = length commons } in
    let q : Part = record { own = pair.2; over = length commons } in
    let over : slice_get (commons ++ c ∷ []) (length commons) ≡ Some c = get_new commons c in
    let common = with_common all parts commons (length parts) a c pair.1 h first pair.3 in
    let part = with_part all parts (commons ++ c ∷ []) a c p common first over pair.3 in
    let next : length (parts ++ p ∷ []) ≡ length parts + 1 = size_more parts p ∙ omega arith in
    let both = with_part all (parts ++ p ∷ []) (commons ++ c ∷ []) b c q part (ap (slice_get all) next ∙ second) over pair.4 in
    subst (λ z. AreParted all z shared) (append_assoc parts (p ∷ []) (q ∷ []) ∙ sym pair.5) (subst (AreParted all ((parts ++ p ∷ []) ++ q ∷ [])) (sym pair.6) both)

pub two_sizes : (parts more : List Part) (commons shared : List EdgeCounts) (a b : EdgeCounts) → IsPair parts commons a b more shared → (length more ≡ length parts + 2) × (length shared ≡ length commons + 1)
two_sizes parts more commons shared a b pair =
    let p : Part = record { own = pair.1; over = length commons } in
    let q : Part = record { own = pair.2; over = length commons } in
    (ap length pair.5 ∙ length-append parts (p ∷ q ∷ []), ap length pair.6 ∙ length-append commons (pair.0 ∷ []))

pub paired : (parts one two : List Part) (commons shared : List EdgeCounts) (a b c x y : EdgeCounts) → IsSum c x a → IsSum c y b → one ≡ parts ++ record { own = x; over = length commons } ∷ [] → two ≡ one ++ record { own = y; over = length commons } ∷ [] → shared ≡ commons ++ c ∷ [] → IsPair parts commons a b two shared
paired parts one two commons shared a b c x y first second is_one is_two is_shared =
    let p : Part = record { own = x; over = length commons } in
    let q : Part = record { own = y; over = length commons } in
    (c, x, y, first, second, is_two ∙ (ap (λ z. z ++ q ∷ []) is_one ∙ append_assoc parts (p ∷ []) (q ∷ [])), is_shared)

pub parted_last : (all : List EdgeCounts) (parts new : List Part) (commons more : List EdgeCounts) (e none : EdgeCounts) → AreParted all parts commons → slice_get all (length parts) ≡ Some e → none.ups ≡ [] → none.downs ≡ [] → new ≡ parts ++ record { own = none; over = length commons } ∷ [] → more ≡ commons ++ e ∷ [] → AreParted all new more
parted_last all parts new commons more e none h there no_ups no_downs is_new is_more =
    let p : Part = record { own = none; over = length commons } in
    let sum : IsSum e none e = λ r. (let up : times none.ups r ≡ 0 = ap (λ z. times z r) no_ups in omega (arith, up), let down : times none.downs r ≡ 0 = ap (λ z. times z r) no_downs in omega (arith, down)) in
    let common = with_common all parts commons (length parts) e e none h there sum in
    let part = with_part all parts (commons ++ e ∷ []) e e p common there (get_new commons e) sum in
    subst (λ z. AreParted all z more) (sym is_new) (subst (AreParted all (parts ++ p ∷ [])) (sym is_more) part)

pub parted_step : (all : List EdgeCounts) (parts more : List Part) (commons shared : List EdgeCounts) (a b : EdgeCounts) (i : ℕ) → length parts ≡ i → slice_get all i ≡ Some a → slice_get all (i + 1) ≡ Some b → AreParted all parts commons → IsPair parts commons a b more shared → AreParted all more shared
parted_step all parts more commons shared a b i size first second h pair =
    parted_two all parts more commons shared a b h (ap (slice_get all) size ∙ first) (ap (λ z. slice_get all (z + 1)) size ∙ second) pair

pub parted_alone : (all : List EdgeCounts) (parts more : List Part) (commons shared : List EdgeCounts) (e : EdgeCounts) (i : ℕ) → length parts ≡ i → slice_get all i ≡ Some e → AreParted all parts commons → IsAlone parts commons e more shared → AreParted all more shared
parted_alone all parts more commons shared e i size there h alone =
    parted_last all parts more commons shared e alone.0 h (ap (slice_get all) size ∙ there) alone.1 alone.2 alone.3 alone.4

pub alone_sizes : (parts more : List Part) (commons shared : List EdgeCounts) (e : EdgeCounts) → IsAlone parts commons e more shared → (length more ≡ length parts + 1) × (length shared ≡ length commons + 1)
alone_sizes parts more commons shared e alone =
    let p : Part = record { own = alone.0; over = length commons } in
    (ap length alone.3 ∙ length-append parts (p ∷ []), ap length alone.4 ∙ length-append commons (e ∷ []))

pub parted_same : (all : List EdgeCounts) (parts more : List Part) (commons shared : List EdgeCounts) → more ≡ parts → shared ≡ commons → AreParted all parts commons → AreParted all more shared
parted_same all parts more commons shared p c h =
    subst (λ z. AreParted all z shared) (sym p) (subst (AreParted all parts) (sym c) h)
