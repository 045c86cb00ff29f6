-- Rising numbers.
use Rattle.std.proofs.Common.{◌≡◌, ℕ, zero, suc, ◌+◌, ◌<◌, ◌≤◌, ◌⊎◌, true, false, List, [], ◌∷◌, ◌++◌, length, Some, None, cond, refl, sym, ap, ◌∙◌, ◌-◌, ⊎_elim, arith, get_or}
use Rattle.std.specs.Prelude.{slice_get, ◌||◌, nat_lt, nat_eq}
use Rattle.std.proofs.lemmas.Bool.Decides.{nat_tests}
use Rattle.std.proofs.lemmas.Option.{slice_get_within, get_or_from_slice_get}
use Rattle.liveness.specs.Paths.{is_among}
use Rattle.liveness.specs.Rising.{IsRising, IsAtMost, next_from, later, last_below}

pub lt_test : (a b : ℕ) → a < b → nat_lt a b ≡ true
lt_test a b h = grind (arith, nat_tests)

pub ge_test : (a b : ℕ) → b ≤ a → nat_lt a b ≡ false
ge_test a b h = grind (arith, nat_tests)

pub lt_tells : (a b : ℕ) → ((nat_lt a b ≡ true) × (a < b)) ⊎ ((nat_lt a b ≡ false) × (b ≤ a))
lt_tells a b = grind (arith, nat_tests)

pub eq_tells : (a b : ℕ) → ((nat_eq a b ≡ true) × (a ≡ b)) ⊎ ((nat_eq a b ≡ false) × (a ≡ b → ⊥))
eq_tells a b = grind (arith, nat_tests)

pub eq_same : (a : ℕ) → nat_eq a a ≡ true
eq_same a = grind (arith, nat_tests)

-- where none is below a bound
pub none_below : (xs : List ℕ) (bound : ℕ) → ((i : ℕ) → i < length xs → bound ≤ get_or xs i 0) → last_below xs bound ≡ None
none_below [] bound h = refl
none_below (x ∷ xs) bound h =
    ap (λ z. cond z (later x (last_below xs bound)) (last_below xs bound)) (ge_test x bound (h 0 (omega arith))) ∙ none_below xs bound (λ i lt. h (suc i) (omega (arith, lt)))

pub before_some : (n : ℕ) → (n ≡ 0 → ⊥) → suc (n - 1) ≡ n
before_some zero h = absurd (h refl)
before_some (suc n) h = omega arith

slice_get_there : (xs : List ℕ) (i : ℕ) → i < length xs → (x : ℕ) × (slice_get xs i ≡ Some x)
slice_get_there [] i lt = absurd (omega (arith, lt))
slice_get_there (x ∷ xs) zero lt = (x, refl)
slice_get_there (x ∷ xs) (suc i) lt = slice_get_there xs i (omega (arith, lt))

pub next_split : (xs : List ℕ) (bound p : ℕ) → p ≤ length xs → ((i : ℕ) → i < p → get_or xs i 0 < bound) → ((i : ℕ) → p ≤ i → i < length xs → bound ≤ get_or xs i 0) → slice_get xs p ≡ next_from xs bound
next_split [] bound p le below behind = refl
next_split (x ∷ xs) bound zero le below behind =
    let first : bound ≤ x = behind 0 (omega arith) (omega arith) in
    rw (ge_test x bound first) refl
next_split (x ∷ xs) bound (suc p) le below behind =
    let first : x < bound = below 0 (omega arith) in
    rw (lt_test x bound first) (next_split xs bound p (omega (arith, le)) (λ i lt. below (suc i) (omega (arith, lt))) (λ i ge lt. behind (suc i) (omega (arith, ge)) (omega (arith, lt))))

-- the last one below a bound, where those below it come first
pub last_split : (xs : List ℕ) (bound p : ℕ) → suc p ≤ length xs → ((i : ℕ) → i < suc p → get_or xs i 0 < bound) → ((i : ℕ) → suc p ≤ i → i < length xs → bound ≤ get_or xs i 0) → slice_get xs p ≡ last_below xs bound
last_split [] bound p le below behind = absurd (omega (arith, le))
last_split (x ∷ xs) bound zero le below behind =
    let first : x < bound = below 0 (omega arith) in
    let none = none_below xs bound (λ i lt. behind (suc i) (omega arith) (omega (arith, lt))) in
    sym (ap (λ z. cond z (later x (last_below xs bound)) (last_below xs bound)) (lt_test x bound first) ∙ ap (later x) none)
last_split (x ∷ xs) bound (suc p) le below behind =
    let first : x < bound = below 0 (omega arith) in
    let rest = last_split xs bound p (omega (arith, le)) (λ i lt. below (suc i) (omega (arith, lt))) (λ i ge lt. behind (suc i) (omega (arith, ge)) (omega (arith, lt))) in
    let there = slice_get_there xs p (omega (arith, le)) in
    let is : last_below xs bound ≡ Some there.0 = sym rest ∙ there.1 in
    there.1 ∙ sym (ap (λ z. cond z (later x (last_below xs bound)) (last_below xs bound)) (lt_test x bound first) ∙ ap (later x) is)

pub none_among : (xs : List ℕ) (n : ℕ) → ((i : ℕ) → i < length xs → get_or xs i 0 ≡ n → ⊥) → is_among xs n ≡ false
none_among [] n h = refl
none_among (x ∷ xs) n h =
    ⊎_elim
    (λ a. absurd (h 0 (omega arith) a.1))
    (λ a. rw a.0 (none_among xs n (λ i lt. h (suc i) (omega (arith, lt)))))
    (eq_tells x n)

pub among_at : (xs : List ℕ) (i n : ℕ) → i < length xs → get_or xs i 0 ≡ n → is_among xs n ≡ true
among_at [] i n lt e = absurd (omega (arith, lt))
among_at (x ∷ xs) zero n lt e =
    ap (λ z. nat_eq z n || is_among xs n) e ∙ ap (λ z. z || is_among xs n) (eq_same n)
among_at (x ∷ xs) (suc i) n lt e =
    ⊎_elim
    (λ a. ap (λ z. z || is_among xs n) a.0)
    (λ a. ap (λ z. z || is_among xs n) a.0 ∙ among_at xs i n (omega (arith, lt)) e)
    (eq_tells x n)

-- where a number would stand, it stands
pub found_there : (xs : List ℕ) (n p f : ℕ) → IsRising xs → ((i : ℕ) → i < p → get_or xs i 0 < n) → ((i : ℕ) → p ≤ i → i < length xs → n ≤ get_or xs i 0) → p < length xs → get_or xs p 0 ≡ f → nat_eq f n ≡ is_among xs n
found_there xs n p f rising below behind lt e =
    ⊎_elim
    (λ a. a.0 ∙ sym (among_at xs p n lt (e ∙ a.1)))
    (λ a.
    a.0 ∙ sym (none_among xs n (λ i within same. elsewhere i within same a.1 (lt_tells i p))))
    (eq_tells f n)
  where
    elsewhere : (i : ℕ) → i < length xs → get_or xs i 0 ≡ n → (f ≡ n → ⊥) → ((nat_lt i p ≡ true) × (i < p)) ⊎ ((nat_lt i p ≡ false) × (p ≤ i)) → ⊥
    elsewhere i within same other which =
        ⊎_elim
        (λ a. let h = below i a.1 in absurd (omega (arith, h, same)))
        (λ a.
        ⊎_elim
        (λ b. let h = rising p i b.1 within in let g = behind p (omega arith) lt in absurd (omega (arith, h, g, same, e)))
        (λ b. let z : i ≡ p = omega (arith, a.1, b.1) in other (sym e ∙ ap (λ j. get_or xs j 0) (sym z) ∙ same))
        (lt_tells p i))
        which

pub not_there : (xs : List ℕ) (n p : ℕ) → ((i : ℕ) → i < p → get_or xs i 0 < n) → length xs ≤ p → false ≡ is_among xs n
not_there xs n p below le =
    sym (none_among xs n (λ i lt same. let h = below i (omega (arith, lt, le)) in absurd (omega (arith, h, same))))

pub size_more : (xs : List ℕ) (n : ℕ) → length (xs ++ n ∷ []) ≡ length xs + 1
size_more [] n = omega arith
size_more (x ∷ xs) n = omega (arith, size_more xs n)

pub past_end : {A : Type 0} (xs : List A) (i : ℕ) → slice_get xs i ≡ None → length xs ≤ i
past_end [] i e = omega arith
past_end (x ∷ xs) zero e = let f : Some x ≡ None = e in absurd (cc)
past_end (x ∷ xs) (suc i) e = omega (arith, past_end xs i e)

-- where none is larger, a number stands at the end or nowhere
pub last_among : (xs : List ℕ) (n last : ℕ) → IsRising xs → IsAtMost n xs → slice_get xs (length xs - 1) ≡ Some last → nat_eq last n ≡ is_among xs n
last_among xs n last rising most is =
    let lt = slice_get_within xs (length xs - 1) last is in
    let at = get_or_from_slice_get xs (length xs - 1) last 0 is in
    ⊎_elim
    (λ a. a.0 ∙ sym (among_at xs (length xs - 1) n lt (at ∙ a.1)))
    (λ a.
    a.0 ∙ sym (none_among xs n (λ i within same. before i within same lt at a.1 (lt_tells i (length xs - 1)))))
    (eq_tells last n)
  where
    before : (i : ℕ) → i < length xs → get_or xs i 0 ≡ n → length xs - 1 < length xs → get_or xs (length xs - 1) 0 ≡ last → (last ≡ n → ⊥) → ((nat_lt i (length xs - 1) ≡ true) × (i < length xs - 1)) ⊎ ((nat_lt i (length xs - 1) ≡ false) × (length xs - 1 ≤ i)) → ⊥
    before i within same lt at other which =
        ⊎_elim
        (λ a.
        let h = rising i (length xs - 1) a.1 lt in
        let le = most (length xs - 1) lt in
        omega (arith, h, le, same))
        (λ a.
        let here : i ≡ length xs - 1 = omega (arith, a.1, within) in
        other (sym at ∙ ap (λ z. get_or xs z 0) (sym here) ∙ same))
        which

pub no_last : (xs : List ℕ) (n : ℕ) → slice_get xs (length xs - 1) ≡ None → false ≡ is_among xs n
no_last [] n e = refl
no_last (x ∷ xs) n e =
    let le = past_end (x ∷ xs) (length (x ∷ xs) - 1) e in
    absurd (omega (arith, le))
