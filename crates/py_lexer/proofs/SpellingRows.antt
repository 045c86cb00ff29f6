-- The rules of spelling at small texts, and that each escape of the table stands for its own character and for nothing else.
use Rattle.std.proofs.Common.{◌≡◌, ◌≢◌, ℕ, Bool, true, false, not, List, [], ◌∷◌, length, codes, refl, ap, sym, subst, ◌∙◌, arith, inl, inr, eqb-true, eq-eqb, ne_eqb, Contains}
use Rattle.std.specs.Prelude.{◌==◌, ◌||◌, ◌&&◌}
use Rattle.std.specs.Char.{is_digit}
use Rattle.std.specs.List.{AllByRecursion, list_all}
use Rattle.std.proofs.lemmas.List.Sums.{AllPass-from_list_all}
use Rattle.py_lexer.specs.Digits.{IsRow, place_value}
use Rattle.py_lexer.specs.Escapes.{simple_escapes, hex_letters, escape_signs, IsEscape, Joins, Simple, Octal, Hex, Stays}
use Rattle.py_lexer.proofs.Spelled.{first_true, second_true}
use Rattle.py_lexer.proofs.DigitLemmas.{digit_back}

-- values by places
places : (place_value 10 (1 ∷ 0 ∷ 7 ∷ []) ≡ 107) × (place_value 16 (15 ∷ 10 ∷ []) ≡ 250) × (place_value 2 (1 ∷ 0 ∷ 1 ∷ []) ≡ 5) × (place_value 8 [] ≡ 0)
places = (refl, refl, refl, refl)

-- a row of two digits, in either case and with an underscore before the first one
row : IsRow 16 (15 ∷ 15 ∷ []) (codes "_fF")
row = (102, codes "F", inr refl, (omega arith, inl refl), (70, [], inl refl, (omega arith, inr refl), refl))

-- a character is a key of the escapes with this one value, and begins no other escape
abbrev is_only : ℕ → ℕ → Bool
is_only c d =
    not (c == 10)
    && (not (is_digit c 8)
    && (list_all (λ e. not (e.0 == c) || e.1 == d) simple_escapes
    && (list_all (λ e. not (e.0 == c)) hex_letters && not (list_all (λ s. not (s == c)) escape_signs))))

each_only : list_all (λ e. is_only e.0 e.1) simple_escapes ≡ true
each_only = refl

all_at : {A : Type 0} (p : A → Bool) (xs : List A) (x : A) → Contains xs x → list_all p xs ≡ true → p x ≡ true
all_at p xs x h all = subst (λ y. p y ≡ true) h.2 (AllPass-from_list_all p xs all h.0 x h.1)

-- a test and its denial
never : {A : Type 0} (b : Bool) → b ≡ true → not b ≡ true → A
never true h k = cc
never false h k = cc

by_key : (c d x y : ℕ) → x ≡ c → (not (x == c) || y == d) ≡ true → y ≡ d
by_key c d x y is h =
    let e : (x == c) ≡ true = eq-eqb x c is in
    eqb-true y d (subst (λ b. (not b || y == d) ≡ true) e h)

none_of : (c x : ℕ) (signs : List ℕ) → x ≡ c → AllByRecursion (λ s. x ≢ s) signs → list_all (λ s. not (s == c)) signs ≡ true
none_of c x [] is h = refl
none_of c x (s ∷ signs) is h =
    let e : (s == c) ≡ false = ne_eqb s c (λ k. h.0 (is ∙ sym k)) in
    rw e (none_of c x signs is h.1)

one_character : (c x : ℕ) (more : List ℕ) → c ∷ [] ≡ x ∷ more → x ≡ c
one_character c x more is = cc

only : (c d : ℕ) (rest value : List ℕ) → is_only c d ≡ true → IsEscape (c ∷ []) rest value → value ≡ d ∷ []
only c d rest value h (Joins text is) = never (c == 10) (eq-eqb c 10 (sym (one_character c 10 [] text))) (first_true _ _ h)
only c d rest value h (Simple x y text row is) =
    let test = first_true _ _ (second_true (not (is_digit c 8)) _ (second_true (not (c == 10)) _ h)) in
    is ∙ ap (λ z. z ∷ []) (by_key c d x y (one_character c x [] text) (all_at (λ e. not (e.0 == c) || e.1 == d) simple_escapes (x, y) row test))
only c d rest value h (Octal [] are some longest is scalar) = cc
only c d rest value h (Octal (o ∷ os) are some longest is scalar) =
    let digit : is_digit c 8 ≡ true = subst (λ x. is_digit x 8 ≡ true) (one_character c are.0 are.1 are.2) (digit_back 8 are.0 o (omega arith) are.3) in
    never (is_digit c 8) digit (first_true _ _ (second_true (not (c == 10)) _ h))
only c d rest value h (Hex letter digits ds text row are is scalar) =
    let test = first_true _ _ (second_true (list_all (λ e. not (e.0 == c) || e.1 == d) simple_escapes) _ (second_true (not (is_digit c 8)) _ (second_true (not (c == 10)) _ h))) in
    never (letter == c) (eq-eqb letter c (one_character c letter digits text)) (all_at (λ e. not (e.0 == c)) hex_letters (letter, length ds) row test)
only c d rest value h (Stays x text none is) =
    let test = second_true (list_all (λ e. not (e.0 == c)) hex_letters) _ (second_true (list_all (λ e. not (e.0 == c) || e.1 == d) simple_escapes) _ (second_true (not (is_digit c 8)) _ (second_true (not (c == 10)) _ h))) in
    never (list_all (λ s. not (s == c)) escape_signs) (none_of c x escape_signs (one_character c x [] text) none) test

-- each escape of the table stands for its own character
simple_only : (c d : ℕ) (rest value : List ℕ) → Contains simple_escapes (c, d) → IsEscape (c ∷ []) rest value → value ≡ d ∷ []
simple_only c d rest value row h = only c d rest value (all_at (λ e. is_only e.0 e.1) simple_escapes (c, d) row each_only) h

-- so `\t` is a tab, and `\n` the end of a line
tab : (rest value : List ℕ) → IsEscape (codes "t") rest value → value ≡ 9 ∷ []
tab rest value h = only 116 9 rest value refl h

line_end : (rest value : List ℕ) → IsEscape (codes "n") rest value → value ≡ 10 ∷ []
line_end rest value h = only 110 10 rest value refl h
