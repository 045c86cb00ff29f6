-- What primitives find in texts is what the source finds: their order, their length and their items.
use Rattle.ir_builder_operations.proofs.Common.{◌≡◌, refl, ◌∙◌, ap, ℕ, zero, suc, ◌<◌, ◌^◌, ◌-◌, arith, Bool, true, false, cond, List, [], ◌∷◌, length, Some, None, Ordering, Greater, ltb-true, ℤ, pos, negsuc, map, nat_lt, not, ◌==◌, ◌&&◌, ◌||◌, if◌then◌else◌, slice_get, option_map, nat_cmp, is_lt, ordering_then, chars, encode_utf8_all, bytes_eq, char_len, place_of, Value, StrVal, text_less, counted_length, comes_before, is_filled, counted, letters}
use Rattle.std.proofs.Common.{Less, Equal}
use Rattle.std.proofs.lemmas.List.{length-map}
use Rattle.std.specs.Cmp.Lexicographic.{slice_cmp}

-- ---- order

less_by : (x y : Bool) (o : Ordering) (r : Bool) → is_lt o ≡ r → is_lt (ordering_then (cond x Less (cond y Equal Greater)) o) ≡ (x || (y && r))
less_by true y o r e = refl
less_by false true o r e = e
less_by false false o r e = refl

pub less_is : (s t : List ℕ) → is_lt (slice_cmp nat_cmp s t) ≡ comes_before s t
less_is [] [] = refl
less_is (a ∷ s) [] = refl
less_is [] (b ∷ t) = refl
less_is (a ∷ s) (b ∷ t) = less_by (nat_lt a b) (a == b) (slice_cmp nat_cmp s t) (comes_before s t) (less_is s t)

pub text_less_is : (s t : List ℕ) → text_less s t ≡ comes_before (chars s) (chars t)
text_less_is s t = less_is (chars s) (chars t)

-- ---- length

pub filled_is : (t : List ℕ) → not (bytes_eq t []) ≡ is_filled t
filled_is [] = refl
filled_is (a ∷ t) = refl

counted_by : (b : Bool) (n : ℕ) → cond b n (2 ^ 127 - 1) ≡ (if b then n else 2 ^ 127 - 1)
counted_by true n = refl
counted_by false n = refl

pub counted_is : (n : ℕ) → counted_length n ≡ counted n
counted_is n = counted_by (nat_lt n (2 ^ 127)) n

-- ---- items

abbrev letter_of : ℕ → Value
letter_of c = StrVal (encode_utf8_all (c ∷ []))

pub letters_length : (text : List ℕ) → length (letters text) ≡ char_len text
letters_length text = length-map (chars text) letter_of

get_map : {A B : Type 0} (f : A → B) (xs : List A) (k : ℕ) → slice_get (map f xs) k ≡ option_map f (slice_get xs k)
get_map f [] k = refl
get_map f (x ∷ xs) zero = refl
get_map f (x ∷ xs) (suc k) = get_map f xs k

pub get_there : {A : Type 0} (xs : List A) (k : ℕ) → k < length xs → (x : A) × (slice_get xs k ≡ Some x)
get_there [] k lt = absurd (omega (arith, lt))
get_there (x ∷ xs) zero lt = (x, refl)
get_there (x ∷ xs) (suc k) lt = get_there xs k (omega (arith, lt))

place_by : (b : Bool) (n i j k : ℕ) → nat_lt i n ≡ b → (i < n → j < n) → cond b (Some j) None ≡ Some k → k < n
place_by true n i j k e low is = let same : j ≡ k = cc in let lt = low (ltb-true i n e) in omega (arith, same, lt)
place_by false n i j k e low is = let f : None ≡ Some k = is in absurd (cc)

pub place_below : (n : ℕ) (i : ℤ) (k : ℕ) → place_of n i ≡ Some k → k < n
place_below n (pos i) k is = place_by (nat_lt i n) n i i k refl (λ lt. lt) is
place_below n (negsuc i) k is = place_by (nat_lt i n) n i (n - suc i) k refl (λ lt. omega (arith, lt)) is

-- the item at a place, as the primitive and as the source find it
pub item_there : (text : List ℕ) (k : ℕ) → k < char_len text → (c : ℕ) × (slice_get (chars text) k ≡ Some c) × (slice_get (letters text) k ≡ Some (letter_of c))
item_there text k lt =
    let there = get_there (chars text) k lt in
    (there.0, there.1, get_map letter_of (chars text) k ∙ ap (option_map letter_of) there.1)
