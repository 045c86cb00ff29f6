-- Writes to items and pairs, in the heap's words and in the machine's, and the last item of a list.
use Rattle.std.proofs.Common.{◌≡◌, refl, sym, ap, ◌∙◌, ℕ, zero, suc, ◌-◌, arith, List, [], ◌∷◌, ◌++◌, length, Option, Some, None}
use Rattle.std.specs.Prelude.{map, slice_get, slice_set, MatchOption}
use Rattle.std.specs.Option.{option_map, option_flatten, unwrap_or}
use Rattle.std.proofs.lemmas.List.{map-append, length-append}
use Rattle.c_core.specs.Machine as machine
use Rattle.cell_heap.specs.declared.word.Word.{Word}
use Rattle.cell_heap.specs.Contents.{word_named, pair_named}
use Rattle.cell_heap.specs.Words.{set_value}

pub set_none : {A : Type 0} (xs : List A) (i : ℕ) (y : A) → slice_get xs i ≡ None → xs ≡ slice_set xs i y
set_none [] i y e = refl
set_none (x ∷ xs) zero y e = cc
set_none (x ∷ xs) (suc i) y e = ap (λ z. x ∷ z) (set_none xs i y e)

pub map_set : {A B : Type 0} (f : A → B) (xs : List A) (i : ℕ) (y : A) → map f (slice_set xs i y) ≡ slice_set (map f xs) i (f y)
map_set f [] i y = refl
map_set f (x ∷ xs) zero y = refl
map_set f (x ∷ xs) (suc i) y = ap (λ z. f x ∷ z) (map_set f xs i y)

pub map_get : {A B : Type 0} (f : A → B) (xs : List A) (i : ℕ) → option_map f (slice_get xs i) ≡ slice_get (map f xs) i
map_get f [] i = refl
map_get f (x ∷ xs) zero = refl
map_get f (x ∷ xs) (suc i) = map_get f xs i

pub flat_get : {A B : Type 0} (f : A → B) (xs : List (Option A)) (i : ℕ) → option_map f (option_flatten (slice_get xs i)) ≡ option_flatten (slice_get (map (option_map f) xs) i)
flat_get f [] i = refl
flat_get f (None ∷ xs) zero = refl
flat_get f (Some x ∷ xs) zero = refl
flat_get f (x ∷ xs) (suc i) = flat_get f xs i

-- ---- pairs
pub value_none : (ps : List (Word × Word)) (i : ℕ) (o : Option machine.Word) → slice_get ps i ≡ None → map pair_named ps ≡ set_value (map pair_named ps) i o
value_none [] i o e = refl
value_none (p ∷ ps) zero o e = cc
value_none (p ∷ ps) (suc i) o e = ap (λ z. pair_named p ∷ z) (value_none ps i o e)

or_mapped : (o : Option Word) (w : Word) → word_named (unwrap_or o w) ≡ unwrap_or (option_map word_named o) (word_named w)
or_mapped None w = refl
or_mapped (Some v) w = refl

pub value_set : (ps : List (Word × Word)) (i : ℕ) (o : Option Word) (old : Word × Word) → slice_get ps i ≡ Some old → map pair_named (slice_set ps i (old.0, unwrap_or o old.1)) ≡ set_value (map pair_named ps) i (option_map word_named o)
value_set [] i o old e = cc
value_set (p ∷ ps) zero o old e =
    let is : p ≡ old = cc in
    ap (λ (q : Word × Word). (word_named q.0, word_named (unwrap_or o q.1)) ∷ map pair_named ps) (sym is)
    ∙ ap (λ w. (word_named p.0, w) ∷ map pair_named ps) (or_mapped o p.1)
value_set (p ∷ ps) (suc i) o old e = ap (λ z. pair_named p ∷ z) (value_set ps i o old e)

-- ---- the last item
length_more : {A : Type 0} (xs : List A) (y : A) → length (xs ++ y ∷ []) - 1 ≡ length xs
length_more xs y = omega (arith, length-append xs (y ∷ []))

get_end : {A : Type 0} (xs : List A) (y : A) → slice_get (xs ++ y ∷ []) (length xs) ≡ Some y
get_end [] y = refl
get_end (x ∷ xs) y = get_end xs y

pub last_item : (items rest : List Word) (o : Option Word) → MatchOption o ((items ≡ []) × (rest ≡ [])) (λ w. items ≡ rest ++ w ∷ []) → option_map word_named o ≡ slice_get (map word_named items) (length (map word_named items) - 1)
last_item items rest None e = sym (ap (λ z. slice_get (map word_named z) (length (map word_named z) - 1)) e.0)
last_item items rest (Some w) e =
    let ws = map word_named rest in
    let is : map word_named items ≡ ws ++ word_named w ∷ [] = ap (map word_named) e ∙ map-append word_named rest (w ∷ []) in
    sym (ap (λ z. slice_get z (length z - 1)) is ∙ ap (slice_get (ws ++ word_named w ∷ [])) (length_more ws (word_named w)) ∙ get_end ws (word_named w))
