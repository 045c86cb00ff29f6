-- The pairs of dicts: where a test passes among the machine's, and what is left where one is taken out.
use Rattle.std.proofs.Common.{◌≡◌, refl, sym, ap, ◌∙◌, ℕ, zero, suc, ◌+◌, Bool, not, cond, List, [], ◌∷◌, ◌++◌, length, take, drop, Option, Some, None}
use Rattle.std.specs.Prelude.{map, nat_lt}
use Rattle.std.specs.List.{prefix_len, position_or_len, position}
use Rattle.std.proofs.lemmas.List.{map-append, length-map}
use Rattle.c_core.specs.Cells.{Cells}
use Rattle.c_core.specs.Keys.{Key}
use Rattle.c_core.specs.Machine.{Word}
use Rattle.cell_heap.specs.declared.word.Word as word
use Rattle.cell_heap.specs.declared.content.Content as held
use Rattle.cell_heap.specs.declared.pairs.Pairs.{Pairs}
use Rattle.cell_heap.specs.declared.content.Content.TheVariants.{Dict}
use Rattle.cell_heap.specs.Contents.{pair_named, content_named}
use Rattle.cell_heap.specs.Marks.{first_words}
use Rattle.cell_heap.specs.Words.{set_value}
use Rattle.cell_heap.specs.Pairs.{pairs_held}
use Rattle.cell_heap.specs.Placed.{Placed, held_at, key_under, place_among, place_under}

-- ---- the place at which a test passes
prefix_mapped : {A B : Type 0} (f : A → B) (p : B → Bool) (xs : List A) → prefix_len p (map f xs) ≡ prefix_len (λ x. p (f x)) xs
prefix_mapped f p [] = refl
prefix_mapped f p (x ∷ xs) = ap (λ n. cond (p (f x)) (1 + n) 0) (prefix_mapped f p xs)

pub position_mapped : {A B : Type 0} (f : A → B) (p : B → Bool) (xs : List A) → position (λ x. p (f x)) xs ≡ position p (map f xs)
position_mapped f p xs =
    let n = position_or_len (λ x. p (f x)) xs in
    sym (ap (λ k. cond (nat_lt k (length (map f xs))) (Some k) None) (prefix_mapped f (λ y. not (p y)) xs)
    ∙ ap (λ m. cond (nat_lt n m) (Some n) None) (length-map xs f))

-- what holds no dict has no place for a key
no_pairs : (x : held.Content) → ((dict : Pairs) → x ≡ Dict dict → ⊥) → pairs_held (Some (content_named x)) ≡ []
no_pairs (Dict dict) other = absurd (other dict refl)
no_pairs _ other = refl

none_among : (cells : Cells Placed) (o : Option Key) → None ≡ place_among cells o []
none_among cells None = refl
none_among cells (Some k) = refl

pub no_place : (cells : Cells Placed) (name : ℕ) (w : Word) (x : held.Content) → held_at cells name ≡ Some (content_named x) → ((dict : Pairs) → x ≡ Dict dict → ⊥) → None ≡ place_under cells name w
no_place cells name w x there other =
    none_among cells (key_under cells w)
    ∙ sym (ap (λ o. place_among cells (key_under cells w) (pairs_held o)) there ∙ ap (place_among cells (key_under cells w)) (no_pairs x other))

-- ---- a pair is taken out
map_take : {A B : Type 0} (f : A → B) (i : ℕ) (xs : List A) → map f (take i xs) ≡ take i (map f xs)
map_take f zero xs = refl
map_take f (suc i) [] = refl
map_take f (suc i) (x ∷ xs) = ap (λ ys. f x ∷ ys) (map_take f i xs)

map_drop : {A B : Type 0} (f : A → B) (i : ℕ) (xs : List A) → map f (drop i xs) ≡ drop i (map f xs)
map_drop f zero xs = refl
map_drop f (suc i) [] = refl
map_drop f (suc i) (x ∷ xs) = map_drop f i xs

pub map_without : {A B : Type 0} (f : A → B) (i : ℕ) (xs : List A) → map f (take i xs ++ drop (i + 1) xs) ≡ take i (map f xs) ++ drop (i + 1) (map f xs)
map_without f i xs =
    map-append f (take i xs) (drop (i + 1) xs)
    ∙ ap (λ ys. ys ++ map f (drop (i + 1) xs)) (map_take f i xs)
    ∙ ap (λ ys. take i (map f xs) ++ ys) (map_drop f (i + 1) xs)

-- ---- a value is written
firsts_of : (ps : List (word.Word × word.Word)) → first_words ps ≡ map (λ p. p.0) (map pair_named ps)
firsts_of [] = refl
firsts_of (p ∷ ps) = ap (λ ws. (pair_named p).0 ∷ ws) (firsts_of ps)

firsts_stay : (ps : List (Word × Word)) (i : ℕ) (o : Option Word) → map (λ p. p.0) (set_value ps i o) ≡ map (λ p. p.0) ps
firsts_stay [] i o = refl
firsts_stay (p ∷ ps) zero o = refl
firsts_stay (p ∷ ps) (suc i) o = ap (λ ws. p.0 ∷ ws) (firsts_stay ps i o)

pub keys_written : (ps qs : List (word.Word × word.Word)) (i : ℕ) (o : Option Word) → map pair_named qs ≡ set_value (map pair_named ps) i o → first_words qs ≡ first_words ps
keys_written ps qs i o is =
    firsts_of qs ∙ ap (map (λ p. p.0)) is ∙ firsts_stay (map pair_named ps) i o ∙ sym (firsts_of ps)
