-- A heap whose keys are its own is the machine's cells by number: each call by names is the call by numbers.
use Rattle.std.proofs.Common.{◌≡◌, refl, sym, ap, subst, ◌∙◌, ℕ, zero, suc, ◌+◌, ◌-◌, arith, Bool, not, cond, eq-eqb, List, [], ◌∷◌, ◌++◌, length, take, drop, slice_get, slice_set, Option, Some, None}
use Rattle.std.specs.Prelude.{map, is_some, nat_lt}
use Rattle.std.specs.List.{prefix_len}
use Rattle.std.specs.Option.{option_map, option_and_then, option_flatten, unwrap_or}
use Rattle.std.proofs.lemmas.List.{map-append, length-map}
use Rattle.c_core.specs.Cells.{Cell, Cells, change, counted, count_at, content_of, content_at, raised, lowered, one_less, make, take_one}
use Rattle.c_core.specs.Keys.{Key, key_in, key_of, is_key}
use Rattle.c_core.specs.Machine.{Word, ShortInt, BigInt, TaggedError, Native, CharWord, NoneObject, TrueObject, FalseObject, ObjectCell, NoObject, Content, IntCell, StrCell, ListCell, DictCell, TupleCell, InstCell, ExcCell, refs_of, refs, set_refs, pair_refs, refs_in}
use Rattle.c_core.specs.Release.{after, freed, freed_of, let_go, inside, weight, release_some, release}
use Rattle.cell_heap.specs.declared.word.Word as heap
use Rattle.cell_heap.specs.declared.word.Word.TheVariants as words
use Rattle.cell_heap.specs.declared.content.Content as held
use Rattle.cell_heap.specs.declared.content.Content.TheVariants as contents
use Rattle.cell_heap.specs.Contents as called
use Rattle.cell_heap.specs.Contents.{slot_in, serial_in, word_named, pair_named, content_named}
use Rattle.cell_heap.specs.Held.{cell_at, IsLeft}
use Rattle.cell_heap.specs.Numbers.{numbers_from, numbers_of}
use Rattle.cell_heap.specs.Numbered.{word_numbered, pair_numbered, content_numbered, cell_numbered, numbered}
use Rattle.cell_heap.specs.Ours.{slot_at, IsOurs, AreOurs, HoldsOurs}
use Rattle.cell_heap.specs.Pairs.{has_cell, pairs_held, place_for, place_at, is_dict, with_pair, pair_in, without_pair, pair_at}
use Rattle.cell_heap.specs.Placed.{Placed, lies_in, number_in, held_at, refs_under, in_place, refill_held, key_under, is_there, place_among, place_under}
use Rattle.cell_heap.specs.Words.{word_in, set_item, set_value, with_word, is_list, with_last, last_in, without_last, refill_by, word_at, last_at}
use Rattle.cell_heap.proofs.CellLemmas.{content_at-cell, count_at-cell, past, cell_gone, change-gone, rewritten, change-refill, changed_at, Alike, alike_change, freed-cell, cell_at-map, change-map}
use Rattle.cell_heap.proofs.OursLemmas.{number_gone, ours_number, ours_cell, one_pair-ours, left_itself, left_next, left_change, lowered_moves, contents_change, lowered_same, held_ours}
use Rattle.cell_heap.proofs.PairLemmas.{position_mapped}

-- ---- words and contents: a name's number is the number of the key
pub word_is : (w : heap.Word) → word_numbered (word_named w) ≡ called.word_of w
word_is (words.Short n) = refl
word_is (words.Big key) = refl
word_is words.TagError = refl
word_is (words.I64 n) = refl
word_is (words.Char n) = refl
word_is words.PyNone = refl
word_is words.PyTrue = refl
word_is words.PyFalse = refl
word_is (words.Cell key) = refl
word_is words.Null = refl

pub pair_is : (p : heap.Word × heap.Word) → pair_numbered (pair_named p) ≡ called.pair_of p
pair_is p = ap (λ w. (w, word_numbered (word_named p.1))) (word_is p.0) ∙ ap (λ w. (called.word_of p.0, w)) (word_is p.1)

pub optional_is : (o : Option heap.Word) → option_map word_numbered (option_map word_named o) ≡ option_map called.word_of o
optional_is None = refl
optional_is (Some w) = ap Some (word_is w)

pub optional_pair_is : (o : Option (heap.Word × heap.Word)) → option_map pair_numbered (option_map pair_named o) ≡ option_map called.pair_of o
optional_pair_is None = refl
optional_pair_is (Some p) = ap Some (pair_is p)

pub words_are : (ws : List heap.Word) → map word_numbered (map word_named ws) ≡ map called.word_of ws
words_are [] = refl
words_are (w ∷ ws) = ap (λ v. v ∷ map word_numbered (map word_named ws)) (word_is w) ∙ ap (λ vs. called.word_of w ∷ vs) (words_are ws)

pub pairs_are : (ps : List (heap.Word × heap.Word)) → map pair_numbered (map pair_named ps) ≡ map called.pair_of ps
pairs_are [] = refl
pairs_are (p ∷ ps) = ap (λ q. q ∷ map pair_numbered (map pair_named ps)) (pair_is p) ∙ ap (λ qs. called.pair_of p ∷ qs) (pairs_are ps)

pub attributes_are : (os : List (Option heap.Word)) → map (option_map word_numbered) (map (option_map word_named) os) ≡ map (option_map called.word_of) os
attributes_are [] = refl
attributes_are (o ∷ os) = ap (λ q. q ∷ map (option_map word_numbered) (map (option_map word_named) os)) (optional_is o) ∙ ap (λ qs. option_map called.word_of o ∷ qs) (attributes_are os)

pub content_is : (x : held.Content) → content_numbered (content_named x) ≡ called.content_of x
content_is (contents.Int n) = refl
content_is (contents.Str text) = refl
content_is (contents.List items) = ap ListCell (words_are items)
content_is (contents.Dict dict) = ap DictCell (pairs_are dict.pairs)
content_is (contents.Tuple items) = ap TupleCell (words_are items)
content_is (contents.Inst class attributes) = ap (InstCell class) (attributes_are attributes)
content_is (contents.Exc class text) = refl

-- ---- references
pub refs_of-numbered : (w : Word) → refs_of (word_numbered w) ≡ map serial_in (refs_of w)
refs_of-numbered (ShortInt n) = refl
refs_of-numbered (BigInt c) = refl
refs_of-numbered TaggedError = refl
refs_of-numbered (Native n) = refl
refs_of-numbered (CharWord n) = refl
refs_of-numbered (ObjectCell c) = refl
refs_of-numbered NoneObject = refl
refs_of-numbered TrueObject = refl
refs_of-numbered FalseObject = refl
refs_of-numbered NoObject = refl

both : {A B : Type 0} (f : A → B) (xs ys : List A) (us vs : List B) → us ≡ map f xs → vs ≡ map f ys → us ++ vs ≡ map f (xs ++ ys)
both f xs ys us vs u v = ap (λ l. l ++ vs) u ∙ ap (λ l. map f xs ++ l) v ∙ sym (map-append f xs ys)

pub refs-numbered : (ws : List Word) → refs (map word_numbered ws) ≡ map serial_in (refs ws)
refs-numbered [] = refl
refs-numbered (w ∷ ws) = both serial_in (refs_of w) (refs ws) (refs_of (word_numbered w)) (refs (map word_numbered ws)) (refs_of-numbered w) (refs-numbered ws)

pub set_refs-numbered : (os : List (Option Word)) → set_refs (map (option_map word_numbered) os) ≡ map serial_in (set_refs os)
set_refs-numbered [] = refl
set_refs-numbered (None ∷ os) = set_refs-numbered os
set_refs-numbered (Some w ∷ os) = both serial_in (refs_of w) (set_refs os) (refs_of (word_numbered w)) (set_refs (map (option_map word_numbered) os)) (refs_of-numbered w) (set_refs-numbered os)

pub pair_refs-numbered : (ps : List (Word × Word)) → pair_refs (map pair_numbered ps) ≡ map serial_in (pair_refs ps)
pair_refs-numbered [] = refl
pair_refs-numbered (p ∷ ps) =
    both serial_in (refs_of p.0) (refs_of p.1 ++ pair_refs ps) (refs_of (word_numbered p.0)) (refs_of (word_numbered p.1) ++ pair_refs (map pair_numbered ps)) (refs_of-numbered p.0)
    (both serial_in (refs_of p.1) (pair_refs ps) (refs_of (word_numbered p.1)) (pair_refs (map pair_numbered ps)) (refs_of-numbered p.1) (pair_refs-numbered ps))

pub refs_in-numbered : (x : Content) → refs_in (content_numbered x) ≡ map serial_in (refs_in x)
refs_in-numbered (IntCell n) = refl
refs_in-numbered (StrCell text) = refl
refs_in-numbered (ListCell items) = refs-numbered items
refs_in-numbered (DictCell pairs) = pair_refs-numbered pairs
refs_in-numbered (TupleCell items) = refs-numbered items
refs_in-numbered (InstCell class attributes) = set_refs-numbered attributes
refs_in-numbered (ExcCell e) = refl

-- ---- what a content is, whatever its cells are called
pub key_in-numbered : (x : Content) → key_in (content_numbered x) ≡ key_in x
key_in-numbered (IntCell n) = refl
key_in-numbered (StrCell text) = refl
key_in-numbered (ListCell items) = refl
key_in-numbered (DictCell pairs) = refl
key_in-numbered (TupleCell items) = refl
key_in-numbered (InstCell class attributes) = refl
key_in-numbered (ExcCell e) = refl

pub is_list-numbered : (x : Content) → is_list (content_numbered x) ≡ is_list x
is_list-numbered (IntCell n) = refl
is_list-numbered (StrCell text) = refl
is_list-numbered (ListCell items) = refl
is_list-numbered (DictCell pairs) = refl
is_list-numbered (TupleCell items) = refl
is_list-numbered (InstCell class attributes) = refl
is_list-numbered (ExcCell e) = refl

pub is_dict-numbered : (x : Content) → is_dict (content_numbered x) ≡ is_dict x
is_dict-numbered (IntCell n) = refl
is_dict-numbered (StrCell text) = refl
is_dict-numbered (ListCell items) = refl
is_dict-numbered (DictCell pairs) = refl
is_dict-numbered (TupleCell items) = refl
is_dict-numbered (InstCell class attributes) = refl
is_dict-numbered (ExcCell e) = refl

-- ---- lists seen through a function
set-map : {A B : Type 0} (f : A → B) (xs : List A) (i : ℕ) (y : A) → map f (slice_set xs i y) ≡ slice_set (map f xs) i (f y)
set-map f [] i y = refl
set-map f (x ∷ xs) zero y = refl
set-map f (x ∷ xs) (suc i) y = ap (λ z. f x ∷ z) (set-map f xs i y)

get-map : {A B : Type 0} (f : A → B) (xs : List A) (i : ℕ) → option_map f (slice_get xs i) ≡ slice_get (map f xs) i
get-map f [] i = refl
get-map f (x ∷ xs) zero = refl
get-map f (x ∷ xs) (suc i) = get-map f xs i

flat-map : {A B : Type 0} (f : A → B) (xs : List (Option A)) (i : ℕ) → option_map f (option_flatten (slice_get xs i)) ≡ option_flatten (slice_get (map (option_map f) xs) i)
flat-map f [] i = refl
flat-map f (None ∷ xs) zero = refl
flat-map f (Some x ∷ xs) zero = refl
flat-map f (x ∷ xs) (suc i) = flat-map f xs i

take-map : {A B : Type 0} (f : A → B) (i : ℕ) (xs : List A) → map f (take i xs) ≡ take i (map f xs)
take-map f zero xs = refl
take-map f (suc i) [] = refl
take-map f (suc i) (x ∷ xs) = ap (λ ys. f x ∷ ys) (take-map f i xs)

drop-map : {A B : Type 0} (f : A → B) (i : ℕ) (xs : List A) → map f (drop i xs) ≡ drop i (map f xs)
drop-map f zero xs = refl
drop-map f (suc i) [] = refl
drop-map f (suc i) (x ∷ xs) = drop-map f i xs

value-get : (ps : List (Word × Word)) (i : ℕ) → option_map word_numbered (option_map (λ p. p.1) (slice_get ps i)) ≡ option_map (λ p. p.1) (slice_get (map pair_numbered ps) i)
value-get [] i = refl
value-get (p ∷ ps) zero = refl
value-get (p ∷ ps) (suc i) = value-get ps i

unwrap-map : (o : Option Word) (w : Word) → word_numbered (unwrap_or o w) ≡ unwrap_or (option_map word_numbered o) (word_numbered w)
unwrap-map None w = refl
unwrap-map (Some v) w = refl

value-set : (ps : List (Word × Word)) (i : ℕ) (o : Option Word) → map pair_numbered (set_value ps i o) ≡ set_value (map pair_numbered ps) i (option_map word_numbered o)
value-set [] i o = refl
value-set (p ∷ ps) zero o = ap (λ w. (word_numbered p.0, w) ∷ map pair_numbered ps) (unwrap-map o p.1)
value-set (p ∷ ps) (suc i) o = ap (λ z. pair_numbered p ∷ z) (value-set ps i o)

item-set : (ws : List Word) (i : ℕ) (o : Option Word) → map word_numbered (set_item ws i o) ≡ set_item (map word_numbered ws) i (option_map word_numbered o)
item-set ws i None = refl
item-set ws i (Some w) = set-map word_numbered ws i w

-- ---- what is read of a content
pub word_in-numbered : (i : ℕ) (x : Content) → option_map word_numbered (word_in i x) ≡ word_in i (content_numbered x)
word_in-numbered i (IntCell n) = refl
word_in-numbered i (StrCell text) = refl
word_in-numbered i (ListCell items) = get-map word_numbered items i
word_in-numbered i (DictCell pairs) = value-get pairs i
word_in-numbered i (TupleCell items) = get-map word_numbered items i
word_in-numbered i (InstCell class attributes) = flat-map word_numbered attributes i
word_in-numbered i (ExcCell e) = refl

pub last_in-numbered : (x : Content) → option_map word_numbered (last_in x) ≡ last_in (content_numbered x)
last_in-numbered (IntCell n) = refl
last_in-numbered (StrCell text) = refl
last_in-numbered (ListCell items) = get-map word_numbered items (length items - 1) ∙ ap (λ n. slice_get (map word_numbered items) (n - 1)) (sym (length-map items word_numbered))
last_in-numbered (DictCell pairs) = refl
last_in-numbered (TupleCell items) = refl
last_in-numbered (InstCell class attributes) = refl
last_in-numbered (ExcCell e) = refl

pub pair_in-numbered : (i : ℕ) (x : Content) → option_map pair_numbered (pair_in i x) ≡ pair_in i (content_numbered x)
pair_in-numbered i (IntCell n) = refl
pair_in-numbered i (StrCell text) = refl
pair_in-numbered i (ListCell items) = refl
pair_in-numbered i (DictCell pairs) = get-map pair_numbered pairs i
pair_in-numbered i (TupleCell items) = refl
pair_in-numbered i (InstCell class attributes) = refl
pair_in-numbered i (ExcCell e) = refl

-- ---- what becomes of a content
pub with_word-numbered : (i : ℕ) (o : Option Word) (x : Content) → content_numbered (with_word i o x) ≡ with_word i (option_map word_numbered o) (content_numbered x)
with_word-numbered i o (IntCell n) = refl
with_word-numbered i o (StrCell text) = refl
with_word-numbered i o (ListCell items) = ap ListCell (item-set items i o)
with_word-numbered i o (DictCell pairs) = ap DictCell (value-set pairs i o)
with_word-numbered i o (TupleCell items) = ap TupleCell (item-set items i o)
with_word-numbered i o (InstCell class attributes) = ap (InstCell class) (set-map (option_map word_numbered) attributes i o)
with_word-numbered i o (ExcCell e) = refl

pub with_last-numbered : (w : Word) (x : Content) → content_numbered (with_last w x) ≡ with_last (word_numbered w) (content_numbered x)
with_last-numbered w (IntCell n) = refl
with_last-numbered w (StrCell text) = refl
with_last-numbered w (ListCell items) = ap ListCell (map-append word_numbered items (w ∷ []))
with_last-numbered w (DictCell pairs) = refl
with_last-numbered w (TupleCell items) = refl
with_last-numbered w (InstCell class attributes) = refl
with_last-numbered w (ExcCell e) = refl

pub without_last-numbered : (x : Content) → content_numbered (without_last x) ≡ without_last (content_numbered x)
without_last-numbered (IntCell n) = refl
without_last-numbered (StrCell text) = refl
without_last-numbered (ListCell items) =
    ap ListCell (take-map word_numbered (length items - 1) items ∙ ap (λ n. take (n - 1) (map word_numbered items)) (sym (length-map items word_numbered)))
without_last-numbered (DictCell pairs) = refl
without_last-numbered (TupleCell items) = refl
without_last-numbered (InstCell class attributes) = refl
without_last-numbered (ExcCell e) = refl

pub with_pair-numbered : (p : Word × Word) (x : Content) → content_numbered (with_pair p x) ≡ with_pair (pair_numbered p) (content_numbered x)
with_pair-numbered p (IntCell n) = refl
with_pair-numbered p (StrCell text) = refl
with_pair-numbered p (ListCell items) = refl
with_pair-numbered p (DictCell pairs) = ap DictCell (map-append pair_numbered pairs (p ∷ []))
with_pair-numbered p (TupleCell items) = refl
with_pair-numbered p (InstCell class attributes) = refl
with_pair-numbered p (ExcCell e) = refl

pub without_pair-numbered : (i : ℕ) (x : Content) → content_numbered (without_pair i x) ≡ without_pair i (content_numbered x)
without_pair-numbered i (IntCell n) = refl
without_pair-numbered i (StrCell text) = refl
without_pair-numbered i (ListCell items) = refl
without_pair-numbered i (DictCell pairs) =
    ap DictCell (
    map-append pair_numbered (take i pairs) (drop (i + 1) pairs)
    ∙ ap (λ l. l ++ map pair_numbered (drop (i + 1) pairs)) (take-map pair_numbered i pairs)
    ∙ ap (λ l. take i (map pair_numbered pairs) ++ l) (drop-map pair_numbered (i + 1) pairs)
    )
without_pair-numbered i (TupleCell items) = refl
without_pair-numbered i (InstCell class attributes) = refl
without_pair-numbered i (ExcCell e) = refl

-- ---- cells
pub numbered-length : (cells : Cells Placed) → length (numbered cells) ≡ length cells
numbered-length cells = length-map cells (option_map cell_numbered)

pub numbered-numbers : (cells : Cells Placed) → numbers_of (numbered cells) ≡ numbers_of cells
numbered-numbers cells = from 0 cells
  where
    from : (n : ℕ) (cells : Cells Placed) → numbers_from n (numbered cells) ≡ numbers_from n cells
    from n [] = refl
    from n (None ∷ cells) = from (n + 1) cells
    from n (Some cell ∷ cells) = ap (λ ns. n ∷ ns) (from (n + 1) cells)

pub numbered-make : (p : Placed) (cells : Cells Placed) → numbered (make p cells) ≡ make (content_numbered p.holds) (numbered cells)
numbered-make p cells = map-append (option_map cell_numbered) cells (Some (record { count = 1; content = p }) ∷ [])

pub numbered-counts : (cells : Cells Placed) (c : ℕ) → count_at (numbered cells) c ≡ count_at cells c
numbered-counts cells c =
    count_at-cell (numbered cells) c ∙ ap counted (cell_at-map cell_numbered cells c) ∙ of_cell (cell_at cells c) ∙ sym (count_at-cell cells c)
  where
    of_cell : (o : Option (Cell Placed)) → counted (option_map cell_numbered o) ≡ counted o
    of_cell None = refl
    of_cell (Some cell) = refl

pub numbered-contents : (cells : Cells Placed) (c : ℕ) → content_at (numbered cells) c ≡ option_map (λ placed. content_numbered placed.holds) (content_at cells c)
numbered-contents cells c =
    content_at-cell (numbered cells) c
    ∙ ap content_of (cell_at-map cell_numbered cells c)
    ∙ of_cell (cell_at cells c)
    ∙ sym (ap (option_map (λ placed. content_numbered placed.holds)) (content_at-cell cells c))
  where
    of_cell : (o : Option (Cell Placed)) → content_of (option_map cell_numbered o) ≡ option_map (λ placed. content_numbered placed.holds) (content_of o)
    of_cell None = refl
    of_cell (Some cell) = refl

-- ---- by a name that is the heap's own
pub numbered-content : (cells : Cells Placed) (name : ℕ) → IsOurs cells name → content_at (numbered cells) (serial_in name) ≡ option_map content_numbered (held_at cells name)
numbered-content cells name ours =
    numbered-contents cells (serial_in name)
    ∙ ap (option_map (λ placed. content_numbered placed.holds)) (content_at-cell cells (serial_in name) ∙ ap content_of (sym (ours_cell cells name ours)) ∙ sym (content_at-cell cells (number_in cells name)))
    ∙ of_content (content_at cells (number_in cells name))
  where
    of_content : (o : Option Placed) → option_map (λ placed. content_numbered placed.holds) o ≡ option_map content_numbered (option_map (λ placed. placed.holds) o)
    of_content None = refl
    of_content (Some p) = refl

is_some-map : {A B : Type 0} (f : A → B) (o : Option A) → is_some (option_map f o) ≡ is_some o
is_some-map f None = refl
is_some-map f (Some a) = refl

pub numbered-there : (cells : Cells Placed) (name : ℕ) → IsOurs cells name → is_some (content_at (numbered cells) (serial_in name)) ≡ is_some (held_at cells name)
numbered-there cells name ours = ap is_some (numbered-content cells name ours) ∙ is_some-map content_numbered (held_at cells name)

pub numbered-count : (cells : Cells Placed) (name : ℕ) → IsOurs cells name → count_at (numbered cells) (serial_in name) ≡ count_at cells (number_in cells name)
numbered-count cells name ours =
    numbered-counts cells (serial_in name)
    ∙ count_at-cell cells (serial_in name)
    ∙ ap counted (sym (ours_cell cells name ours))
    ∙ sym (count_at-cell cells (number_in cells name))

and_then-map : {A B C D : Type 0} (f : A → B) (g : C → D) (own : A → Option C) (by : B → Option D) (o : Option A) → ((a : A) → option_map g (own a) ≡ by (f a)) → option_map g (option_and_then own o) ≡ option_and_then by (option_map f o)
and_then-map f g own by None same = refl
and_then-map f g own by (Some a) same = same a

pub numbered-word : (cells : Cells Placed) (name i : ℕ) → IsOurs cells name → option_map word_numbered (option_and_then (word_in i) (held_at cells name)) ≡ word_at (numbered cells) (serial_in name) i
numbered-word cells name i ours =
    and_then-map content_numbered word_numbered (word_in i) (word_in i) (held_at cells name) (word_in-numbered i)
    ∙ ap (option_and_then (word_in i)) (sym (numbered-content cells name ours))

pub numbered-last : (cells : Cells Placed) (name : ℕ) → IsOurs cells name → option_map word_numbered (option_and_then last_in (held_at cells name)) ≡ last_at (numbered cells) (serial_in name)
numbered-last cells name ours =
    and_then-map content_numbered word_numbered last_in last_in (held_at cells name) last_in-numbered
    ∙ ap (option_and_then last_in) (sym (numbered-content cells name ours))

pub numbered-pair : (cells : Cells Placed) (name i : ℕ) → IsOurs cells name → option_map pair_numbered (option_and_then (pair_in i) (held_at cells name)) ≡ pair_at (numbered cells) (serial_in name) i
numbered-pair cells name i ours =
    and_then-map content_numbered pair_numbered (pair_in i) (pair_in i) (held_at cells name) (pair_in-numbered i)
    ∙ ap (option_and_then (pair_in i)) (sym (numbered-content cells name ours))

-- a change of the cell of a name
ours_change : (by : Option (Cell Placed) → Option (Cell Placed)) (cells : Cells Placed) (name : ℕ) → by None ≡ None → IsOurs cells name → change by (number_in cells name) cells ≡ change by (serial_in name) cells
ours_change by cells name none ours = of_content (content_at cells (serial_in name)) refl
  where
    of_content : (o : Option Placed) → content_at cells (serial_in name) ≡ o → change by (number_in cells name) cells ≡ change by (serial_in name) cells
    of_content None gone =
        let here = cell_gone cells (serial_in name) gone in
        change-gone by (number_in cells name) cells none (ours_cell cells name ours ∙ here) ∙ sym (change-gone by (serial_in name) cells none here)
    of_content (Some p) there =
        ap (λ c. change by c cells) (ap (λ b. cond b (serial_in name) (length cells)) (ap (lies_in (slot_in name)) there ∙ eq-eqb p.slot (slot_in name) (ours.slot p.slot (ap (option_map (λ q. q.slot)) there))))

pub numbered-take : (cells : Cells Placed) (name : ℕ) → IsOurs cells name → numbered (take_one (number_in cells name) cells) ≡ take_one (serial_in name) (numbered cells)
numbered-take cells name ours =
    ap numbered (ours_change raised cells name refl ours) ∙ change-map cell_numbered raised raised (serial_in name) cells of_cell
  where
    of_cell : (o : Option (Cell Placed)) → option_map cell_numbered (raised o) ≡ raised (option_map cell_numbered o)
    of_cell None = refl
    of_cell (Some cell) = refl

pub numbered-refill : (f g : Content → Content) (cells : Cells Placed) (name : ℕ) → ((x : Content) → content_numbered (f x) ≡ g (content_numbered x)) → IsOurs cells name → numbered (refill_held f name cells) ≡ refill_by g (serial_in name) (numbered cells)
numbered-refill f g cells name same ours =
    ap numbered (sym (change-refill (in_place f) (number_in cells name) cells) ∙ ours_change (rewritten (in_place f)) cells name refl ours)
    ∙ change-map cell_numbered (rewritten g) (rewritten (in_place f)) (serial_in name) cells of_cell
    ∙ change-refill g (serial_in name) (numbered cells)
  where
    of_cell : (o : Option (Cell Placed)) → option_map cell_numbered (rewritten (in_place f) o) ≡ rewritten g (option_map cell_numbered o)
    of_cell None = refl
    of_cell (Some cell) = ap (λ x. Some (record { count = cell.count; content = x })) (same cell.content.holds)

-- ---- dicts
pub numbered-key : (cells : Cells Placed) (w : Word) → AreOurs cells (refs_of w) → key_of (numbered cells) (word_numbered w) ≡ key_under cells w
numbered-key cells (ShortInt n) ours = refl
numbered-key cells (BigInt c) ours = refl
numbered-key cells TaggedError ours = refl
numbered-key cells (Native n) ours = refl
numbered-key cells (CharWord n) ours = refl
numbered-key cells (ObjectCell name) ours = ap (option_and_then key_in) (numbered-content cells name ours.0) ∙ of_content (held_at cells name)
  where
    of_content : (o : Option Content) → option_and_then key_in (option_map content_numbered o) ≡ option_and_then key_in o
    of_content None = refl
    of_content (Some x) = key_in-numbered x
numbered-key cells NoneObject ours = refl
numbered-key cells TrueObject ours = refl
numbered-key cells FalseObject ours = refl
numbered-key cells NoObject ours = refl

pub numbered-has_cell : (cells : Cells Placed) (w : Word) → AreOurs cells (refs_of w) → has_cell (numbered cells) (word_numbered w) ≡ is_there cells w
numbered-has_cell cells (ShortInt n) ours = refl
numbered-has_cell cells (BigInt name) ours = numbered-there cells name ours.0
numbered-has_cell cells TaggedError ours = refl
numbered-has_cell cells (Native n) ours = refl
numbered-has_cell cells (CharWord n) ours = refl
numbered-has_cell cells (ObjectCell name) ours = numbered-there cells name ours.0
numbered-has_cell cells NoneObject ours = refl
numbered-has_cell cells TrueObject ours = refl
numbered-has_cell cells FalseObject ours = refl
numbered-has_cell cells NoObject ours = refl

-- ---- the place of a key
prefix_same : (p q : Word × Word → Bool) (ps : List (Word × Word)) → ((i : ℕ) (pair : Word × Word) → slice_get ps i ≡ Some pair → p pair ≡ q pair) → prefix_len (λ pair. not (p pair)) ps ≡ prefix_len (λ pair. not (q pair)) ps
prefix_same p q [] same = refl
prefix_same p q (pair ∷ ps) same =
    ap (λ b. cond (not b) (1 + prefix_len (λ pair. not (p pair)) ps) 0) (same 0 pair refl)
    ∙ ap (λ n. cond (not (q pair)) (1 + n) 0) (prefix_same p q ps (λ i other at. same (suc i) other at))

pairs-numbered : (o : Option Content) → pairs_held (option_map content_numbered o) ≡ map pair_numbered (pairs_held o)
pairs-numbered None = refl
pairs-numbered (Some (IntCell n)) = refl
pairs-numbered (Some (StrCell text)) = refl
pairs-numbered (Some (ListCell items)) = refl
pairs-numbered (Some (DictCell pairs)) = refl
pairs-numbered (Some (TupleCell items)) = refl
pairs-numbered (Some (InstCell class attributes)) = refl
pairs-numbered (Some (ExcCell e)) = refl

pairs-ours : (cells : Cells Placed) (name : ℕ) → HoldsOurs cells → AreOurs cells (pair_refs (pairs_held (held_at cells name)))
pairs-ours cells name holds = of_content (held_at cells name) refl
  where
    of_content : (o : Option Content) → held_at cells name ≡ o → AreOurs cells (pair_refs (pairs_held o))
    of_content None at = tt
    of_content (Some (DictCell pairs)) at = held_ours cells name (DictCell pairs) holds at
    of_content (Some _) at = tt

pub numbered-among : (cells : Cells Placed) (o : Option Key) (ps : List (Word × Word)) → AreOurs cells (pair_refs ps) → place_for (numbered cells) o (map pair_numbered ps) ≡ place_among cells o ps
numbered-among cells None ps ours = refl
numbered-among cells (Some k) ps ours =
    let by = λ (p : Word × Word). is_key k (key_of (numbered cells) p.0) in
    sym (position_mapped pair_numbered by ps)
    ∙ ap (λ n. cond (nat_lt n (length ps)) (Some n) None)
    (prefix_same (λ p. is_key k (key_of (numbered cells) (word_numbered p.0))) (λ p. is_key k (key_under cells p.0)) ps (λ i p at. ap (is_key k) (numbered-key cells p.0 (one_pair-ours cells ps i p ours at).0)))

pub numbered-place : (cells : Cells Placed) (name : ℕ) (w : Word) → HoldsOurs cells → IsOurs cells name → AreOurs cells (refs_of w) → place_at (numbered cells) (serial_in name) (word_numbered w) ≡ place_under cells name w
numbered-place cells name w holds ours own =
    ap (λ o. place_for (numbered cells) o (pairs_held (content_at (numbered cells) (serial_in name)))) (numbered-key cells w own)
    ∙ ap (place_for (numbered cells) (key_under cells w)) (ap pairs_held (numbered-content cells name ours) ∙ pairs-numbered (held_at cells name))
    ∙ numbered-among cells (key_under cells w) (pairs_held (held_at cells name)) (pairs-ours cells name holds)

-- ---- references are given up
abbrev AreAlike : Cells Placed → List ℕ → List ℕ → Type 0
AreAlike cells [] [] = Unit {0}
AreAlike cells [] (n ∷ ns) = ⊥
AreAlike cells (m ∷ ms) [] = ⊥
AreAlike cells (m ∷ ms) (n ∷ ns) = Alike cells m n × AreAlike cells ms ns

both_alike : (cells : Cells Placed) (ms us ns vs : List ℕ) → AreAlike cells ms ns → AreAlike cells us vs → AreAlike cells (ms ++ us) (ns ++ vs)
both_alike cells [] us [] vs first second = second
both_alike cells [] us (n ∷ ns) vs first second = absurd first
both_alike cells (m ∷ ms) us [] vs first second = absurd first
both_alike cells (m ∷ ms) us (n ∷ ns) vs first second = (first.0, both_alike cells ms us ns vs first.1 second)

lowered_none : (o : Option (Cell Placed)) → o ≡ None → lowered o ≡ None
lowered_none o is = ap lowered is

alike_after : (cells : Cells Placed) (c m n : ℕ) → Alike cells m n → Alike (after c cells) m n
alike_after cells c m n alike = of_cell (cell_at cells n) refl
  where
    gone : (k : ℕ) → cell_at cells k ≡ None → cell_at (after c cells) k ≡ None
    gone k is = changed_at (λ o. o ≡ None) lowered c k cells is (lowered_none (cell_at cells k) is)

    of_cell : (o : Option (Cell Placed)) → cell_at cells n ≡ o → Alike (after c cells) m n
    of_cell None at = record {
      cell = gone m (alike.cell ∙ at) ∙ sym (gone n at);
      same = λ cell is. absurd (let e = sym (gone n at) ∙ is in cc);
    }
    of_cell (Some cell) at =
        let is = alike.same cell at in
        record { cell = ap (cell_at (after c cells)) is; same = λ other there. is }

are_alike_after : (cells : Cells Placed) (c : ℕ) (ms ns : List ℕ) → AreAlike cells ms ns → AreAlike (after c cells) ms ns
are_alike_after cells c [] [] alike = tt
are_alike_after cells c [] (n ∷ ns) alike = alike
are_alike_after cells c (m ∷ ms) [] alike = alike
are_alike_after cells c (m ∷ ms) (n ∷ ns) alike = (alike_after cells c m n alike.0, are_alike_after cells c ms ns alike.1)

-- the names of a content, of which the first cells were the owner
names_alike : (first cells : Cells Placed) (names : List ℕ) → IsLeft first cells → AreOurs first names → AreAlike cells (map (number_in first) names) (map serial_in names)
names_alike first cells [] left ours = tt
names_alike first cells (name ∷ names) left ours = (one, names_alike first cells names left ours.1)
  where
    of_content : (o : Option Placed) → content_at first (serial_in name) ≡ o → Alike cells (number_in first name) (serial_in name)
    of_content (Some p) there =
        let is = ours_number first name p ours.0 there in
        record { cell = ap (cell_at cells) is; same = λ cell at. is }
    of_content None gone =
        let number = number_gone first name gone in
        let beyond : cell_at cells (number_in first name) ≡ None = ap (cell_at cells) number ∙ past cells (length first) (omega (arith, left.made)) in
        let lost : (o : Option (Cell Placed)) → cell_at cells (serial_in name) ≡ o → cell_at cells (serial_in name) ≡ None = λ o at. no_cell o at in
        record {
          cell = beyond ∙ sym (lost (cell_at cells (serial_in name)) refl);
          same = λ cell at. absurd (let e = sym (lost (cell_at cells (serial_in name)) refl) ∙ at in cc);
        }
      where
        no_cell : (o : Option (Cell Placed)) → cell_at cells (serial_in name) ≡ o → cell_at cells (serial_in name) ≡ None
        no_cell None at = at
        no_cell (Some cell) at =
            let was : slot_at first (serial_in name) ≡ Some cell.content.slot =
            left.slots (serial_in name) cell.content.slot (ap (option_map (λ p. p.slot)) (content_at-cell cells (serial_in name) ∙ ap content_of at)) in
            absurd (let e = sym (ap (option_map (λ (p : Placed). p.slot)) gone) ∙ was in cc)

    one : Alike cells (number_in first name) (serial_in name)
    one = of_content (content_at first (serial_in name)) refl

-- contents hold names that the first cells own
abbrev HoldsOf : Cells Placed → Cells Placed → Type 0
HoldsOf first cells = (n : ℕ) (p : Placed) → content_at cells n ≡ Some p → AreOurs first (refs_in p.holds)

freed_alike : (first cells : Cells Placed) (c m n : ℕ) → IsLeft first (after c cells) → HoldsOf first cells → Alike cells m n → AreAlike (after c cells) (freed (refs_under first) m cells) (freed refs_in n (numbered cells))
freed_alike first cells c m n left holds alike =
    subst (λ ns. AreAlike (after c cells) (freed (refs_under first) m cells) ns) (sym (freed-cell refs_in (numbered cells) n ∙ ap (freed_of refs_in) (cell_at-map cell_numbered cells n)))
    (subst (λ ms. AreAlike (after c cells) ms (freed_of refs_in (option_map cell_numbered (cell_at cells n)))) (sym (freed-cell (refs_under first) cells m ∙ ap (freed_of (refs_under first)) alike.cell))
    (of_cell (cell_at cells n) refl))
  where
    inner : (p : Placed) → content_at cells n ≡ Some p → AreAlike (after c cells) (refs_under first p) (refs_in (content_numbered p.holds))
    inner p at = subst (λ ns. AreAlike (after c cells) (refs_under first p) ns) (sym (refs_in-numbered p.holds)) (names_alike first (after c cells) (refs_in p.holds) left (holds n p at))

    of_count : (k : ℕ) (p : Placed) → content_at cells n ≡ Some p → AreAlike (after c cells) (let_go (refs_under first) k p) (let_go refs_in k (content_numbered p.holds))
    of_count zero p at = inner p at
    of_count (suc zero) p at = inner p at
    of_count (suc (suc k)) p at = tt

    of_cell : (o : Option (Cell Placed)) → cell_at cells n ≡ o → AreAlike (after c cells) (freed_of (refs_under first) o) (freed_of refs_in (option_map cell_numbered o))
    of_cell None at = tt
    of_cell (Some cell) at = of_count cell.count cell.content (content_at-cell cells n ∙ ap content_of at)

numbered-after : (cells : Cells Placed) (c : ℕ) → numbered (after c cells) ≡ after c (numbered cells)
numbered-after cells c = change-map cell_numbered lowered lowered c cells of_cell
  where
    of_count : (n : ℕ) (p : Placed) → option_map cell_numbered (one_less n p) ≡ one_less n (content_numbered p.holds)
    of_count zero p = refl
    of_count (suc zero) p = refl
    of_count (suc (suc n)) p = refl

    of_cell : (o : Option (Cell Placed)) → option_map cell_numbered (lowered o) ≡ lowered (option_map cell_numbered o)
    of_cell None = refl
    of_cell (Some cell) = of_count cell.count cell.content

numbered-some : (first : Cells Placed) (k : ℕ) (cells : Cells Placed) (ms ns : List ℕ) → IsLeft first cells → HoldsOf first cells → AreAlike cells ms ns → numbered (release_some (refs_under first) k cells ms) ≡ release_some refs_in k (numbered cells) ns
numbered-some first zero cells ms ns left holds alike = refl
numbered-some first (suc k) cells [] [] left holds alike = refl
numbered-some first (suc k) cells [] (n ∷ ns) left holds alike = absurd alike
numbered-some first (suc k) cells (m ∷ ms) [] left holds alike = absurd alike
numbered-some first (suc k) cells (m ∷ ms) (n ∷ ns) left holds alike =
    let next = after m cells in
    let rest : IsLeft first next = left_next first cells next left (left_change lowered m cells lowered_moves) in
    numbered-some first k next (freed (refs_under first) m cells ++ ms) (freed refs_in n (numbered cells) ++ ns) rest (λ c p is. holds c p (contents_change lowered m cells lowered_same c p is))
    (both_alike next (freed (refs_under first) m cells) ms (freed refs_in n (numbered cells)) ns (freed_alike first cells m m n rest holds alike.0) (are_alike_after cells m ms ns alike.1))
    ∙ ap (λ h. release_some refs_in k h (freed refs_in n (numbered cells) ++ ns)) (ap numbered (alike_change lowered cells m n refl alike.0) ∙ numbered-after cells n)

numbered-weight : (first cells : Cells Placed) → weight (refs_under first) cells ≡ weight refs_in (numbered cells)
numbered-weight first [] = refl
numbered-weight first (o ∷ cells) = omega (arith, of_cell o, numbered-weight first cells)
  where
    of_cell : (o : Option (Cell Placed)) → length (inside (refs_under first) o) ≡ length (inside refs_in (option_map cell_numbered o))
    of_cell None = refl
    of_cell (Some cell) =
        length-map (refs_in cell.content.holds) (number_in first)
        ∙ sym (length-map (refs_in cell.content.holds) serial_in)
        ∙ ap length (sym (refs_in-numbered cell.content.holds))

pub numbered-release : (cells : Cells Placed) (names : List ℕ) → HoldsOurs cells → AreOurs cells names → numbered (release (refs_under cells) cells (map (number_in cells) names)) ≡ release refs_in (numbered cells) (map serial_in names)
numbered-release cells names holds ours =
    numbered-some cells (length (map (number_in cells) names) + weight (refs_under cells) cells) cells (map (number_in cells) names) (map serial_in names) (left_itself cells) holds (names_alike cells cells names (left_itself cells) ours)
    ∙ ap (λ n. release_some refs_in n (numbered cells) (map serial_in names)) fuel
  where
    fuel : length (map (number_in cells) names) + weight (refs_under cells) cells ≡ length (map serial_in names) + weight refs_in (numbered cells)
    fuel = omega (arith, length-map names (number_in cells), length-map names serial_in, numbered-weight cells cells)

pub numbered-give : (cells : Cells Placed) (name : ℕ) → HoldsOurs cells → IsOurs cells name → numbered (release (refs_under cells) cells (number_in cells name ∷ [])) ≡ release refs_in (numbered cells) (serial_in name ∷ [])
numbered-give cells name holds ours = numbered-release cells (name ∷ []) holds (ours, tt)
