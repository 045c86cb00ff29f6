-- A heap that holds its own names alone, after a call of it.
use Rattle.std.proofs.Common.{◌≡◌, refl, sym, ap, subst, ◌∙◌, ℕ, suc, ◌+◌, ◌*◌, ◌/◌, ◌%◌, ◌^◌, arith, Bool, true, ◌&&◌, List, [], ◌∷◌, length, Option, Some, None, IfSome}
use Rattle.std.specs.Prelude.{map, is_some, is_none, Result, Ok, Err, IfOk, OnOk, OnErr, MatchResult}
use Rattle.std.specs.Option.{option_map, option_and_then}
use Rattle.c_core.specs.Cells.{Cells, content_at, count_at, make}
use Rattle.c_core.specs.Machine as machine
use Rattle.c_core.specs.Machine.{Content, refs_of, refs_in}
use Rattle.slot_arena.specs.declared.key.Key.{Key}
use Rattle.slot_arena.specs.Serials.{serial_of, key_with}
use Rattle.cell_heap.specs.declared.content.Content as heap_content
use Rattle.cell_heap.specs.declared.word.Word.{Word}
use Rattle.cell_heap.specs.Contents.{name_of, number_of, serial_in, word_named, word_of, pair_named, pair_of, content_named, content_of}
use Rattle.cell_heap.specs.Numbered.{word_numbered, pair_numbered, content_numbered, numbered}
use Rattle.cell_heap.specs.Numbers.{numbers_of, numbers_from, keys_of, keys_from}
use Rattle.cell_heap.specs.Ours.{IsOurs, AreOurs, HoldsOurs, KeepsPlaces}
use Rattle.cell_heap.specs.Pairs.{has_cell, pair_in, pair_at, place_at}
use Rattle.cell_heap.specs.Placed.{Placed, placed_under, number_in, held_at, is_there, place_under}
use Rattle.cell_heap.specs.Words.{word_in, word_at, last_in, last_at}
use Rattle.cell_heap.proofs.OursLemmas.{ours_both, keeps_itself, keeps-make, fresh_ours, holds-make, held_ours, are_still, word_in-ours, last_in-ours, pair_in-ours}
use Rattle.cell_heap.proofs.NumberedLemmas.{word_is, content_is, numbered-there, numbered-count, numbered-has_cell, numbered-place, optional_is, optional_pair_is, numbered-make, numbered-content, numbered-word, numbered-last, numbered-pair, numbered-numbers}
use Rattle.cell_heap.proofs.CellLemmas.{within}
use Rattle.std.proofs.lemmas.Option.{same_Some}
use Rattle.c_runner_deeds.specs.Ours.{maybe_refs, maybe_pair_refs}

-- ---- a cell that is made
module _ {E : Type 0} (old new : Cells Placed) (x : heap_content.Content) where
  abbrev pub IsMadeBy : Result Key E → Type 0
  IsMadeBy r = IfOk r (λ key. new ≡ make (placed_under key (content_named x)) old)

  pub make_numbered : (r : Result Key E) → IsMadeBy r → OnOk r (numbered new ≡ make (content_of x) (numbered old))
  make_numbered (Ok key) is = ap numbered is ∙ numbered-make (placed_under key (content_named x)) old ∙ ap (λ y. make y (numbered old)) (content_is x)
  make_numbered (Err e) is = tt

  pub make_holds : (r : Result Key E) → IsMadeBy r → OnErr r (new ≡ old) → AreOurs old (refs_in (content_named x)) → HoldsOurs old → HoldsOurs new
  make_holds (Ok key) is err own holds = subst HoldsOurs (sym is) (holds-make (placed_under key (content_named x)) old own holds)
  make_holds (Err e) is err own holds = subst HoldsOurs (sym err) holds

  pub make_ours : (r : Result Key E) → IfOk r (λ key. serial_of key ≡ length old) → IfOk r (λ key. number_of key ≡ length old) → IsMadeBy r → IfOk r (λ key. IsOurs new (name_of key))
  make_ours (Ok key) serial number is = subst (λ (cells : Cells Placed). IsOurs cells (name_of key)) (sym is) (fresh_ours old key (content_named x) serial number)
  make_ours (Err e) serial number is = tt

  pub make_keeps : (r : Result Key E) → IsMadeBy r → OnErr r (new ≡ old) → KeepsPlaces old new
  make_keeps (Ok key) is err = subst (KeepsPlaces old) (sym is) (keeps-make (placed_under key (content_named x)) old)
  make_keeps (Err e) is err = subst (KeepsPlaces old) (sym err) (keeps_itself old)

-- ---- a call that changes the cells in one way, or not at all
module _ {A E : Type 0} (r : Result A E) (old next new : Cells Placed) where
  pub number_so : (goal : Cells Content) → OnOk r (new ≡ next) → numbered next ≡ goal → OnOk r (numbered new ≡ goal)
  number_so goal ok so = on r ok
    where
      on : (r : Result A E) → OnOk r (new ≡ next) → OnOk r (numbered new ≡ goal)
      on (Ok a) ok = ap numbered ok ∙ so
      on (Err e) ok = tt

  pub hold_so : OnOk r (new ≡ next) → OnErr r (new ≡ old) → HoldsOurs next → HoldsOurs old → HoldsOurs new
  hold_so ok err changed same = on r ok err
    where
      on : (r : Result A E) → OnOk r (new ≡ next) → OnErr r (new ≡ old) → HoldsOurs new
      on (Ok a) ok err = subst HoldsOurs (sym ok) changed
      on (Err e) ok err = subst HoldsOurs (sym err) same

  pub keep_so : OnOk r (new ≡ next) → OnErr r (new ≡ old) → KeepsPlaces old next → KeepsPlaces old new
  keep_so ok err changed = on r ok err
    where
      on : (r : Result A E) → OnOk r (new ≡ next) → OnErr r (new ≡ old) → KeepsPlaces old new
      on (Ok a) ok err = subst (KeepsPlaces old) (sym ok) changed
      on (Err e) ok err = subst (KeepsPlaces old) (sym err) (keeps_itself old)

-- ---- what is read
module _ (cells : Cells Placed) (name : ℕ) (own : IsOurs cells name) where
  pub word_out : {E : Type 0} (i : ℕ) (r : Result (Option Word) E) → IfOk r (λ o. option_map word_named o ≡ option_and_then (word_in i) (held_at cells name)) → IfOk r (λ o. option_map word_of o ≡ word_at (numbered cells) (serial_in name) i)
  word_out i (Ok o) is = sym (optional_is o) ∙ ap (option_map word_numbered) is ∙ numbered-word cells name i own
  word_out i (Err e) is = tt

  pub last_out : {E : Type 0} (r : Result (Option Word) E) → IfOk r (λ o. option_map word_named o ≡ option_and_then last_in (held_at cells name)) → IfOk r (λ o. option_map word_of o ≡ last_at (numbered cells) (serial_in name))
  last_out (Ok o) is = sym (optional_is o) ∙ ap (option_map word_numbered) is ∙ numbered-last cells name own
  last_out (Err e) is = tt

  pub pair_out : {E : Type 0} (i : ℕ) (r : Result (Option (Word × Word)) E) → IfOk r (λ o. option_map pair_named o ≡ option_and_then (pair_in i) (held_at cells name)) → IfOk r (λ o. option_map pair_of o ≡ pair_at (numbered cells) (serial_in name) i)
  pair_out i (Ok o) is = sym (optional_pair_is o) ∙ ap (option_map pair_numbered) is ∙ numbered-pair cells name i own
  pair_out i (Err e) is = tt

  pub content_out : {E : Type 0} {B : Type 0} (look : B → heap_content.Content) (r : Result B E) → MatchResult r (λ b. held_at cells name ≡ Some (content_named (look b))) (λ e. held_at cells name ≡ None) → MatchResult r (λ b. content_at (numbered cells) (serial_in name) ≡ Some (content_of (look b))) (λ e. content_at (numbered cells) (serial_in name) ≡ None)
  content_out look (Ok b) is = numbered-content cells name own ∙ ap (option_map content_numbered) is ∙ ap Some (content_is (look b))
  content_out look (Err e) is = numbered-content cells name own ∙ ap (option_map content_numbered) is

-- ---- what is read is the heap's own
module _ (cells : Cells Placed) (name : ℕ) (holds : HoldsOurs cells) where
  -- by what is read of the content of a cell
  word_of_held : (pick : Content → Option machine.Word) → ((x : Content) (w : machine.Word) → AreOurs cells (refs_in x) → pick x ≡ Some w → AreOurs cells (refs_of w)) → (o : Option Content) → held_at cells name ≡ o → (w : machine.Word) → option_and_then pick o ≡ Some w → AreOurs cells (refs_of w)
  word_of_held pick own None at w is = absurd (cc)
  word_of_held pick own (Some x) at w is = own x w (held_ours cells name x holds at) is

  maybe_word : (o : Option Word) → ((w : machine.Word) → option_map word_named o ≡ Some w → AreOurs cells (refs_of w)) → AreOurs cells (maybe_refs o)
  maybe_word None own = tt
  maybe_word (Some w) own = own (word_named w) refl

  of_word : (pick : Content → Option machine.Word) → ((x : Content) (w : machine.Word) → AreOurs cells (refs_in x) → pick x ≡ Some w → AreOurs cells (refs_of w)) → (o : Option Word) → option_map word_named o ≡ option_and_then pick (held_at cells name) → AreOurs cells (maybe_refs o)
  of_word pick own o is = maybe_word o (λ w at. word_of_held pick own (held_at cells name) refl w (sym is ∙ at))

  pub word_own : {E : Type 0} (i : ℕ) (r : Result (Option Word) E) → IfOk r (λ o. option_map word_named o ≡ option_and_then (word_in i) (held_at cells name)) → IfOk r (λ o. AreOurs cells (maybe_refs o))
  word_own i (Ok o) is = of_word (word_in i) (word_in-ours cells i) o is
  word_own i (Err e) is = tt

  pub last_own : {E : Type 0} (r : Result (Option Word) E) → IfOk r (λ o. option_map word_named o ≡ option_and_then last_in (held_at cells name)) → IfOk r (λ o. AreOurs cells (maybe_refs o))
  last_own (Ok o) is = of_word last_in (last_in-ours cells) o is
  last_own (Err e) is = tt

  pair_of_held : (i : ℕ) (o : Option Content) → held_at cells name ≡ o → (p : machine.Word × machine.Word) → option_and_then (pair_in i) o ≡ Some p → AreOurs cells (refs_of p.0) × AreOurs cells (refs_of p.1)
  pair_of_held i None at p is = absurd (cc)
  pair_of_held i (Some x) at p is = pair_in-ours cells i x p (held_ours cells name x holds at) is

  pub pair_own : {E : Type 0} (i : ℕ) (r : Result (Option (Word × Word)) E) → IfOk r (λ o. option_map pair_named o ≡ option_and_then (pair_in i) (held_at cells name)) → IfOk r (λ o. AreOurs cells (maybe_pair_refs o))
  pair_own i (Ok None) is = tt
  pair_own i (Ok (Some p)) is =
      let both = pair_of_held i (held_at cells name) refl (pair_named p) (sym is) in
      ours_both cells (refs_of (word_named p.0)) (refs_of (word_named p.1)) both.0 both.1
  pair_own i (Err e) is = tt

  pub content_own : {E : Type 0} {B : Type 0} (look : B → heap_content.Content) (r : Result B E) → MatchResult r (λ b. held_at cells name ≡ Some (content_named (look b))) (λ e. held_at cells name ≡ None) → IfOk r (λ b. AreOurs cells (refs_in (content_named (look b))))
  content_own look (Ok b) is = held_ours cells name (content_named (look b)) holds is
  content_own look (Err e) is = tt

-- what is the heap's own stays so
pub still_so : {A E : Type 0} (refs : A → List ℕ) (old new : Cells Placed) (r : Result A E) → KeepsPlaces old new → IfOk r (λ a. AreOurs old (refs a)) → IfOk r (λ a. AreOurs new (refs a))
still_so refs old new (Ok a) kept own = are_still old new (refs a) kept own
still_so refs old new (Err e) kept own = tt

-- ---- keys of the cells that are there
slot_told : (slot serial : ℕ) → (slot * 2 ^ 128 + serial) % 2 ^ 128 ≡ serial → (slot * 2 ^ 128 + serial) / 2 ^ 128 ≡ slot
slot_told slot serial is = omega (arith, is)

serial_with : (n : ℕ) → n / 2 ^ 64 * 2 ^ 64 + n % 2 ^ 64 ≡ n
serial_with n = omega arith

key_own : (whole : Cells Placed) (n : ℕ) (placed : Placed) → number_of (key_with placed.slot n) ≡ n → content_at whole n ≡ Some placed → IsOurs whole (name_of (key_with placed.slot n))
key_own whole n placed number at =
    let key = key_with placed.slot n in
    record {
      made = omega (arith, number, within whole n placed at);
      slot = λ slot is.
          same_Some slot placed.slot (sym is ∙ ap (option_map (λ q. q.slot)) (ap (content_at whole) number ∙ at))
          ∙ sym (slot_told placed.slot (serial_of key) (number ∙ sym (serial_with n)));
    }

keys_own : (whole : Cells Placed) (n : ℕ) (rest : Cells Placed) → ((k : ℕ) → content_at whole (n + k) ≡ content_at rest k) → map number_of (keys_from n rest) ≡ numbers_from n rest → AreOurs whole (map name_of (keys_from n rest))
keys_own whole n [] at is = tt
keys_own whole n (None ∷ rest) at is =
    keys_own whole (n + 1) rest (λ k. let e : n + 1 + k ≡ n + suc k = omega arith in ap (content_at whole) e ∙ at (suc k)) is
keys_own whole n (Some cell ∷ rest) at is =
    let head : number_of (key_with cell.content.slot n) ≡ n = cc in
    let tail : map number_of (keys_from (n + 1) rest) ≡ numbers_from (n + 1) rest = cc in
    let zero_is : n ≡ n + 0 = omega arith in (
      key_own whole n cell.content head (ap (content_at whole) zero_is ∙ at 0),
      keys_own whole (n + 1) rest (λ k. let e : n + 1 + k ≡ n + suc k = omega arith in ap (content_at whole) e ∙ at (suc k)) tail,
    )

pub keys_out : {E : Type 0} (cells : Cells Placed) (r : Result (List Key) E) → IfOk r (λ keys. keys ≡ keys_of cells) → IfOk r (λ keys. map number_of keys ≡ numbers_of cells) → IfOk r (λ keys. AreOurs cells (map name_of keys))
keys_out cells (Ok keys) is numbers =
    subst (λ ks. AreOurs cells (map name_of ks)) (sym is)
    (keys_own cells 0 cells (λ k. let e : 0 + k ≡ k = omega arith in ap (content_at cells) e) (ap (map number_of) (sym is) ∙ numbers))
keys_out cells (Err e) is numbers = tt

pub numbers_out : {E : Type 0} (cells : Cells Placed) (r : Result (List Key) E) → IfOk r (λ keys. map number_of keys ≡ numbers_of cells) → IfOk r (λ keys. map number_of keys ≡ numbers_of (numbered cells))
numbers_out cells (Ok keys) numbers = numbers ∙ sym (numbered-numbers cells)
numbers_out cells (Err e) numbers = tt

-- what a list or a dict is asked for, by names
pub kind_held : (is_kind : Content → Bool) → ((x : Content) → is_kind (content_numbered x) ≡ is_kind x) → (o : Option Content) → IfSome (option_map content_numbered o) (λ x. is_kind x ≡ true) → IfSome o (λ x. is_kind x ≡ true)
kind_held is_kind same None is = tt
kind_held is_kind same (Some x) is = sym (same x) ∙ is

-- an answer is an error since the cell is gone
pub dead_out : (cells : Cells Placed) (name : ℕ) → IsOurs cells name → (b : Bool) → b ≡ is_none (held_at cells name) → b ≡ is_none (content_at (numbered cells) (serial_in name))
dead_out cells name own b is = is ∙ none_map (held_at cells name) ∙ ap is_none (sym (numbered-content cells name own))
  where
    none_map : (o : Option Content) → is_none o ≡ is_none (option_map content_numbered o)
    none_map None = refl
    none_map (Some x) = refl

pub maybe_some : (cells : Cells Placed) (o : Option Word) → AreOurs cells (maybe_refs o) → IfSome (option_map word_named o) (λ w. AreOurs cells (refs_of w))
maybe_some cells None own = tt
maybe_some cells (Some w) own = own

pub count_out : {E : Type 0} (cells : Cells Placed) (name : ℕ) → IsOurs cells name → (r : Result ℕ E) → IfOk r (λ n. n ≡ count_at cells (number_in cells name)) → IfOk r (λ n. n ≡ count_at (numbered cells) (serial_in name))
count_out cells name own (Ok n) is = is ∙ sym (numbered-count cells name own)
count_out cells name own (Err e) is = tt

-- ---- the key of a dict
key_there : (cells : Cells Placed) (key : Word) → AreOurs cells (refs_of (word_named key)) → is_there cells (word_named key) ≡ has_cell (numbered cells) (word_of key)
key_there cells key own = sym (numbered-has_cell cells (word_named key) own) ∙ ap (has_cell (numbered cells)) (word_is key)

pub find_there : (cells : Cells Placed) (name : ℕ) (key : Word) → IsOurs cells name → AreOurs cells (refs_of (word_named key)) → (is_some (held_at cells name) && is_there cells (word_named key)) ≡ (is_some (content_at (numbered cells) (serial_in name)) && has_cell (numbered cells) (word_of key))
find_there cells name key own key_own =
    ap (λ b. b && is_there cells (word_named key)) (sym (numbered-there cells name own))
    ∙ ap (λ b. is_some (content_at (numbered cells) (serial_in name)) && b) (key_there cells key key_own)

pub find_place : {E : Type 0} (cells : Cells Placed) (name : ℕ) (key : Word) → HoldsOurs cells → IsOurs cells name → AreOurs cells (refs_of (word_named key)) → (r : Result (Option ℕ) E) → IfOk r (λ place. place ≡ place_under cells name (word_named key)) → IfOk r (λ place. place ≡ place_at (numbered cells) (serial_in name) (word_of key))
find_place cells name key holds own key_own (Ok place) is =
    is ∙ sym (numbered-place cells name (word_named key) holds own key_own) ∙ ap (place_at (numbered cells) (serial_in name)) (word_is key)
find_place cells name key holds own key_own (Err e) is = tt
