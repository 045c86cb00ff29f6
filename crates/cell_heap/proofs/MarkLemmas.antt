-- The marks of keys stay right as cells change, and find what a walk over the pairs finds.
use Rattle.std.proofs.Common.{◌≡◌, refl, sym, ap, subst, ◌∙◌, ℕ, zero, suc, ◌+◌, ◌<◌, ◌≤◌, arith, Bool, true, false, not, cond, List, [], ◌∷◌, ◌++◌, length, get_or, take, drop, remove, set, slice_get, Option, Some, None, IfSome, add-one, ltb-true, ltb-false, lt-ltb, le-ltb}
use Rattle.std.specs.Prelude.{nat_lt}
use Rattle.std.specs.List.{position_or_len, position}
use Rattle.std.specs.Option.{option_map, option_and_then}
use Rattle.std.proofs.lemmas.Bool.Decides.{Decides-int_eq}
use Rattle.std.proofs.lemmas.Slice.Eq.{bytes_eq-Decides}
use Rattle.std.proofs.lemmas.Option.{same_Some}
use Rattle.c_core.specs.Cells as cells
use Rattle.c_core.specs.Cells.{Cell, Cells, change, content_at, make, lowered, one_less}
use Rattle.c_core.specs.Keys.{Key, NumberKey, TextKey, TruthKey, same_key, key_in, is_key}
use Rattle.c_core.specs.Machine as machine
use Rattle.slot_arena.specs.declared.key.Key.{Key as ArenaKey}
use Rattle.slot_arena.specs.Serials.{serial_of}
use Rattle.slot_arena.specs.Contents.{Entry, Contents, value_at, inserted, with_value, condemned_with}
use Rattle.cell_heap.specs.declared.cells.CountedCell.{CountedCell}
use Rattle.cell_heap.specs.declared.content.Content.{Content}
use Rattle.cell_heap.specs.declared.content.Content.TheVariants.{Dict}
use Rattle.cell_heap.specs.declared.pairs.Pairs.{Pairs}
use Rattle.cell_heap.specs.declared.word.Word.{Word}
use Rattle.cell_heap.specs.Contents.{name_of, slot_in, serial_in, word_named}
use Rattle.cell_heap.specs.Held.{cell_at, cell_of, cells_of, IsNamed}
use Rattle.cell_heap.specs.Placed.{Placed, number_in, held_at, key_under}
use Rattle.cell_heap.specs.Marks.{mark_of, first_words, marks_in, marks_of, keys_in, IsMade, IsMarked, AreMarked, HasMarks, EachHasMarks, AreAllMarked, has_key, IsMore, KeepsKeys, IsPut, IsTakenOut}
use Rattle.cell_heap.proofs.CellLemmas.{content_at-cell, within, length-change, length-make, changed_at, made_before}
use Rattle.cell_heap.proofs.OursLemmas.{number_there, refers}
use Rattle.cell_heap.proofs.HeldLemmas.{Entries, cells-written, own}

-- ---- cells among which a word is no other key than before
pub record Narrows (old new : Cells Placed) : Type 0 where
  pub longer : length old ≤ length new
  pub keys : (word : machine.Word) (key : Key) → IsMade (length old) word → key_under new word ≡ Some key → key_under old word ≡ Some key

made_more : (m n : ℕ) (word : machine.Word) → m ≤ n → IsMade m word → IsMade n word
made_more m n (machine.ObjectCell c) le made = omega arith
made_more m n _ le made = tt

marked_still : (old new : Cells Placed) (word : machine.Word) (mark : ℕ) → Narrows old new → IsMarked old word mark → IsMarked new word mark
marked_still old new word mark narrows marked = record {
  made = made_more (length old) (length new) word narrows.longer marked.made;
  has = λ key is. marked.has key (narrows.keys word key marked.made is);
}

are_still : (old new : Cells Placed) (words : List machine.Word) (marks : List ℕ) → Narrows old new → AreMarked old words marks → AreMarked new words marks
are_still old new [] [] narrows marked = tt
are_still old new [] (mark ∷ marks) narrows marked = marked
are_still old new (word ∷ words) [] narrows marked = marked
are_still old new (word ∷ words) (mark ∷ marks) narrows marked =
    (marked_still old new word mark narrows marked.0, are_still old new words marks narrows marked.1)

has_still : (old new : Cells Placed) (content : Content) → Narrows old new → HasMarks old content → HasMarks new content
has_still old new content narrows = of_marks (marks_of content)
  where
    of_marks : (o : Option (List ℕ)) → IfSome o (AreMarked old (keys_in content)) → IfSome o (AreMarked new (keys_in content))
    of_marks None marked = tt
    of_marks (Some marks) marked = are_still old new (keys_in content) marks narrows marked

each_still : (old new : Cells Placed) (entries : Entries) → Narrows old new → EachHasMarks old entries → EachHasMarks new entries
each_still old new [] narrows marked = tt
each_still old new (None ∷ entries) narrows marked = each_still old new entries narrows marked
each_still old new (Some entry ∷ entries) narrows marked =
    (has_still old new entry.value.content narrows marked.0, each_still old new entries narrows marked.1)

each_at : (cells : Cells Placed) (entries : Entries) (n : ℕ) (entry : Entry CountedCell) → get_or entries n None ≡ Some entry → EachHasMarks cells entries → HasMarks cells entry.value.content
each_at cells [] n entry is marked = absurd (cc)
each_at cells (None ∷ entries) zero entry is marked = absurd (cc)
each_at cells (Some first ∷ entries) zero entry is marked =
    let same : first ≡ entry = cc in subst (λ e. HasMarks cells e.value.content) same marked.0
each_at cells (None ∷ entries) (suc n) entry is marked = each_at cells entries n entry is marked
each_at cells (Some first ∷ entries) (suc n) entry is marked = each_at cells entries n entry is marked.1

each_set : (cells : Cells Placed) (entries : Entries) (n : ℕ) (entry : Entry CountedCell) → HasMarks cells entry.value.content → EachHasMarks cells entries → EachHasMarks cells (set entries n (Some entry))
each_set cells [] n entry new marked = tt
each_set cells (None ∷ entries) zero entry new marked = (new, marked)
each_set cells (Some first ∷ entries) zero entry new marked = (new, marked.1)
each_set cells (None ∷ entries) (suc n) entry new marked = each_set cells entries n entry new marked
each_set cells (Some first ∷ entries) (suc n) entry new marked = (marked.0, each_set cells entries n entry new marked.1)

each_none : (cells : Cells Placed) (entries : Entries) (n : ℕ) → EachHasMarks cells entries → EachHasMarks cells (set entries n None)
each_none cells [] n marked = tt
each_none cells (None ∷ entries) zero marked = marked
each_none cells (Some first ∷ entries) zero marked = marked.1
each_none cells (None ∷ entries) (suc n) marked = each_none cells entries n marked
each_none cells (Some first ∷ entries) (suc n) marked = (marked.0, each_none cells entries n marked.1)

each_more : (cells : Cells Placed) (entries : Entries) (entry : Entry CountedCell) → HasMarks cells entry.value.content → EachHasMarks cells entries → EachHasMarks cells (entries ++ Some entry ∷ [])
each_more cells [] entry new marked = (new, tt)
each_more cells (None ∷ entries) entry new marked = each_more cells entries entry new marked
each_more cells (Some first ∷ entries) entry new marked = (marked.0, each_more cells entries entry new marked.1)

-- ---- one cell changes
-- the key that a cell is, with the slot in which it lies
abbrev pub with_slot : ℕ → Key → ℕ × Key
with_slot slot key = (slot, key)

abbrev pub key_placed : Placed → Option (ℕ × Key)
key_placed p = option_map (with_slot p.slot) (key_in p.holds)

abbrev pub key_held : Option (Cell Placed) → Option (ℕ × Key)
key_held o = option_and_then key_placed (cells.content_of o)

-- a word that is a key has its cell there, and the other way round
key_stands : (h : Cells Placed) (name : ℕ) (key : Key) → key_under h (machine.ObjectCell name) ≡ Some key → option_and_then key_placed (content_at h (serial_in name)) ≡ Some (with_slot (slot_in name) key)
key_stands h name key is = of_content (held_at h name) refl is
  where
    of_content : (o : Option machine.Content) → held_at h name ≡ o → option_and_then key_in o ≡ Some key → option_and_then key_placed (content_at h (serial_in name)) ≡ Some (with_slot (slot_in name) key)
    of_content None at none = absurd (cc)
    of_content (Some x) at here =
        let r = refers h name x at in
        ap (option_and_then key_placed) r.content ∙ ap (option_map (with_slot (slot_in name))) here

key_found : (h : Cells Placed) (name : ℕ) (key : Key) → option_and_then key_placed (content_at h (serial_in name)) ≡ Some (with_slot (slot_in name) key) → key_under h (machine.ObjectCell name) ≡ Some key
key_found h name key is = of_content (content_at h (serial_in name)) refl is
  where
    of_key : (p : Placed) (o : Option Key) → content_at h (serial_in name) ≡ Some p → key_in p.holds ≡ o → option_map (with_slot p.slot) o ≡ Some (with_slot (slot_in name) key) → key_under h (machine.ObjectCell name) ≡ Some key
    of_key p None at of none = absurd (cc)
    of_key p (Some k) at of here =
        let same : ◌≡◌ (with_slot p.slot k) (with_slot (slot_in name) key) = same_Some (with_slot p.slot k) (with_slot (slot_in name) key) here in
        let number = number_there h name p at (ap (λ (q : ℕ × Key). q.0) same) in
        ap (option_and_then key_in) (ap (option_map (λ (q : Placed). q.holds)) (ap (content_at h) number ∙ at))
        ∙ of
        ∙ ap Some (ap (λ (q : ℕ × Key). q.1) same)

    of_content : (o : Option Placed) → content_at h (serial_in name) ≡ o → option_and_then key_placed o ≡ Some (with_slot (slot_in name) key) → key_under h (machine.ObjectCell name) ≡ Some key
    of_content None at none = absurd (cc)
    of_content (Some p) at here = of_key p (key_in p.holds) at refl here

-- a change makes no cell another key
abbrev pub MakesNoKey : (Option (Cell Placed) → Option (Cell Placed)) → Type 0
MakesNoKey by = (o : Option (Cell Placed)) (key : ℕ × Key) → key_held (by o) ≡ Some key → key_held o ≡ Some key

pub narrows_change : (by : Option (Cell Placed) → Option (Cell Placed)) (n : ℕ) (h : Cells Placed) → MakesNoKey by → Narrows h (change by n h)
narrows_change by n h makes_none = record { longer = omega (arith, length-change by n h); keys = by_word }
  where
    at : (c : ℕ) (key : ℕ × Key) → option_and_then key_placed (content_at (change by n h) c) ≡ Some key → option_and_then key_placed (content_at h c) ≡ Some key
    at c key is =
        ap (option_and_then key_placed) (content_at-cell h c)
        ∙ changed_at (λ o. key_held o ≡ Some key → key_held (cell_at h c) ≡ Some key) by n c h (λ old. old) (makes_none (cell_at h c) key) (ap (option_and_then key_placed) (sym (content_at-cell (change by n h) c)) ∙ is)

    by_word : (word : machine.Word) (key : Key) → IsMade (length h) word → key_under (change by n h) word ≡ Some key → key_under h word ≡ Some key
    by_word (machine.ObjectCell name) key made is =
        key_found h name key (at (serial_in name) (with_slot (slot_in name) key) (key_stands (change by n h) name key is))
    by_word machine.TrueObject key made is = is
    by_word machine.FalseObject key made is = is
    by_word _ key made is = absurd (cc)

pub lowered_no_key : MakesNoKey lowered
lowered_no_key None key is = is
lowered_no_key (Some cell) key is = of_count cell.count cell.content is
  where
    of_count : (n : ℕ) (p : Placed) → key_held (one_less n p) ≡ Some key → key_placed p ≡ Some key
    of_count zero p is = absurd (cc)
    of_count (suc zero) p is = absurd (cc)
    of_count (suc (suc n)) p is = is

pub raised_no_key : MakesNoKey cells.raised
raised_no_key None key is = is
raised_no_key (Some cell) key is = is

-- ---- the arena
pub marked_written : (by : Option (Cell Placed) → Option (Cell Placed)) (a : Contents CountedCell) (key : ArenaKey) (old new : CountedCell) → MakesNoKey by → IsNamed key → Some old ≡ value_at a key → by (Some (cell_of key.slot old)) ≡ Some (cell_of key.slot new) → ((after : Cells Placed) → Narrows (cells_of a.entries) after → HasMarks after old.content → HasMarks after new.content) → AreAllMarked a → AreAllMarked (with_value a key new)
marked_written by a key old new makes_none named there step fits marked =
    let h = cells_of a.entries in
    let n = number_in h (name_of key) in
    let after = change by n h in
    let narrows = narrows_change by n h makes_none in
    let entry : ◌≡◌ (get_or a.entries (serial_of key) None) (Some (record { slot = key.slot; value = old })) = own key.slot (get_or a.entries (serial_of key) None) old there in
    let still = each_still h after a.entries narrows marked in
    let written = cells-written by a key old (Some (record { slot = key.slot; value = new })) named there step in
    subst (λ cs. EachHasMarks cs (set a.entries (serial_of key) (Some (record { slot = key.slot; value = new })))) (sym written)
    (each_set after a.entries (serial_of key) (record { slot = key.slot; value = new }) (fits after narrows (each_at after a.entries (serial_of key) (record { slot = key.slot; value = old }) entry still)) still)

pub marked_condemned : (a : Contents CountedCell) (key : ArenaKey) (old : CountedCell) → IsNamed key → Some old ≡ value_at a key → lowered (Some (cell_of key.slot old)) ≡ None → AreAllMarked a → AreAllMarked (condemned_with a key old)
marked_condemned a key old named there last marked =
    let h = cells_of a.entries in
    let n = number_in h (name_of key) in
    subst (λ cs. EachHasMarks cs (set a.entries (serial_of key) None)) (sym (cells-written lowered a key old None named there last))
    (each_none (change lowered n h) a.entries (serial_of key) (each_still h (change lowered n h) a.entries (narrows_change lowered n h lowered_no_key) marked))

pub marked_dict : (a : Contents CountedCell) (key : ArenaKey) (cell : CountedCell) (dict : Pairs) → Some cell ≡ value_at a key → cell.content ≡ Dict dict → AreAllMarked a → IfSome (marks_in dict) (AreMarked (cells_of a.entries) (first_words dict.pairs))
marked_dict a key cell dict there is marked =
    let h = cells_of a.entries in
    subst (HasMarks h) is (each_at h a.entries (serial_of key) (record { slot = key.slot; value = cell }) (own key.slot (get_or a.entries (serial_of key) None) cell there) marked)

pub has_kept : (h : Cells Placed) (old new : Content) → KeepsKeys old new → HasMarks h old → HasMarks h new
has_kept h old new keeps marked =
    subst (λ o. IfSome o (AreMarked h (keys_in new))) (sym keeps.marks)
    (subst (λ ws. IfSome (marks_of old) (AreMarked h ws)) (sym keeps.keys) marked)

-- ---- what a mark finds
one_mark : (k l : Key) → same_key k l ≡ true → mark_of l ≡ mark_of k
one_mark (NumberKey a) (NumberKey b) is = ap (λ n. mark_of (NumberKey n)) (sym ((Decides-int_eq a b).0 is))
one_mark (TextKey a) (TextKey b) is = ap (λ t. mark_of (TextKey t)) (sym ((bytes_eq-Decides a b).0 is))
one_mark (TruthKey true) (TruthKey true) is = refl
one_mark (TruthKey true) (TruthKey false) is = absurd (cc)
one_mark (TruthKey false) (TruthKey true) is = absurd (cc)
one_mark (TruthKey false) (TruthKey false) is = refl
one_mark _ _ is = absurd (cc)

module _ (h : Cells Placed) (k : Key) (test : ℕ → Bool) where
  abbrev is_here : Word × Word → Bool
  is_here pair = is_key k (key_under h (word_named pair.0))

  marked_here : (word : machine.Word) (mark : ℕ) → test (mark_of k) ≡ true → IsMarked h word mark → is_key k (key_under h word) ≡ true → test mark ≡ true
  marked_here word mark own marked here = of_key (key_under h word) refl here
    where
      of_key : (o : Option Key) → key_under h word ≡ o → is_key k o ≡ true → test mark ≡ true
      of_key None at same = absurd (cc)
      of_key (Some l) at same = ap test (sym (marked.has l at) ∙ one_mark k l same) ∙ own

  shorter : (a b : Bool) (m n : ℕ) → (a ≡ true → b ≡ true) → m ≤ n → cond (not b) (1 + m) 0 ≤ cond (not a) (1 + n) 0
  shorter true true m n so le = omega arith
  shorter true false m n so le = absurd (let same = so refl in cc)
  shorter false true m n so le = omega arith
  shorter false false m n so le = omega arith

  marks_first : (pairs : List (Word × Word)) (marks : List ℕ) → test (mark_of k) ≡ true → AreMarked h (first_words pairs) marks → position_or_len test marks ≤ position_or_len is_here pairs
  marks_first [] [] own marked = omega arith
  marks_first [] (mark ∷ marks) own marked = absurd marked
  marks_first (pair ∷ pairs) [] own marked = absurd marked
  marks_first (pair ∷ pairs) (mark ∷ marks) own marked =
      shorter (is_here pair) (test mark) _ _ (marked_here (word_named pair.0) mark own marked.0) (marks_first pairs marks own marked.1)

  as_long : (pairs : List (Word × Word)) (marks : List ℕ) → AreMarked h (first_words pairs) marks → length marks ≡ length pairs
  as_long [] [] marked = refl
  as_long [] (mark ∷ marks) marked = absurd marked
  as_long (pair ∷ pairs) [] marked = absurd marked
  as_long (pair ∷ pairs) (mark ∷ marks) marked = omega (arith, as_long pairs marks marked.1)

  first_here : (b : Bool) (m : ℕ) → b ≡ true → cond (not b) (1 + m) 0 ≤ 0
  first_here true m is = omega arith
  first_here false m is = absurd (cc)

  later_here : (b : Bool) (m i : ℕ) → m ≤ i → cond (not b) (1 + m) 0 ≤ suc i
  later_here true m i le = omega arith
  later_here false m i le = omega arith

  at_most : (pairs : List (Word × Word)) (i : ℕ) → has_key h k (slice_get pairs i) ≡ true → position_or_len is_here pairs ≤ i
  at_most [] i is = absurd (cc)
  at_most (pair ∷ pairs) zero is = first_here (is_here pair) (position_or_len is_here pairs) is
  at_most (pair ∷ pairs) (suc i) is = later_here (is_here pair) (position_or_len is_here pairs) i (at_most pairs i is)

  no_place : (b : Bool) (n : ℕ) → cond b (Some n) None ≡ None → b ≡ false
  no_place true n is = absurd (cc)
  no_place false n is = refl

  a_place : (b : Bool) (n i : ℕ) → cond b (Some n) None ≡ Some i → (b ≡ true) × (n ≡ i)
  a_place true n i is = (refl, same_Some n i is)
  a_place false n i is = absurd (cc)

  pub mark_absent : (pairs : List (Word × Word)) (marks : List ℕ) → test (mark_of k) ≡ true → AreMarked h (first_words pairs) marks → None ≡ position test marks → None ≡ position is_here pairs
  mark_absent pairs marks own marked none =
      let n = position_or_len test marks in
      let m = position_or_len is_here pairs in
      let past = ltb-false n (length marks) (no_place (nat_lt n (length marks)) n (sym none)) in
      sym (ap (λ b. cond b (Some m) None) (le-ltb m (length pairs) (omega (arith, past, marks_first pairs marks own marked, as_long pairs marks marked))))

  pub mark_present : (pairs : List (Word × Word)) (marks : List ℕ) (i : ℕ) → test (mark_of k) ≡ true → AreMarked h (first_words pairs) marks → Some i ≡ position test marks → has_key h k (slice_get pairs i) ≡ true → Some i ≡ position is_here pairs
  mark_present pairs marks i own marked found here =
      let n = position_or_len test marks in
      let m = position_or_len is_here pairs in
      let place = a_place (nat_lt n (length marks)) n i (sym found) in
      let within = ltb-true n (length marks) place.0 in
      let at : m ≡ i = omega (arith, place.1, marks_first pairs marks own marked, at_most pairs i here) in
      sym (ap (λ b. cond b (Some m) None) (lt-ltb m (length pairs) (omega (arith, at, within, place.1, as_long pairs marks marked))) ∙ ap Some at)

-- ---- what becomes of a dict's marks
own_mark : (h : Cells Placed) (word : machine.Word) (key : Key) → key_under h word ≡ Some key → IsMarked h word (mark_of key)
own_mark h word key is = record { made = by_word word is; has = λ other at. ap mark_of (same_Some other key (sym at ∙ is)) }
  where
    of_content : (name : ℕ) (o : Option machine.Content) → held_at h name ≡ o → option_and_then key_in o ≡ Some key → serial_in name < length h
    of_content name None at none = absurd (cc)
    of_content name (Some x) at here = within h (serial_in name) (record { slot = slot_in name; holds = x }) (refers h name x at).content

    by_word : (w : machine.Word) → key_under h w ≡ Some key → IsMade (length h) w
    by_word (machine.ObjectCell name) at = of_content name (held_at h name) refl at
    by_word _ at = tt

are_more : (h : Cells Placed) (words : List machine.Word) (marks : List ℕ) (word : machine.Word) (mark : ℕ) → AreMarked h words marks → IsMarked h word mark → AreMarked h (words ++ word ∷ []) (marks ++ mark ∷ [])
are_more h [] [] word mark marked new = (new, tt)
are_more h [] (first ∷ marks) word mark marked new = absurd marked
are_more h (first ∷ words) [] word mark marked new = absurd marked
are_more h (first ∷ words) (other ∷ marks) word mark marked new = (marked.0, are_more h words marks word mark marked.1 new)

are_without : (h : Cells Placed) (words : List machine.Word) (marks : List ℕ) (i : ℕ) → AreMarked h words marks → AreMarked h (take i words ++ drop (suc i) words) (remove marks i)
are_without h [] [] zero marked = tt
are_without h [] [] (suc i) marked = tt
are_without h [] (mark ∷ marks) i marked = absurd marked
are_without h (word ∷ words) [] i marked = absurd marked
are_without h (word ∷ words) (mark ∷ marks) zero marked = marked.1
are_without h (word ∷ words) (mark ∷ marks) (suc i) marked = (marked.0, are_without h words marks i marked.1)

pub has_put : (h after : Cells Placed) (pair : Word × Word) (mark : Option ℕ) (old new : Content) → mark ≡ option_map mark_of (key_under h (word_named pair.0)) → IsPut pair mark old new → Narrows h after → HasMarks after old → HasMarks after new
has_put h after pair mark old new own put narrows marked = of_marks (marks_of new) refl put.keys put.marks
  where
    a_key : (o : Option Key) (m : ℕ) → option_map mark_of o ≡ Some m → (key : Key) × (o ≡ Some key) × (mark_of key ≡ m)
    a_key None m is = absurd (cc)
    a_key (Some key) m is = (key, refl, same_Some (mark_of key) m is)

    of_marks : (o : Option (List ℕ)) → marks_of new ≡ o → IfSome o (λ _. keys_in new ≡ keys_in old ++ word_named pair.0 ∷ []) → IsMore mark (marks_of old) o → IfSome o (AreMarked after (keys_in new))
    of_marks None at keys more = tt
    of_marks (Some ms) at keys more =
        let m = more.0 in
        let marks = more.1 in
        let found = a_key (key_under h (word_named pair.0)) m (sym own ∙ more.2) in
        let here : IsMarked h (word_named pair.0) m = subst (λ n. IsMarked h (word_named pair.0) n) found.2 (own_mark h (word_named pair.0) found.0 found.1) in
        let before : AreMarked after (keys_in old) marks = subst (λ q. IfSome q (AreMarked after (keys_in old))) more.3 marked in
        subst (λ ns. AreMarked after (keys_in new) ns) (sym more.4)
        (subst (λ ws. AreMarked after ws (marks ++ m ∷ [])) (sym keys)
        (are_more after (keys_in old) marks (word_named pair.0) m before (marked_still h after (word_named pair.0) m narrows here)))

pub has_taken : (h : Cells Placed) (place : ℕ) (old new : Content) → IsTakenOut place old new → HasMarks h old → HasMarks h new
has_taken h place old new taken marked =
    subst (λ o. IfSome o (AreMarked h (keys_in new))) (sym taken.marks)
    (subst (λ ws. IfSome (option_map (λ marks. remove marks place) (marks_of old)) (AreMarked h ws)) (sym taken.keys) (of_marks (marks_of old) marked))
  where
    of_marks : (o : Option (List ℕ)) → IfSome o (AreMarked h (keys_in old)) → IfSome (option_map (λ marks. remove marks place) o) (AreMarked h (take place (keys_in old) ++ drop (place + 1) (keys_in old)))
    of_marks None marked = tt
    of_marks (Some marks) marked =
        subst (λ n. AreMarked h (take place (keys_in old) ++ drop n (keys_in old)) (remove marks place)) (sym (add-one place)) (are_without h (keys_in old) marks place marked)

-- ---- a new cell
narrows_make : (h : Cells Placed) (p : Placed) → Narrows h (make p h)
narrows_make h p = record { longer = omega (arith, length-make p h); keys = by_word }
  where
    by_word : (word : machine.Word) (key : Key) → IsMade (length h) word → key_under (make p h) word ≡ Some key → key_under h word ≡ Some key
    by_word (machine.ObjectCell name) key made is =
        key_found h name key (ap (option_and_then key_placed) (sym (made_before p h (serial_in name) made)) ∙ key_stands (make p h) name key is)
    by_word machine.TrueObject key made is = is
    by_word machine.FalseObject key made is = is
    by_word _ key made is = absurd (cc)

pub marked_made : (a : Contents CountedCell) (key : ArenaKey) (p : Placed) (cell : CountedCell) → cells_of (a.entries ++ Some (record { slot = key.slot; value = cell }) ∷ []) ≡ make p (cells_of a.entries) → IfSome (marks_of cell.content) (λ marks. (marks ≡ []) × (keys_in cell.content ≡ [])) → AreAllMarked a → AreAllMarked (inserted a key cell)
marked_made a key p cell is none marked =
    let h = cells_of a.entries in
    subst (λ cs. EachHasMarks cs (a.entries ++ Some (record { slot = key.slot; value = cell }) ∷ [])) (sym is)
    (each_more (make p h) a.entries (record { slot = key.slot; value = cell }) (of_marks (marks_of cell.content) none) (each_still h (make p h) a.entries (narrows_make h p) marked))
  where
    of_marks : (o : Option (List ℕ)) → IfSome o (λ marks. (marks ≡ []) × (keys_in cell.content ≡ [])) → IfSome o (AreMarked (make p (cells_of a.entries)) (keys_in cell.content))
    of_marks None n = tt
    of_marks (Some marks) n =
        subst (λ ms. AreMarked (make p (cells_of a.entries)) (keys_in cell.content) ms) (sym n.0)
        (subst (λ ws. AreMarked (make p (cells_of a.entries)) ws []) (sym n.1) tt)
