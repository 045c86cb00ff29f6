-- What is left where references are given up: a cell without any waits among the condemned, and gives its own up once it is taken off.
use Rattle.std.proofs.Common.{◌≡◌, refl, sym, ap, subst, ◌∙◌, ℕ, zero, suc, ◌+◌, ◌-◌, ◌<◌, arith, true, false, List, [], ◌∷◌, ◌++◌, length, get_or, drop, set, Option, Some, None, ltb-true, ltb-false}
use Rattle.std.specs.Prelude.{map, nat_lt, MatchOption}
use Rattle.std.proofs.lemmas.List.{append_assoc, drop_more, map-append}
use Rattle.c_core.specs.Cells.{Cells, lowered, one_less}
use Rattle.c_core.specs.Machine.{refs_in, refs_of}
use Rattle.c_core.specs.Release.{after, freed, freed_of, let_go, release}
use Rattle.c_core.proofs.Order.{any_order, release_first}
use Rattle.c_core.proofs.ReleaseLemmas.{times-append, release-nothing}
use Rattle.slot_arena.specs.declared.key.Key.{Key}
use Rattle.slot_arena.specs.Serials.{serial_of}
use Rattle.slot_arena.specs.Contents.{Entry, Contents, value_at, with_value, condemned_with, taken_off}
use Rattle.cell_heap.specs.declared.word.Word.{Word}
use Rattle.cell_heap.specs.declared.cells.CountedCell.{CountedCell}
use Rattle.cell_heap.specs.Contents.{name_of, word_named, content_named, words_refs, pairs_refs, optional_refs}
use Rattle.cell_heap.specs.Held.{cells_of, is_shared, optional_ref, waiting, leaves, present, to_take_off, IsLeft, IsNamed}
use Rattle.cell_heap.specs.Marks.{AreAllMarked, Gives}
use Rattle.cell_heap.specs.Placed.{Placed, number_in, refs_under}
use Rattle.cell_heap.proofs.CellLemmas.{change-gone, Alike, alike_change, freed-cell}
use Rattle.cell_heap.proofs.HeldLemmas.{Entries, own, cells-written, cell_found, cell_lost}
use Rattle.cell_heap.proofs.MarkLemmas.{lowered_no_key, marked_written, marked_condemned}
use Rattle.cell_heap.proofs.OursLemmas.{left_next, left_change, lowered_moves, left_alike, left_release}
pub use Rattle.cell_heap.proofs.CellLemmas.{length-change}

pub length-release : (first cells : Cells Placed) (refs : List ℕ) → length (release (refs_under first) cells refs) ≡ length cells
length-release first cells refs = (left_release (refs_under first) cells refs).made

-- ---- how many entries are in the map
present-less : (entries : Entries) (n : ℕ) (entry : Entry CountedCell) → get_or entries n None ≡ Some entry → present (set entries n None) + 1 ≡ present entries
present-less [] n entry is = absurd (cc)
present-less (None ∷ entries) zero entry is = absurd (cc)
present-less (Some first ∷ entries) zero entry is = refl
present-less (None ∷ entries) (suc n) entry is = present-less entries n entry is
present-less (Some first ∷ entries) (suc n) entry is = omega (arith, present-less entries n entry is)

present-same : (entries : Entries) (n : ℕ) (entry other : Entry CountedCell) → get_or entries n None ≡ Some entry → present (set entries n (Some other)) ≡ present entries
present-same [] n entry other is = refl
present-same (None ∷ entries) zero entry other is = absurd (cc)
present-same (Some first ∷ entries) zero entry other is = refl
present-same (None ∷ entries) (suc n) entry other is = present-same entries n entry other is
present-same (Some first ∷ entries) (suc n) entry other is = omega (arith, present-same entries n entry other is)

-- ---- one reference is given up
-- what a name's cell lets go of, by names
abbrev LetsGo : Cells Placed → ℕ → List ℕ → Type 0
LetsGo h n inner =
    (first : Cells Placed) → map (number_in first) inner ≡ freed (refs_under first) n h

alike_freed : (inner : Placed → List ℕ) (h : Cells Placed) (m n : ℕ) → Alike h m n → freed inner m h ≡ freed inner n h
alike_freed inner h m n alike = freed-cell inner h m ∙ ap (freed_of inner) alike.cell ∙ sym (freed-cell inner h n)

lowered_gives : (old new : Contents CountedCell) (name : ℕ) (inner : List ℕ) → cells_of new.entries ≡ after (number_in (cells_of old.entries) name) (cells_of old.entries) → waiting new.condemned ≡ inner ++ waiting old.condemned → LetsGo (cells_of old.entries) (number_in (cells_of old.entries) name) inner → to_take_off new ≡ to_take_off old → (AreAllMarked old → AreAllMarked new) → Gives (name ∷ []) old new
lowered_gives old new name inner cells waits goes left marked = record {
  released = released;
  rest = subst (IsLeft (cells_of old.entries)) (sym cells) (left_change lowered (number_in (cells_of old.entries) name) (cells_of old.entries) lowered_moves);
  left = left;
  marked = marked;
}
  where
    -- the names that go, and those behind them
    split : (by : ℕ → ℕ) (more : List ℕ) → map by (more ++ (inner ++ waiting old.condemned)) ≡ map by more ++ (map by inner ++ map by (waiting old.condemned))
    split by more =
        map-append by more (inner ++ waiting old.condemned)
        ∙ ap (λ l. map by more ++ l) (map-append by inner (waiting old.condemned))

    released : (first : Cells Placed) (more : List ℕ) → IsLeft first (cells_of old.entries) → leaves first more new ≡ leaves first (name ∷ more) old
    released first more is_left =
        let h = cells_of old.entries in
        let n = number_in h name in
        let m = number_in first name in
        let r = refs_under first in
        let by = number_in first in
        let w = map by (waiting old.condemned) in
        let ms = map by more in
        let f = freed r n h in
        let alike = left_alike first h name is_left in
        let joined : map by (more ++ waiting old.condemned) ≡ ms ++ w = map-append by more (waiting old.condemned) in
        ap (λ g. release r g (map by (more ++ waiting new.condemned))) cells
        ∙ ap (λ ws. release r (after n h) (map by (more ++ ws))) waits
        ∙ ap (release r (after n h)) (split by more ∙ ap (λ l. ms ++ (l ++ w)) (goes first))
        ∙ any_order r (after n h) (ms ++ (f ++ w)) (f ++ (ms ++ w)) (λ c. omega (arith, times-append ms (f ++ w) c, times-append f w c, times-append f (ms ++ w) c, times-append ms w c))
        ∙ ap (λ l. release r (after n h) (f ++ l)) (sym joined)
        ∙ ap (λ g. release r g (f ++ map by (more ++ waiting old.condemned))) (sym (alike_change lowered h m n refl alike))
        ∙ ap (λ l. release r (after m h) (l ++ map by (more ++ waiting old.condemned))) (sym (alike_freed r h m n alike))
        ∙ sym (release_first r h m (map by (more ++ waiting old.condemned)))

-- the cell is gone
gone_gives : (a : Contents CountedCell) (key : Key) → IsNamed key → None ≡ value_at a key → Gives (name_of key ∷ []) a a
gone_gives a key named none =
    let h = cells_of a.entries in
    let n = number_in h (name_of key) in
    let gone = cell_lost a key named none in
    lowered_gives a a (name_of key) [] (sym (change-gone lowered n h refl gone)) refl (λ first. sym (freed-cell (refs_under first) h n ∙ ap (freed_of (refs_under first)) gone)) refl (λ marked. marked)

less_more : (n : ℕ) (x : Placed) → 1 < n → one_less n x ≡ Some (record { count = n - 1; content = x })
less_more zero x lt = absurd (omega arith)
less_more (suc zero) x lt = absurd (omega arith)
less_more (suc (suc n)) x lt =
    let e : suc n ≡ suc (suc n) - 1 = omega arith in ap (λ k. Some (record { count = k; content = x })) e

keeps_more : (inner : Placed → List ℕ) (n : ℕ) (x : Placed) → 1 < n → let_go inner n x ≡ []
keeps_more inner zero x lt = absurd (omega arith)
keeps_more inner (suc zero) x lt = absurd (omega arith)
keeps_more inner (suc (suc n)) x lt = refl

less_last : (n : ℕ) (x : Placed) → nat_lt 1 n ≡ false → one_less n x ≡ None
less_last zero x le = refl
less_last (suc zero) x le = refl
less_last (suc (suc n)) x le = absurd (omega (arith, ltb-false 1 (suc (suc n)) le))

gives_last : (inner : Placed → List ℕ) (n : ℕ) (x : Placed) → nat_lt 1 n ≡ false → let_go inner n x ≡ inner x
gives_last inner zero x le = refl
gives_last inner (suc zero) x le = refl
gives_last inner (suc (suc n)) x le = absurd (omega (arith, ltb-false 1 (suc (suc n)) le))

-- a cell to which there are more references
pub more_than_one : (cell : CountedCell) (o : Option CountedCell) → Some cell ≡ o → is_shared o ≡ true → 1 < cell.count
more_than_one cell o is shared = ltb-true 1 cell.count (ap is_shared is ∙ shared)

pub count_gives : (a : Contents CountedCell) (key : Key) (cell : CountedCell) → IsNamed key → Some cell ≡ value_at a key → is_shared (value_at a key) ≡ true → Gives (name_of key ∷ []) a (with_value a key (record { count = cell.count - 1; content = cell.content }))
count_gives a key cell named there shared =
    let h = cells_of a.entries in
    let n = number_in h (name_of key) in
    let p : Placed = record { slot = key.slot; holds = content_named cell.content } in
    let lt = more_than_one cell (value_at a key) there shared in
    let here = cell_found a key cell named there in
    let new : CountedCell = record { count = cell.count - 1; content = cell.content } in
    lowered_gives a (with_value a key new) (name_of key) []
    (cells-written lowered a key cell (Some (record { slot = key.slot; value = new })) named there (less_more cell.count p lt))
    refl
    (λ first. sym (freed-cell (refs_under first) h n ∙ ap (freed_of (refs_under first)) here ∙ keeps_more (refs_under first) cell.count p lt))
    (omega (arith, present-same a.entries (serial_of key) (record { slot = key.slot; value = cell }) (record { slot = key.slot; value = new }) (own key.slot (get_or a.entries (serial_of key) None) cell there)))
    (marked_written lowered a key cell new lowered_no_key named there (less_more cell.count p lt) (λ after narrows marked. marked))

pub none_shared : (a : Contents CountedCell) (key : Key) → None ≡ value_at a key → is_shared (value_at a key) ≡ true → ⊥
none_shared a key none shared = absurd (let e = ap is_shared none ∙ shared in cc)

-- the last reference
pub last_gives : (a b : Contents CountedCell) (key : Key) → IsNamed key → is_shared (value_at a key) ≡ false → MatchOption (value_at a key) (b ≡ a) (λ cell. b ≡ condemned_with a key cell) → Gives (name_of key ∷ []) a b
last_gives a b key named one = by_value (value_at a key) refl
  where
    by_value : (o : Option CountedCell) → o ≡ value_at a key → MatchOption o (b ≡ a) (λ cell. b ≡ condemned_with a key cell) → Gives (name_of key ∷ []) a b
    by_value None there same =
        subst (λ c. Gives (name_of key ∷ []) a c) (sym same) (gone_gives a key named there)
    by_value (Some cell) there same =
        let h = cells_of a.entries in
        let n = number_in h (name_of key) in
        let p : Placed = record { slot = key.slot; holds = content_named cell.content } in
        let last : nat_lt 1 cell.count ≡ false = ap is_shared there ∙ one in
        let here = cell_found a key cell named there in
        subst (λ c. Gives (name_of key ∷ []) a c) (sym same)
        (lowered_gives a (condemned_with a key cell) (name_of key) (refs_in (content_named cell.content))
        (cells-written lowered a key cell None named there (less_last cell.count p last))
        refl
        (λ first. sym (freed-cell (refs_under first) h n ∙ ap (freed_of (refs_under first)) here ∙ gives_last (refs_under first) cell.count p last))
        (omega (arith, present-less a.entries (serial_of key) (record { slot = key.slot; value = cell }) (own key.slot (get_or a.entries (serial_of key) None) cell there)))
        (marked_condemned a key cell named there (less_last cell.count p last)))

-- ---- several references
-- references that leave the same as others, whatever more is given up
pub record Leaves (refs : List ℕ) (now : Contents CountedCell) (all : List ℕ) (start : Contents CountedCell) : Type 0 where
  pub released : (first : Cells Placed) (more : List ℕ) → IsLeft first (cells_of start.entries) → leaves first (refs ++ more) now ≡ leaves first (all ++ more) start
  pub rest : IsLeft (cells_of start.entries) (cells_of now.entries)
  pub left : to_take_off now ≡ to_take_off start
  pub marked : AreAllMarked start → AreAllMarked now

pub leaves_next : (refs rest all whole : List ℕ) (start now next : Contents CountedCell) → whole ≡ refs ++ rest → Gives refs now next → Leaves whole now all start → Leaves rest next all start
leaves_next refs rest all whole start now next is given before = record {
  released =
      λ first more is_left.
      given.released first (rest ++ more) (left_next first (cells_of start.entries) (cells_of now.entries) is_left before.rest)
      ∙ ap (λ r. leaves first r now) (sym (append_assoc refs rest more) ∙ ap (λ r. r ++ more) (sym is))
      ∙ before.released first more is_left;
  rest = left_next (cells_of start.entries) (cells_of now.entries) (cells_of next.entries) before.rest given.rest;
  left = given.left ∙ before.left;
  marked = λ marked. given.marked (before.marked marked);
}

-- the next of some words, of some pairs, and of some words that may be missing
pub word_next : (words : List Word) (i : ℕ) (d : Word) (all : List ℕ) (start now next : Contents CountedCell) → i < length words → Gives (refs_of (word_named (get_or words i d))) now next → Leaves (words_refs (drop i words)) now all start → Leaves (words_refs (drop (i + 1) words)) next all start
word_next words i d all start now next within given before =
    leaves_next (refs_of (word_named (get_or words i d))) (words_refs (drop (i + 1) words)) all (words_refs (drop i words)) start now next (ap words_refs (drop_more words i d within)) given before

pub pair_next : (pairs : List (Word × Word)) (i : ℕ) (d : Word × Word) (all : List ℕ) (start now between next : Contents CountedCell) → i < length pairs → Gives (refs_of (word_named (get_or pairs i d).0)) now between → Gives (refs_of (word_named (get_or pairs i d).1)) between next → Leaves (pairs_refs (drop i pairs)) now all start → Leaves (pairs_refs (drop (i + 1) pairs)) next all start
pair_next pairs i d all start now between next within one other before =
    let p = get_or pairs i d in
    let rest = pairs_refs (drop (i + 1) pairs) in
    leaves_next (refs_of (word_named p.1)) rest all (refs_of (word_named p.1) ++ rest) start between next refl other
    (leaves_next (refs_of (word_named p.0)) (refs_of (word_named p.1) ++ rest) all (pairs_refs (drop i pairs)) start now between (ap pairs_refs (drop_more pairs i d within)) one before)

optional_first : (o : Option Word) (os : List (Option Word)) → optional_refs (o ∷ os) ≡ optional_ref o ++ optional_refs os
optional_first None os = refl
optional_first (Some w) os = refl

pub optional_next : (words : List (Option Word)) (i : ℕ) (d : Option Word) (all : List ℕ) (start now next : Contents CountedCell) → i < length words → Gives (optional_ref (get_or words i d)) now next → Leaves (optional_refs (drop i words)) now all start → Leaves (optional_refs (drop (i + 1) words)) next all start
optional_next words i d all start now next within given before =
    let o = get_or words i d in
    let rest = drop (i + 1) words in
    leaves_next (optional_ref o) (optional_refs rest) all (optional_refs (drop i words)) start now next (ap optional_refs (drop_more words i d within) ∙ optional_first o rest) given before

-- ---- one condemned cell less
pub taken_leaves : (first : Cells Placed) (a b c : Contents CountedCell) (pair : Key × CountedCell) → IsLeft first (cells_of a.entries) → a.condemned ≡ pair ∷ b.condemned → b ≡ taken_off a b.condemned → Gives (refs_in (content_named pair.1.content)) b c → leaves first [] c ≡ leaves first [] a
taken_leaves first a b c pair is_left condemned taken given =
    let refs = refs_in (content_named pair.1.content) in
    let r = refs_under first in
    let by = number_in first in
    let entries : b.entries ≡ a.entries = ap (λ d. d.entries) taken in
    given.released first [] (subst (λ e. IsLeft first (cells_of e)) (sym entries) is_left)
    ∙ ap (λ ns. release r (cells_of b.entries) (map by ns)) (append_assoc refs [] (waiting b.condemned))
    ∙ ap (λ e. release r (cells_of e) (map by (refs ++ waiting b.condemned))) entries
    ∙ ap (λ p. release r (cells_of a.entries) (map by (waiting p))) (sym condemned)

pub taken_left : (first a b c : Contents CountedCell) (refs : List ℕ) → b ≡ taken_off a b.condemned → Gives refs b c → IsLeft (cells_of first.entries) (cells_of a.entries) → IsLeft (cells_of first.entries) (cells_of c.entries)
taken_left first a b c refs taken given is_left =
    let entries : b.entries ≡ a.entries = ap (λ d. d.entries) taken in
    left_next (cells_of first.entries) (cells_of b.entries) (cells_of c.entries) (subst (λ e. IsLeft (cells_of first.entries) (cells_of e)) (sym entries) is_left) given.rest

pub marked_taken_off : (a b : Contents CountedCell) → b ≡ taken_off a b.condemned → AreAllMarked a → AreAllMarked b
marked_taken_off a b taken marked = subst AreAllMarked (sym taken) marked

pub taken_less : (a b c : Contents CountedCell) (pair : Key × CountedCell) → a.condemned ≡ pair ∷ b.condemned → b ≡ taken_off a b.condemned → to_take_off c ≡ to_take_off b → to_take_off c < to_take_off a
taken_less a b c pair condemned taken left =
    let entries : present b.entries ≡ present a.entries = ap (λ d. present d.entries) taken in
    let shorter : length a.condemned ≡ suc (length b.condemned) = ap length condemned in
    omega arith

pub nothing_left : (first : Cells Placed) (a : Contents CountedCell) → a.condemned ≡ [] → leaves first [] a ≡ cells_of a.entries
nothing_left first a none =
    ap (λ p. release (refs_under first) (cells_of a.entries) (map (number_in first) (waiting p))) none ∙ release-nothing (refs_under first) (cells_of a.entries)
