-- The names that a heap gave out: which they are, that they stay its own under each call, and that it holds no others where
-- none is stored.
use Rattle.std.proofs.Common.{◌≡◌, refl, sym, ap, subst, ◌∙◌, ℕ, zero, suc, ◌+◌, ◌*◌, ◌-◌, ◌/◌, ◌%◌, ◌^◌, arith, Bool, true, false, cond, eq-eqb, eqb-true, List, [], ◌∷◌, ◌++◌, length, take, drop, slice_get, slice_set, Option, Some, None, IfSome}
use Rattle.std.specs.Prelude.{is_some}
use Rattle.std.specs.Option.{option_map, option_flatten, unwrap_or}
use Rattle.std.proofs.lemmas.Option.{same_Some}
use Rattle.c_core.specs.Cells.{Cell, Cells, change, counted, count_at, content_of, content_at, raised, lowered, one_less, make, take_one}
use Rattle.c_core.specs.Machine.{Word, ShortInt, BigInt, TaggedError, Native, CharWord, NoneObject, TrueObject, FalseObject, ObjectCell, NoObject, Content, IntCell, StrCell, ListCell, DictCell, TupleCell, InstCell, ExcCell, refs_of, refs, set_refs, pair_refs, refs_in}
use Rattle.c_core.specs.Release.{after, freed, weight, release_some, release}
use Rattle.slot_arena.specs.declared.key.Key.{Key}
use Rattle.slot_arena.specs.Serials.{serial_of}
use Rattle.cell_heap.specs.Contents.{name_of, number_of, slot_in, serial_in}
use Rattle.cell_heap.specs.Held.{cell_at, IsLeft}
use Rattle.cell_heap.specs.Ours.{slot_at, IsOurs, AreOurs, HoldsOurs, KeepsPlaces}
use Rattle.cell_heap.specs.Pairs.{with_pair, pair_in, without_pair}
use Rattle.cell_heap.specs.Placed.{Placed, placed_under, lies_in, number_in, held_at, in_place, refill_held, is_there}
use Rattle.cell_heap.specs.Words.{word_in, set_item, set_value, with_word, with_last, last_in, without_last}
use Rattle.cell_heap.proofs.CellLemmas.{content_at-cell, count_at-cell, past, within, cell_gone, length-change, length-make, rewritten, change-refill, changed_at, Alike, made_before, made_last}

-- ---- what a name refers to
pub number_gone : (cells : Cells Placed) (name : ℕ) → content_at cells (serial_in name) ≡ None → number_in cells name ≡ length cells
number_gone cells name gone = ap (λ o. cond (lies_in (slot_in name) o) (serial_in name) (length cells)) gone

pub number_there : (cells : Cells Placed) (name : ℕ) (p : Placed) → content_at cells (serial_in name) ≡ Some p → p.slot ≡ slot_in name → number_in cells name ≡ serial_in name
number_there cells name p there same =
    ap (λ o. cond (lies_in (slot_in name) o) (serial_in name) (length cells)) there
    ∙ ap (λ b. cond b (serial_in name) (length cells)) (eq-eqb p.slot (slot_in name) same)

no_content : {X : Type 0} (cells : Cells X) → content_at cells (length cells) ≡ None
no_content cells = content_at-cell cells (length cells) ∙ ap content_of (past cells (length cells) (omega arith))

-- a name that refers to a cell
pub record Refers (cells : Cells Placed) (name : ℕ) (x : Content) : Type 0 where
  pub number : number_in cells name ≡ serial_in name
  pub content : content_at cells (serial_in name) ≡ Some (record { slot = slot_in name; holds = x })

pub refers : (cells : Cells Placed) (name : ℕ) (x : Content) → held_at cells name ≡ Some x → Refers cells name x
refers cells name x held = of_content (content_at cells (serial_in name)) refl
  where
    nowhere : number_in cells name ≡ length cells → Refers cells name x
    nowhere is =
        let none : held_at cells name ≡ None = ap (λ n. option_map (λ p. p.holds) (content_at cells n)) is ∙ ap (option_map (λ p. p.holds)) (no_content cells) in
        absurd (let e = sym none ∙ held in cc)

    by_slot : (p : Placed) (b : Bool) → content_at cells (serial_in name) ≡ Some p → lies_in (slot_in name) (Some p) ≡ b → Refers cells name x
    by_slot p true there is =
        let slot = eqb-true p.slot (slot_in name) is in
        let number = number_there cells name p there slot in
        let same : p.holds ≡ x =
        same_Some p.holds x (sym (ap (option_map (λ q. q.holds)) (ap (content_at cells) number ∙ there)) ∙ held) in
        record {
          number = number;
          content = there ∙ ap (λ s. Some (record { slot = s; holds = p.holds })) slot ∙ ap (λ y. Some (record { slot = slot_in name; holds = y })) same;
        }
    by_slot p false there is =
        nowhere (ap (λ o. cond (lies_in (slot_in name) o) (serial_in name) (length cells)) there ∙ ap (λ b. cond b (serial_in name) (length cells)) is)

    of_content : (o : Option Placed) → content_at cells (serial_in name) ≡ o → Refers cells name x
    of_content None gone = nowhere (number_gone cells name gone)
    of_content (Some p) there = by_slot p (lies_in (slot_in name) (Some p)) there refl

-- a name that refers to nothing
pub nothing_named : (cells : Cells Placed) (name : ℕ) → held_at cells name ≡ None → cell_at cells (number_in cells name) ≡ None
nothing_named cells name none = of_cell (cell_at cells (number_in cells name)) refl
  where
    of_cell : (o : Option (Cell Placed)) → cell_at cells (number_in cells name) ≡ o → cell_at cells (number_in cells name) ≡ None
    of_cell None at = at
    of_cell (Some cell) at =
        absurd (let e = sym none ∙ ap (option_map (λ (p : Placed). p.holds)) (content_at-cell cells (number_in cells name) ∙ ap content_of at) in cc)

pub no_count : (cells : Cells Placed) (name : ℕ) → held_at cells name ≡ None → count_at cells (number_in cells name) ≡ 0
no_count cells name none = count_at-cell cells (number_in cells name) ∙ ap counted (nothing_named cells name none)

-- a name that refers to a cell is the heap's own
pub live_ours : (cells : Cells Placed) (name : ℕ) (x : Content) → held_at cells name ≡ Some x → IsOurs cells name
live_ours cells name x held =
    let r = refers cells name x held in
    record {
      made = within cells (serial_in name) (record { slot = slot_in name; holds = x }) r.content;
      slot = λ slot is. same_Some slot (slot_in name) (sym is ∙ ap (option_map (λ p. p.slot)) r.content);
    }

pub there_ours : (cells : Cells Placed) (name : ℕ) → is_some (held_at cells name) ≡ true → IsOurs cells name
there_ours cells name there = of_content (held_at cells name) refl there
  where
    of_content : (o : Option Content) → held_at cells name ≡ o → is_some o ≡ true → IsOurs cells name
    of_content None is there = absurd (cc)
    of_content (Some x) is there = live_ours cells name x is

pub word_ours : (cells : Cells Placed) (w : Word) → is_there cells w ≡ true → AreOurs cells (refs_of w)
word_ours cells (ShortInt n) there = tt
word_ours cells (BigInt name) there = (there_ours cells name there, tt)
word_ours cells TaggedError there = tt
word_ours cells (Native n) there = tt
word_ours cells (CharWord n) there = tt
word_ours cells (ObjectCell name) there = (there_ours cells name there, tt)
word_ours cells NoneObject there = tt
word_ours cells TrueObject there = tt
word_ours cells FalseObject there = tt
word_ours cells NoObject there = tt

-- by its serial alone
pub ours_number : (cells : Cells Placed) (name : ℕ) (p : Placed) → IsOurs cells name → content_at cells (serial_in name) ≡ Some p → number_in cells name ≡ serial_in name
ours_number cells name p ours there = number_there cells name p there (ours.slot p.slot (ap (option_map (λ q. q.slot)) there))

pub ours_cell : (cells : Cells Placed) (name : ℕ) → IsOurs cells name → cell_at cells (number_in cells name) ≡ cell_at cells (serial_in name)
ours_cell cells name ours = of_content (content_at cells (serial_in name)) refl
  where
    of_content : (o : Option Placed) → content_at cells (serial_in name) ≡ o → cell_at cells (number_in cells name) ≡ cell_at cells (serial_in name)
    of_content None gone =
        ap (cell_at cells) (number_gone cells name gone) ∙ past cells (length cells) (omega arith) ∙ sym (cell_gone cells (serial_in name) gone)
    of_content (Some p) there = ap (cell_at cells) (ours_number cells name p ours there)

-- ---- lists of names
module _ (cells : Cells Placed) where
  pub ours_first : (ms ns : List ℕ) → AreOurs cells (ms ++ ns) → AreOurs cells ms
  ours_first [] ns ours = tt
  ours_first (m ∷ ms) ns ours = (ours.0, ours_first ms ns ours.1)

  pub ours_second : (ms ns : List ℕ) → AreOurs cells (ms ++ ns) → AreOurs cells ns
  ours_second [] ns ours = ours
  ours_second (m ∷ ms) ns ours = ours_second ms ns ours.1

  pub ours_both : (ms ns : List ℕ) → AreOurs cells ms → AreOurs cells ns → AreOurs cells (ms ++ ns)
  ours_both [] ns first second = second
  ours_both (m ∷ ms) ns first second = (first.0, ours_both ms ns first.1 second)

  -- ---- what is read of a content
  abbrev pub WordOurs : Word → Type 0
  WordOurs w = AreOurs cells (refs_of w)

  item-ours : (ws : List Word) (i : ℕ) (w : Word) → AreOurs cells (refs ws) → slice_get ws i ≡ Some w → WordOurs w
  item-ours [] i w ours is = absurd (cc)
  item-ours (v ∷ ws) zero w ours is = subst WordOurs (same_Some v w is) (ours_first (refs_of v) (refs ws) ours)
  item-ours (v ∷ ws) (suc i) w ours is = item-ours ws i w (ours_second (refs_of v) (refs ws) ours) is

  pub one_pair-ours : (ps : List (Word × Word)) (i : ℕ) (p : Word × Word) → AreOurs cells (pair_refs ps) → slice_get ps i ≡ Some p → WordOurs p.0 × WordOurs p.1
  one_pair-ours [] i p ours is = absurd (cc)
  one_pair-ours (q ∷ ps) zero p ours is =
      let rest = ours_second (refs_of q.0) (refs_of q.1 ++ pair_refs ps) ours in
      subst (λ (r : Word × Word). WordOurs r.0 × WordOurs r.1) (same_Some q p is) (ours_first (refs_of q.0) (refs_of q.1 ++ pair_refs ps) ours, ours_first (refs_of q.1) (pair_refs ps) rest)
  one_pair-ours (q ∷ ps) (suc i) p ours is =
      one_pair-ours ps i p (ours_second (refs_of q.1) (pair_refs ps) (ours_second (refs_of q.0) (refs_of q.1 ++ pair_refs ps) ours)) is

  value-ours : (ps : List (Word × Word)) (i : ℕ) (w : Word) → AreOurs cells (pair_refs ps) → option_map (λ p. p.1) (slice_get ps i) ≡ Some w → WordOurs w
  value-ours ps i w ours is = of_pair (slice_get ps i) refl is
    where
      of_pair : (o : Option (Word × Word)) → slice_get ps i ≡ o → option_map (λ p. p.1) o ≡ Some w → WordOurs w
      of_pair None at is = absurd (cc)
      of_pair (Some p) at is = subst WordOurs (same_Some p.1 w is) (one_pair-ours ps i p ours at).1

  attribute-ours : (os : List (Option Word)) (i : ℕ) (w : Word) → AreOurs cells (set_refs os) → option_flatten (slice_get os i) ≡ Some w → WordOurs w
  attribute-ours [] i w ours is = absurd (cc)
  attribute-ours (None ∷ os) zero w ours is = absurd (cc)
  attribute-ours (Some v ∷ os) zero w ours is = subst WordOurs (same_Some v w is) (ours_first (refs_of v) (set_refs os) ours)
  attribute-ours (None ∷ os) (suc i) w ours is = attribute-ours os i w ours is
  attribute-ours (Some v ∷ os) (suc i) w ours is = attribute-ours os i w (ours_second (refs_of v) (set_refs os) ours) is

  pub word_in-ours : (i : ℕ) (x : Content) (w : Word) → AreOurs cells (refs_in x) → word_in i x ≡ Some w → WordOurs w
  word_in-ours i (IntCell n) w ours is = absurd (cc)
  word_in-ours i (StrCell text) w ours is = absurd (cc)
  word_in-ours i (ListCell items) w ours is = item-ours items i w ours is
  word_in-ours i (DictCell pairs) w ours is = value-ours pairs i w ours is
  word_in-ours i (TupleCell items) w ours is = item-ours items i w ours is
  word_in-ours i (InstCell class attributes) w ours is = attribute-ours attributes i w ours is
  word_in-ours i (ExcCell e) w ours is = absurd (cc)

  pub last_in-ours : (x : Content) (w : Word) → AreOurs cells (refs_in x) → last_in x ≡ Some w → WordOurs w
  last_in-ours (IntCell n) w ours is = absurd (cc)
  last_in-ours (StrCell text) w ours is = absurd (cc)
  last_in-ours (ListCell items) w ours is = item-ours items (length items - 1) w ours is
  last_in-ours (DictCell pairs) w ours is = absurd (cc)
  last_in-ours (TupleCell items) w ours is = absurd (cc)
  last_in-ours (InstCell class attributes) w ours is = absurd (cc)
  last_in-ours (ExcCell e) w ours is = absurd (cc)

  pub pair_in-ours : (i : ℕ) (x : Content) (p : Word × Word) → AreOurs cells (refs_in x) → pair_in i x ≡ Some p → WordOurs p.0 × WordOurs p.1
  pair_in-ours i (IntCell n) p ours is = absurd (cc)
  pair_in-ours i (StrCell text) p ours is = absurd (cc)
  pair_in-ours i (ListCell items) p ours is = absurd (cc)
  pair_in-ours i (DictCell pairs) p ours is = one_pair-ours pairs i p ours is
  pair_in-ours i (TupleCell items) p ours is = absurd (cc)
  pair_in-ours i (InstCell class attributes) p ours is = absurd (cc)
  pair_in-ours i (ExcCell e) p ours is = absurd (cc)

  -- ---- what becomes of a content
  items-set : (ws : List Word) (i : ℕ) (w : Word) → AreOurs cells (refs ws) → WordOurs w → AreOurs cells (refs (slice_set ws i w))
  items-set [] i w ours new = tt
  items-set (v ∷ ws) zero w ours new = ours_both (refs_of w) (refs ws) new (ours_second (refs_of v) (refs ws) ours)
  items-set (v ∷ ws) (suc i) w ours new =
      ours_both (refs_of v) (refs (slice_set ws i w)) (ours_first (refs_of v) (refs ws) ours) (items-set ws i w (ours_second (refs_of v) (refs ws) ours) new)

  item-set : (ws : List Word) (i : ℕ) (o : Option Word) → AreOurs cells (refs ws) → IfSome o WordOurs → AreOurs cells (refs (set_item ws i o))
  item-set ws i None ours new = ours
  item-set ws i (Some w) ours new = items-set ws i w ours new

  or-ours : (o : Option Word) (w : Word) → IfSome o WordOurs → WordOurs w → WordOurs (unwrap_or o w)
  or-ours None w new old = old
  or-ours (Some v) w new old = new

  value-set : (ps : List (Word × Word)) (i : ℕ) (o : Option Word) → AreOurs cells (pair_refs ps) → IfSome o WordOurs → AreOurs cells (pair_refs (set_value ps i o))
  value-set [] i o ours new = tt
  value-set (p ∷ ps) zero o ours new =
      let rest = ours_second (refs_of p.0) (refs_of p.1 ++ pair_refs ps) ours in
      let value = unwrap_or o p.1 in
      ours_both (refs_of p.0) (refs_of value ++ pair_refs ps) (ours_first (refs_of p.0) (refs_of p.1 ++ pair_refs ps) ours)
      (ours_both (refs_of value) (pair_refs ps) (or-ours o p.1 new (ours_first (refs_of p.1) (pair_refs ps) rest)) (ours_second (refs_of p.1) (pair_refs ps) rest))
  value-set (p ∷ ps) (suc i) o ours new =
      let rest = ours_second (refs_of p.0) (refs_of p.1 ++ pair_refs ps) ours in
      let more = value-set ps i o (ours_second (refs_of p.1) (pair_refs ps) rest) new in
      ours_both (refs_of p.0) (refs_of p.1 ++ pair_refs (set_value ps i o)) (ours_first (refs_of p.0) (refs_of p.1 ++ pair_refs ps) ours)
      (ours_both (refs_of p.1) (pair_refs (set_value ps i o)) (ours_first (refs_of p.1) (pair_refs ps) rest) more)

  attribute-set : (os : List (Option Word)) (i : ℕ) (o : Option Word) → AreOurs cells (set_refs os) → IfSome o WordOurs → AreOurs cells (set_refs (slice_set os i o))
  attribute-set [] i o ours new = tt
  attribute-set (None ∷ os) zero None ours new = ours
  attribute-set (None ∷ os) zero (Some w) ours new = ours_both (refs_of w) (set_refs os) new ours
  attribute-set (Some v ∷ os) zero None ours new = ours_second (refs_of v) (set_refs os) ours
  attribute-set (Some v ∷ os) zero (Some w) ours new = ours_both (refs_of w) (set_refs os) new (ours_second (refs_of v) (set_refs os) ours)
  attribute-set (None ∷ os) (suc i) o ours new = attribute-set os i o ours new
  attribute-set (Some v ∷ os) (suc i) o ours new =
      ours_both (refs_of v) (set_refs (slice_set os i o)) (ours_first (refs_of v) (set_refs os) ours) (attribute-set os i o (ours_second (refs_of v) (set_refs os) ours) new)

  pub with_word-ours : (i : ℕ) (o : Option Word) → IfSome o WordOurs → (x : Content) → AreOurs cells (refs_in x) → AreOurs cells (refs_in (with_word i o x))
  with_word-ours i o new (IntCell n) ours = ours
  with_word-ours i o new (StrCell text) ours = ours
  with_word-ours i o new (ListCell items) ours = item-set items i o ours new
  with_word-ours i o new (DictCell pairs) ours = value-set pairs i o ours new
  with_word-ours i o new (TupleCell items) ours = item-set items i o ours new
  with_word-ours i o new (InstCell class attributes) ours = attribute-set attributes i o ours new
  with_word-ours i o new (ExcCell e) ours = ours

  items-more : (ws : List Word) (w : Word) → AreOurs cells (refs ws) → WordOurs w → AreOurs cells (refs (ws ++ w ∷ []))
  items-more [] w ours new = ours_both (refs_of w) [] new tt
  items-more (v ∷ ws) w ours new =
      ours_both (refs_of v) (refs (ws ++ w ∷ [])) (ours_first (refs_of v) (refs ws) ours) (items-more ws w (ours_second (refs_of v) (refs ws) ours) new)

  pub with_last-ours : (w : Word) → WordOurs w → (x : Content) → AreOurs cells (refs_in x) → AreOurs cells (refs_in (with_last w x))
  with_last-ours w new (IntCell n) ours = ours
  with_last-ours w new (StrCell text) ours = ours
  with_last-ours w new (ListCell items) ours = items-more items w ours new
  with_last-ours w new (DictCell pairs) ours = ours
  with_last-ours w new (TupleCell items) ours = ours
  with_last-ours w new (InstCell class attributes) ours = ours
  with_last-ours w new (ExcCell e) ours = ours

  items-less : (i : ℕ) (ws : List Word) → AreOurs cells (refs ws) → AreOurs cells (refs (take i ws))
  items-less zero ws ours = tt
  items-less (suc i) [] ours = tt
  items-less (suc i) (w ∷ ws) ours =
      ours_both (refs_of w) (refs (take i ws)) (ours_first (refs_of w) (refs ws) ours) (items-less i ws (ours_second (refs_of w) (refs ws) ours))

  pub without_last-ours : (x : Content) → AreOurs cells (refs_in x) → AreOurs cells (refs_in (without_last x))
  without_last-ours (IntCell n) ours = ours
  without_last-ours (StrCell text) ours = ours
  without_last-ours (ListCell items) ours = items-less (length items - 1) items ours
  without_last-ours (DictCell pairs) ours = ours
  without_last-ours (TupleCell items) ours = ours
  without_last-ours (InstCell class attributes) ours = ours
  without_last-ours (ExcCell e) ours = ours

  pairs-more : (ps qs : List (Word × Word)) → AreOurs cells (pair_refs ps) → AreOurs cells (pair_refs qs) → AreOurs cells (pair_refs (ps ++ qs))
  pairs-more [] qs ours new = new
  pairs-more (p ∷ ps) qs ours new =
      let rest = ours_second (refs_of p.0) (refs_of p.1 ++ pair_refs ps) ours in
      ours_both (refs_of p.0) (refs_of p.1 ++ pair_refs (ps ++ qs)) (ours_first (refs_of p.0) (refs_of p.1 ++ pair_refs ps) ours)
      (ours_both (refs_of p.1) (pair_refs (ps ++ qs)) (ours_first (refs_of p.1) (pair_refs ps) rest) (pairs-more ps qs (ours_second (refs_of p.1) (pair_refs ps) rest) new))

  pairs-less : (i : ℕ) (ps : List (Word × Word)) → AreOurs cells (pair_refs ps) → AreOurs cells (pair_refs (take i ps))
  pairs-less zero ps ours = tt
  pairs-less (suc i) [] ours = tt
  pairs-less (suc i) (p ∷ ps) ours =
      let rest = ours_second (refs_of p.0) (refs_of p.1 ++ pair_refs ps) ours in
      ours_both (refs_of p.0) (refs_of p.1 ++ pair_refs (take i ps)) (ours_first (refs_of p.0) (refs_of p.1 ++ pair_refs ps) ours)
      (ours_both (refs_of p.1) (pair_refs (take i ps)) (ours_first (refs_of p.1) (pair_refs ps) rest) (pairs-less i ps (ours_second (refs_of p.1) (pair_refs ps) rest)))

  pairs-behind : (i : ℕ) (ps : List (Word × Word)) → AreOurs cells (pair_refs ps) → AreOurs cells (pair_refs (drop i ps))
  pairs-behind zero ps ours = ours
  pairs-behind (suc i) [] ours = tt
  pairs-behind (suc i) (p ∷ ps) ours =
      pairs-behind i ps (ours_second (refs_of p.1) (pair_refs ps) (ours_second (refs_of p.0) (refs_of p.1 ++ pair_refs ps) ours))

  pub with_pair-ours : (p : Word × Word) → WordOurs p.0 → WordOurs p.1 → (x : Content) → AreOurs cells (refs_in x) → AreOurs cells (refs_in (with_pair p x))
  with_pair-ours p key value (IntCell n) ours = ours
  with_pair-ours p key value (StrCell text) ours = ours
  with_pair-ours p key value (ListCell items) ours = ours
  with_pair-ours p key value (DictCell pairs) ours =
      pairs-more pairs (p ∷ []) ours (ours_both (refs_of p.0) (refs_of p.1 ++ []) key (ours_both (refs_of p.1) [] value tt))
  with_pair-ours p key value (TupleCell items) ours = ours
  with_pair-ours p key value (InstCell class attributes) ours = ours
  with_pair-ours p key value (ExcCell e) ours = ours

  pub without_pair-ours : (i : ℕ) (x : Content) → AreOurs cells (refs_in x) → AreOurs cells (refs_in (without_pair i x))
  without_pair-ours i (IntCell n) ours = ours
  without_pair-ours i (StrCell text) ours = ours
  without_pair-ours i (ListCell items) ours = ours
  without_pair-ours i (DictCell pairs) ours = pairs-more (take i pairs) (drop (i + 1) pairs) (pairs-less i pairs ours) (pairs-behind (i + 1) pairs ours)
  without_pair-ours i (TupleCell items) ours = ours
  without_pair-ours i (InstCell class attributes) ours = ours
  without_pair-ours i (ExcCell e) ours = ours

-- ---- what is the heap's own stays so
pub ours_still : (old new : Cells Placed) (name : ℕ) → KeepsPlaces old new → IsOurs old name → IsOurs new name
ours_still old new name keeps ours = record {
  made = omega (arith, ours.made, keeps.longer);
  slot = λ slot is. ours.slot slot (keeps.slots (serial_in name) slot ours.made is);
}

pub are_still : (old new : Cells Placed) (names : List ℕ) → KeepsPlaces old new → AreOurs old names → AreOurs new names
are_still old new [] keeps ours = tt
are_still old new (name ∷ names) keeps ours = (ours_still old new name keeps ours.0, are_still old new names keeps ours.1)

pub keeps_itself : (cells : Cells Placed) → KeepsPlaces cells cells
keeps_itself cells = record { longer = omega arith; slots = λ n slot lt is. is }

pub keeps_next : (first second third : Cells Placed) → KeepsPlaces first second → KeepsPlaces second third → KeepsPlaces first third
keeps_next first second third one other = record {
  longer = omega (arith, one.longer, other.longer);
  slots = λ n slot lt is. one.slots n slot lt (other.slots n slot (omega (arith, lt, one.longer)) is);
}

pub left_keeps : (first rest : Cells Placed) → IsLeft first rest → KeepsPlaces first rest
left_keeps first rest left = record { longer = omega (arith, left.made); slots = λ n slot lt is. left.slots n slot is }

pub left_itself : (cells : Cells Placed) → IsLeft cells cells
left_itself cells = record { made = refl; slots = λ n slot is. is }

pub left_next : (first second third : Cells Placed) → IsLeft first second → IsLeft second third → IsLeft first third
left_next first second third one other = record {
  made = other.made ∙ one.made;
  slots = λ n slot is. one.slots n slot (other.slots n slot is);
}

abbrev slot_of : Option (Cell Placed) → Option ℕ
slot_of o = option_map (λ p. p.slot) (content_of o)

slot_at-cell : (cells : Cells Placed) (n : ℕ) → slot_at cells n ≡ slot_of (cell_at cells n)
slot_at-cell cells n = ap (option_map (λ p. p.slot)) (content_at-cell cells n)

-- a change moves no cell, and brings none back
abbrev pub MovesNone : (Option (Cell Placed) → Option (Cell Placed)) → Type 0
MovesNone by = (o : Option (Cell Placed)) (slot : ℕ) → slot_of (by o) ≡ Some slot → slot_of o ≡ Some slot

pub left_change : (by : Option (Cell Placed) → Option (Cell Placed)) (c : ℕ) (cells : Cells Placed) → MovesNone by → IsLeft cells (change by c cells)
left_change by c cells moves = record {
  made = length-change by c cells;
  slots = λ n slot is.
      slot_at-cell cells n
      ∙ changed_at (λ o. slot_of o ≡ Some slot → slot_of (cell_at cells n) ≡ Some slot) by c n cells (λ old. old) (λ new. moves (cell_at cells n) slot new) (sym (slot_at-cell (change by c cells) n) ∙ is);
}

pub raised_moves : MovesNone raised
raised_moves None slot is = is
raised_moves (Some cell) slot is = is

pub lowered_moves : MovesNone lowered
lowered_moves None slot is = is
lowered_moves (Some cell) slot is = of_count cell.count cell.content is
  where
    of_count : (n : ℕ) (p : Placed) → slot_of (one_less n p) ≡ Some slot → Some p.slot ≡ Some slot
    of_count zero p is = absurd (cc)
    of_count (suc zero) p is = absurd (cc)
    of_count (suc (suc n)) p is = is

pub rewritten_moves : (f : Content → Content) → MovesNone (rewritten (in_place f))
rewritten_moves f None slot is = is
rewritten_moves f (Some cell) slot is = is

-- ---- among cells that are left a name refers to what it did, or to nothing
pub left_none : (first rest : Cells Placed) (n : ℕ) → IsLeft first rest → cell_at first n ≡ None → cell_at rest n ≡ None
left_none first rest n left gone = of_cell (cell_at rest n) refl
  where
    of_cell : (o : Option (Cell Placed)) → cell_at rest n ≡ o → cell_at rest n ≡ None
    of_cell None at = at
    of_cell (Some cell) at =
        let was : slot_at first n ≡ Some cell.content.slot = left.slots n cell.content.slot (slot_at-cell rest n ∙ ap slot_of at) in
        absurd (let e = sym (slot_at-cell first n ∙ ap slot_of gone) ∙ was in cc)

pub left_alike : (first rest : Cells Placed) (name : ℕ) → IsLeft first rest → Alike rest (number_in first name) (number_in rest name)
left_alike first rest name left = of_held (held_at rest name) refl
  where
    -- both are the serial
    still : (x : Content) → Refers rest name x → number_in first name ≡ number_in rest name
    still x r =
        let was : slot_at first (serial_in name) ≡ Some (slot_in name) = left.slots (serial_in name) (slot_in name) (ap (option_map (λ p. p.slot)) r.content) in
        placed (content_at first (serial_in name)) refl was ∙ sym r.number
      where
        placed : (o : Option Placed) → content_at first (serial_in name) ≡ o → option_map (λ (p : Placed). p.slot) o ≡ Some (slot_in name) → number_in first name ≡ serial_in name
        placed None at is = absurd (cc)
        placed (Some p) at is = number_there first name p at (same_Some p.slot (slot_in name) is)

    -- what the first cells had in the slot is gone
    gone : (y : Content) → held_at rest name ≡ None → Refers first name y → cell_at rest (serial_in name) ≡ None
    gone y none r = of_cell (cell_at rest (serial_in name)) refl
      where
        of_cell : (o : Option (Cell Placed)) → cell_at rest (serial_in name) ≡ o → cell_at rest (serial_in name) ≡ None
        of_cell None at = at
        of_cell (Some cell) at =
            let there : content_at rest (serial_in name) ≡ Some cell.content = content_at-cell rest (serial_in name) ∙ ap content_of at in
            let was : slot_at first (serial_in name) ≡ Some cell.content.slot = left.slots (serial_in name) cell.content.slot (ap (option_map (λ p. p.slot)) there) in
            let slot : cell.content.slot ≡ slot_in name = same_Some cell.content.slot (slot_in name) (sym was ∙ ap (option_map (λ p. p.slot)) r.content) in
            let number = number_there rest name cell.content there slot in
            absurd (let e = sym none ∙ ap (option_map (λ (p : Placed). p.holds)) (ap (content_at rest) number ∙ there) in cc)

    lost : (o : Option Content) → held_at first name ≡ o → held_at rest name ≡ None → cell_at rest (number_in first name) ≡ None
    lost None at none = left_none first rest (number_in first name) left (nothing_named first name at)
    lost (Some y) at none = let r = refers first name y at in ap (cell_at rest) r.number ∙ gone y none r

    of_held : (o : Option Content) → held_at rest name ≡ o → Alike rest (number_in first name) (number_in rest name)
    of_held (Some x) at =
        let is = still x (refers rest name x at) in
        record { cell = ap (cell_at rest) is; same = λ cell there. is }
    of_held None at =
        let here = nothing_named rest name at in
        record {
          cell = lost (held_at first name) refl at ∙ sym here;
          same = λ cell there. absurd (let e = sym here ∙ there in cc);
        }

-- ---- each call keeps the places
pub keeps-take : (cells : Cells Placed) (c : ℕ) → KeepsPlaces cells (take_one c cells)
keeps-take cells c = left_keeps cells (take_one c cells) (left_change raised c cells raised_moves)

pub keeps-refill : (f : Content → Content) (cells : Cells Placed) (name : ℕ) → KeepsPlaces cells (refill_held f name cells)
keeps-refill f cells name =
    subst (KeepsPlaces cells) (change-refill (in_place f) (number_in cells name) cells)
    (left_keeps cells (change (rewritten (in_place f)) (number_in cells name) cells) (left_change (rewritten (in_place f)) (number_in cells name) cells (rewritten_moves f)))

pub keeps-make : (p : Placed) (cells : Cells Placed) → KeepsPlaces cells (make p cells)
keeps-make p cells = record {
  longer = omega (arith, length-make p cells);
  slots = λ n slot lt is. ap (option_map (λ q. q.slot)) (sym (made_before p cells n lt)) ∙ is;
}

left_some : (refs_of_content : Placed → List ℕ) (n : ℕ) (cells : Cells Placed) (refs : List ℕ) → IsLeft cells (release_some refs_of_content n cells refs)
left_some inner zero cells refs = left_itself cells
left_some inner (suc n) cells [] = left_itself cells
left_some inner (suc n) cells (c ∷ refs) =
    left_next cells (after c cells) (release_some inner n (after c cells) (freed inner c cells ++ refs)) (left_change lowered c cells lowered_moves) (left_some inner n (after c cells) (freed inner c cells ++ refs))

pub left_release : (inner : Placed → List ℕ) (cells : Cells Placed) (refs : List ℕ) → IsLeft cells (release inner cells refs)
left_release inner cells refs = left_some inner (length refs + weight inner cells) cells refs

pub keeps-release : (inner : Placed → List ℕ) (cells : Cells Placed) (refs : List ℕ) → KeepsPlaces cells (release inner cells refs)
keeps-release inner cells refs = left_keeps cells (release inner cells refs) (left_release inner cells refs)

-- ---- the key of a new cell is the heap's own
pub fresh_ours : (cells : Cells Placed) (key : Key) (x : Content) → serial_of key ≡ length cells → number_of key ≡ length cells → IsOurs (make (placed_under key x) cells) (name_of key)
fresh_ours cells key x serial number =
    let p = placed_under key x in
    let own : slot_in (name_of key) ≡ key.slot = slot_told key.slot (serial_of key) (number ∙ sym serial) in
    let here : content_at (make p cells) (number_of key) ≡ Some p = ap (content_at (make p cells)) number ∙ made_last p cells in
    record {
      made = omega (arith, number, length-make p cells);
      slot = λ slot is. same_Some slot key.slot (sym is ∙ ap (option_map (λ q. q.slot)) here) ∙ sym own;
    }
  where
    slot_told : (slot serial : ℕ) → (slot * 2 ^ 128 + serial) % 2 ^ 128 ≡ serial → (slot * 2 ^ 128 + serial) / 2 ^ 128 ≡ slot
    slot_told slot serial is = omega (arith, is)

-- ---- contents hold the heap's own names alone
-- each content was there before
abbrev pub KeepsContents : Cells Placed → Cells Placed → Type 0
KeepsContents first rest = (n : ℕ) (p : Placed) → content_at rest n ≡ Some p → content_at first n ≡ Some p

pub holds_still : (old new : Cells Placed) → KeepsPlaces old new → KeepsContents old new → HoldsOurs old → HoldsOurs new
holds_still old new keeps contents holds = λ n p is. are_still old new (refs_in p.holds) keeps (holds n p (contents n p is))

abbrev pub ChangesNone : (Option (Cell Placed) → Option (Cell Placed)) → Type 0
ChangesNone by = (o : Option (Cell Placed)) (p : Placed) → content_of (by o) ≡ Some p → content_of o ≡ Some p

pub contents_change : (by : Option (Cell Placed) → Option (Cell Placed)) (c : ℕ) (cells : Cells Placed) → ChangesNone by → KeepsContents cells (change by c cells)
contents_change by c cells same = λ n p is.
    content_at-cell cells n
    ∙ changed_at (λ o. content_of o ≡ Some p → content_of (cell_at cells n) ≡ Some p) by c n cells (λ old. old) (λ new. same (cell_at cells n) p new) (sym (content_at-cell (change by c cells) n) ∙ is)

raised_same : ChangesNone raised
raised_same None p is = is
raised_same (Some cell) p is = is

pub lowered_same : ChangesNone lowered
lowered_same None p is = is
lowered_same (Some cell) p is = of_count cell.count cell.content is
  where
    of_count : (n : ℕ) (q : Placed) → content_of (one_less n q) ≡ Some p → Some q ≡ Some p
    of_count zero q is = absurd (cc)
    of_count (suc zero) q is = absurd (cc)
    of_count (suc (suc n)) q is = is

pub holds-take : (cells : Cells Placed) (c : ℕ) → HoldsOurs cells → HoldsOurs (take_one c cells)
holds-take cells c holds = holds_still cells (take_one c cells) (keeps-take cells c) (contents_change raised c cells raised_same) holds

contents_some : (inner : Placed → List ℕ) (n : ℕ) (cells : Cells Placed) (refs : List ℕ) → KeepsContents cells (release_some inner n cells refs)
contents_some inner zero cells refs = λ n p is. is
contents_some inner (suc n) cells [] = λ n p is. is
contents_some inner (suc n) cells (c ∷ refs) = λ m p is.
    contents_change lowered c cells lowered_same m p (contents_some inner n (after c cells) (freed inner c cells ++ refs) m p is)

pub holds-release : (inner : Placed → List ℕ) (cells : Cells Placed) (refs : List ℕ) → HoldsOurs cells → HoldsOurs (release inner cells refs)
holds-release inner cells refs holds =
    holds_still cells (release inner cells refs) (keeps-release inner cells refs) (contents_some inner (length refs + weight inner cells) cells refs) holds

pub holds-refill : (f : Content → Content) (cells : Cells Placed) (name : ℕ) → ((x : Content) → AreOurs cells (refs_in x) → AreOurs cells (refs_in (f x))) → HoldsOurs cells → HoldsOurs (refill_held f name cells)
holds-refill f cells name fits holds = λ n p is.
    are_still cells (refill_held f name cells) (refs_in p.holds) (keeps-refill f cells name) (at n p (ap (λ h. content_at h n) (change-refill (in_place f) (number_in cells name) cells) ∙ is))
  where
    old : (n : ℕ) (p : Placed) → content_of (cell_at cells n) ≡ Some p → AreOurs cells (refs_in p.holds)
    old n p is = holds n p (content_at-cell cells n ∙ is)

    new : (o : Option (Cell Placed)) (p : Placed) → ((q : Placed) → content_of o ≡ Some q → AreOurs cells (refs_in q.holds)) → content_of (rewritten (in_place f) o) ≡ Some p → AreOurs cells (refs_in p.holds)
    new None p own is = absurd (cc)
    new (Some cell) p own is = subst (λ q. AreOurs cells (refs_in q.holds)) (same_Some (in_place f cell.content) p is) (fits cell.content.holds (own cell.content refl))

    at : (n : ℕ) (p : Placed) → content_at (change (rewritten (in_place f)) (number_in cells name) cells) n ≡ Some p → AreOurs cells (refs_in p.holds)
    at n p is =
        changed_at (λ o. content_of o ≡ Some p → AreOurs cells (refs_in p.holds)) (rewritten (in_place f)) (number_in cells name) n cells (old n p) (new (cell_at cells n) p (old n)) (sym (content_at-cell (change (rewritten (in_place f)) (number_in cells name) cells) n) ∙ is)

pub holds-make : (p : Placed) (cells : Cells Placed) → AreOurs cells (refs_in p.holds) → HoldsOurs cells → HoldsOurs (make p cells)
holds-make p cells ours holds = λ n q is.
    are_still cells (make p cells) (refs_in q.holds) (keeps-make p cells) (made p cells (λ q. AreOurs cells (refs_in q.holds)) holds ours n q is)
  where
    made : (p : Placed) (h : Cells Placed) (P : Placed → Type 0) → ((n : ℕ) (q : Placed) → content_at h n ≡ Some q → P q) → P p → (n : ℕ) (q : Placed) → content_at (make p h) n ≡ Some q → P q
    made p [] P old new zero q is = subst P (same_Some p q is) new
    made p [] P old new (suc n) q is = absurd (cc)
    made p (o ∷ h) P old new zero q is = old 0 q is
    made p (o ∷ h) P old new (suc n) q is = made p h P (λ m r at. old (suc m) r at) new n q is

-- what a name refers to holds the heap's own names alone
pub held_ours : (cells : Cells Placed) (name : ℕ) (x : Content) → HoldsOurs cells → held_at cells name ≡ Some x → AreOurs cells (refs_in x)
held_ours cells name x holds held =
    let r = refers cells name x held in holds (serial_in name) (record { slot = slot_in name; holds = x }) r.content
