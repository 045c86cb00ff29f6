-- Cells in an arena are those of a heap: what a key finds, and what a change of one entry and one entry more make.
use Rattle.std.proofs.Common.{◌≡◌, refl, sym, ap, ◌∙◌, ℕ, zero, suc, ◌+◌, ◌*◌, ◌%◌, ◌^◌, ◌<◌, ◌≤◌, arith, Bool, true, false, cond, eqb, eqb-true, List, [], ◌∷◌, ◌++◌, length, get_or, set, Option, Some, None}
use Rattle.std.specs.Prelude.{map, is_some, Result, Ok, Err, IfOk}
use Rattle.std.specs.Option.{option_map}
use Rattle.std.proofs.lemmas.Option.{cond_some}
use Rattle.std.proofs.lemmas.List.{map-append, length-map}
use Rattle.c_core.specs.Cells.{Cell, Cells, change, counted, count_at, content_of, content_at, make}
use Rattle.slot_arena.specs.declared.key.Key.{Key}
use Rattle.slot_arena.specs.Serials.{serial_of, key_with}
use Rattle.slot_arena.specs.Contents as arena
use Rattle.slot_arena.specs.Contents.{Entry, Contents, value_in, value_at}
use Rattle.slot_arena.proofs.KeyLemmas.{serial_of-key_with}
use Rattle.cell_heap.specs.declared.cells.CountedCell.{CountedCell}
use Rattle.cell_heap.specs.declared.content.Content.{Content}
use Rattle.cell_heap.specs.Contents.{name_of, number_of, slot_in, serial_in, content_named}
use Rattle.cell_heap.specs.Held.{cell_at, cell_of, cell_in, cells_of, IsNamed}
use Rattle.cell_heap.specs.Numbers.{keys_from, numbers_from}
use Rattle.cell_heap.specs.Placed.{Placed, lies_in, number_in, held_at}
use Rattle.cell_heap.proofs.CellLemmas.{content_at-cell, count_at-cell, past}
use Rattle.cell_heap.proofs.OursLemmas.{number_gone, number_there}

abbrev pub Entries : Type 0
Entries = List (Option (Entry CountedCell))

-- ---- what a key finds
pub cell_at-cells : (entries : Entries) (n : ℕ) → cell_at (cells_of entries) n ≡ cell_in (get_or entries n None)
cell_at-cells [] n = refl
cell_at-cells (o ∷ entries) zero = refl
cell_at-cells (o ∷ entries) (suc n) = cell_at-cells entries n

pub content_at-cells : (entries : Entries) (n : ℕ) → content_at (cells_of entries) n ≡ content_of (cell_in (get_or entries n None))
content_at-cells entries n = content_at-cell (cells_of entries) n ∙ ap content_of (cell_at-cells entries n)

-- the entry of a key that finds a value
pub own : (slot : ℕ) (o : Option (Entry CountedCell)) (value : CountedCell) → Some value ≡ value_in slot o → o ≡ Some (record { slot = slot; value = value })
own slot None value is = absurd (cc)
own slot (Some entry) value is =
    let parts = cond_some (eqb entry.slot slot) entry.value value (sym is) in
    let here = eqb-true entry.slot slot parts.0 in
    ap (λ k. Some (record { slot = k; value = entry.value })) here ∙ ap (λ v. Some (record { slot = slot; value = v })) parts.1

pub own_cell : (a : Contents CountedCell) (key : Key) (value : CountedCell) → Some value ≡ value_at a key → cell_at (cells_of a.entries) (serial_of key) ≡ Some (cell_of key.slot value)
own_cell a key value is =
    cell_at-cells a.entries (serial_of key) ∙ ap cell_in (own key.slot (get_or a.entries (serial_of key) None) value is)

pub own_number : (a : Contents CountedCell) (key : Key) (value : CountedCell) → IsNamed key → Some value ≡ value_at a key → number_in (cells_of a.entries) (name_of key) ≡ serial_of key
own_number a key value named is =
    let cells = cells_of a.entries in
    let p : Placed = record { slot = key.slot; holds = content_named value.content } in
    let there : content_at cells (serial_in (name_of key)) ≡ Some p =
    ap (content_at cells) named.serial ∙ content_at-cell cells (serial_of key) ∙ ap content_of (own_cell a key value is) in
    number_there cells (name_of key) p there (sym named.slot) ∙ named.serial

pub cell_found : (a : Contents CountedCell) (key : Key) (value : CountedCell) → IsNamed key → Some value ≡ value_at a key → cell_at (cells_of a.entries) (number_in (cells_of a.entries) (name_of key)) ≡ Some (cell_of key.slot value)
cell_found a key value named is = ap (cell_at (cells_of a.entries)) (own_number a key value named is) ∙ own_cell a key value is

-- a key that finds none names nothing
pub cell_lost : (a : Contents CountedCell) (key : Key) → IsNamed key → None ≡ value_at a key → cell_at (cells_of a.entries) (number_in (cells_of a.entries) (name_of key)) ≡ None
cell_lost a key named is =
    ap (cell_at cells) (of_entry (get_or a.entries (serial_of key) None) refl is) ∙ past cells (length cells) (omega arith)
  where
    cells : Cells Placed
    cells = cells_of a.entries

    at : (o : Option (Entry CountedCell)) → get_or a.entries (serial_of key) None ≡ o → content_at (cells_of a.entries) (serial_in (name_of key)) ≡ content_of (cell_in o)
    at o e = ap (content_at (cells_of a.entries)) named.serial ∙ content_at-cells a.entries (serial_of key) ∙ ap (λ q. content_of (cell_in q)) e

    by_slot : (entry : Entry CountedCell) (b : Bool) → get_or a.entries (serial_of key) None ≡ Some entry → eqb entry.slot key.slot ≡ b → None ≡ cond (eqb entry.slot key.slot) (Some entry.value) None → number_in (cells_of a.entries) (name_of key) ≡ length (cells_of a.entries)
    by_slot entry true e same none = absurd (let found = none ∙ ap (λ b. cond b (Some entry.value) None) same in cc)
    by_slot entry false e other none =
        ap (λ o. cond (lies_in (slot_in (name_of key)) o) (serial_in (name_of key)) (length (cells_of a.entries))) (at (Some entry) e)
        ∙ ap (λ s. cond (eqb entry.slot s) (serial_in (name_of key)) (length (cells_of a.entries))) named.slot
        ∙ ap (λ b. cond b (serial_in (name_of key)) (length (cells_of a.entries))) other

    of_entry : (o : Option (Entry CountedCell)) → get_or a.entries (serial_of key) None ≡ o → None ≡ value_in key.slot o → number_in (cells_of a.entries) (name_of key) ≡ length (cells_of a.entries)
    of_entry None e none = number_gone (cells_of a.entries) (name_of key) (at None e)
    of_entry (Some entry) e none = by_slot entry (eqb entry.slot key.slot) e refl none

-- what the heap's map has there
holding : {o : Option (Cell Placed)} (cells : Cells Placed) (name : ℕ) → cell_at cells (number_in cells name) ≡ o → held_at cells name ≡ option_map (λ (p : Placed). p.holds) (content_of o)
holding cells name is =
    ap (option_map (λ p. p.holds)) (content_at-cell cells (number_in cells name) ∙ ap content_of is)

pub held_found : (a : Contents CountedCell) (key : Key) (value : CountedCell) → IsNamed key → Some value ≡ value_at a key → held_at (cells_of a.entries) (name_of key) ≡ Some (content_named value.content)
held_found a key value named is = holding (cells_of a.entries) (name_of key) (cell_found a key value named is)

pub held_lost : (a : Contents CountedCell) (key : Key) → IsNamed key → None ≡ value_at a key → held_at (cells_of a.entries) (name_of key) ≡ None
held_lost a key named is = holding (cells_of a.entries) (name_of key) (cell_lost a key named is)

pub count_found : (a : Contents CountedCell) (key : Key) (value : CountedCell) → IsNamed key → Some value ≡ value_at a key → count_at (cells_of a.entries) (number_in (cells_of a.entries) (name_of key)) ≡ value.count
count_found a key value named is =
    count_at-cell (cells_of a.entries) (number_in (cells_of a.entries) (name_of key)) ∙ ap counted (cell_found a key value named is)

-- a test for a value is one for what it holds
pub is_held : {B : Type 0} (f : B → CountedCell) (a : Contents CountedCell) (key : Key) (o : Option B) → IsNamed key → option_map f o ≡ value_at a key → is_some o ≡ is_some (held_at (cells_of a.entries) (name_of key))
is_held f a key None named is = sym (ap is_some (held_lost a key named is))
is_held f a key (Some b) named is = sym (ap is_some (held_found a key (f b) named is))

-- ---- one entry changes, or there is one more
cells-set : (by : Option (Cell Placed) → Option (Cell Placed)) (entries : Entries) (n : ℕ) (o : Option (Entry CountedCell)) → by (cell_at (cells_of entries) n) ≡ cell_in o → cells_of (set entries n o) ≡ change by n (cells_of entries)
cells-set by [] n o is = refl
cells-set by (first ∷ entries) zero o is = ap (λ c. c ∷ cells_of entries) (sym is)
cells-set by (first ∷ entries) (suc n) o is = ap (λ cs. cell_in first ∷ cs) (cells-set by entries n o is)

-- the entry of a key
pub cells-written : (by : Option (Cell Placed) → Option (Cell Placed)) (a : Contents CountedCell) (key : Key) (value : CountedCell) (o : Option (Entry CountedCell)) → IsNamed key → Some value ≡ value_at a key → by (Some (cell_of key.slot value)) ≡ cell_in o → cells_of (set a.entries (serial_of key) o) ≡ change by (number_in (cells_of a.entries) (name_of key)) (cells_of a.entries)
cells-written by a key value o named is written =
    cells-set by a.entries (serial_of key) o (ap by (own_cell a key value is) ∙ written)
    ∙ ap (λ n. change by n (cells_of a.entries)) (sym (own_number a key value named is))

pub cells-made : (entries : Entries) (slot : ℕ) (content : Content) → cells_of (entries ++ Some (record { slot = slot; value = record { count = 1; content = content } }) ∷ []) ≡ make (record { slot = slot; holds = content_named content }) (cells_of entries)
cells-made entries slot content =
    map-append cell_in entries (Some (record { slot = slot; value = record { count = 1; content = content } }) ∷ [])

pub length-cells : (entries : Entries) → length (cells_of entries) ≡ length entries
length-cells entries = length-map entries cell_in

-- ---- the arena's keys are those of the cells
pub keys-cells : (n : ℕ) (entries : Entries) → arena.keys_from n entries ≡ keys_from n (cells_of entries)
keys-cells n [] = refl
keys-cells n (None ∷ entries) = keys-cells (n + 1) entries
keys-cells n (Some entry ∷ entries) = ap (λ ks. key_with entry.slot n ∷ ks) (keys-cells (n + 1) entries)

number_with : (slot n : ℕ) → n < 2 ^ 128 → number_of (key_with slot n) ≡ n
number_with slot n small = ap (λ m. (slot * 2 ^ 128 + m) % 2 ^ 128) (serial_of-key_with slot n) ∙ rest
  where
    rest : (slot * 2 ^ 128 + n) % 2 ^ 128 ≡ n
    rest = omega (arith, small)

pub numbers-cells : (n : ℕ) (entries : Entries) → n + length entries ≤ 2 ^ 128 → map number_of (arena.keys_from n entries) ≡ numbers_from n (cells_of entries)
numbers-cells n [] few = refl
numbers-cells n (None ∷ entries) few = numbers-cells (n + 1) entries (omega (arith, few))
numbers-cells n (Some entry ∷ entries) few =
    ap (λ m. m ∷ map number_of (arena.keys_from (n + 1) entries)) (number_with entry.slot n (omega (arith, few)))
    ∙ ap (λ ns. n ∷ ns) (numbers-cells (n + 1) entries (omega (arith, few)))

-- a consequence of what was answered
pub if_ok : {T E : Type 0} {P Q : T → Type 0} (r : Result T E) → ((x : T) → P x → Q x) → IfOk r P → IfOk r Q
if_ok (Ok x) f p = f x p
if_ok (Err e) f p = tt
