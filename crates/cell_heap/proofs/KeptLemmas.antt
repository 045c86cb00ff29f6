-- Each call keeps the marks of dicts right.
use Rattle.std.proofs.Common.{◌≡◌, refl, sym, ap, subst, ◌∙◌, ℕ, ◌+◌, ◌^◌, ◌<◌, arith, [], length, Option, Some, None, IfSome}
use Rattle.std.specs.Option.{option_map}
use Rattle.std.proofs.lemmas.List.{length-set, length_push}
use Rattle.c_core.specs.Cells as cells
use Rattle.c_core.specs.Cells.{Cells}
use Rattle.c_core.specs.Keys.{key_in}
use Rattle.c_core.specs.Machine as machine
use Rattle.c_core.specs.Machine.{IntCell, StrCell, ListCell, DictCell, TupleCell, InstCell, ExcCell}
use Rattle.slot_arena.specs.declared.key.Key.{Key}
use Rattle.slot_arena.specs.Contents.{Contents, value_at, inserted, with_value}
use Rattle.cell_heap.specs.declared.cells.CountedCell.{CountedCell}
use Rattle.cell_heap.specs.declared.content.Content.{Content}
use Rattle.slot_arena.specs.Serials.{serial_of}
use Rattle.cell_heap.specs.Contents.{content_named}
use Rattle.cell_heap.specs.Held.{cell_of, cells_of, IsNamed}
use Rattle.cell_heap.specs.Placed.{Placed, in_place}
use Rattle.cell_heap.specs.Marks.{marks_of, keys_in, HasMarks, IsKept}
use Rattle.cell_heap.specs.Pairs.{with_pair, without_pair}
use Rattle.cell_heap.specs.Words.{with_word, with_last, without_last}
use Rattle.cell_heap.proofs.CellLemmas.{rewritten}
use Rattle.cell_heap.proofs.HeldLemmas.{cells-made, length-cells}
use Rattle.cell_heap.proofs.MarkLemmas.{Narrows, MakesNoKey, with_slot, marked_written, marked_made, raised_no_key}

-- the cell with a function of its content
pub written : (f : machine.Content → machine.Content) (slot : ℕ) (old new : CountedCell) → new.count ≡ old.count → content_named new.content ≡ f (content_named old.content) → rewritten (in_place f) (Some (cell_of slot old)) ≡ Some (cell_of slot new)
written f slot old new count content =
    ap (λ k. Some (record { count = k; content = record { slot = slot; holds = f (content_named old.content) } })) (sym count)
    ∙ ap (λ x. Some (record { count = new.count; content = record { slot = slot; holds = x } })) (sym content)

-- ---- what is no key of a dict stays none
abbrev pub KeepsKey : (machine.Content → machine.Content) → Type 0
KeepsKey f = (x : machine.Content) → key_in (f x) ≡ key_in x

pub same_key_in : KeepsKey (λ x. x)
same_key_in x = refl

pub with_word-key : (i : ℕ) (o : Option machine.Word) → KeepsKey (with_word i o)
with_word-key i o (IntCell n) = refl
with_word-key i o (StrCell text) = refl
with_word-key i o (ListCell items) = refl
with_word-key i o (DictCell pairs) = refl
with_word-key i o (TupleCell items) = refl
with_word-key i o (InstCell class attributes) = refl
with_word-key i o (ExcCell e) = refl

pub with_last-key : (w : machine.Word) → KeepsKey (with_last w)
with_last-key w (IntCell n) = refl
with_last-key w (StrCell text) = refl
with_last-key w (ListCell items) = refl
with_last-key w (DictCell pairs) = refl
with_last-key w (TupleCell items) = refl
with_last-key w (InstCell class attributes) = refl
with_last-key w (ExcCell e) = refl

pub without_last-key : KeepsKey without_last
without_last-key (IntCell n) = refl
without_last-key (StrCell text) = refl
without_last-key (ListCell items) = refl
without_last-key (DictCell pairs) = refl
without_last-key (TupleCell items) = refl
without_last-key (InstCell class attributes) = refl
without_last-key (ExcCell e) = refl

pub with_pair-key : (p : machine.Word × machine.Word) → KeepsKey (with_pair p)
with_pair-key p (IntCell n) = refl
with_pair-key p (StrCell text) = refl
with_pair-key p (ListCell items) = refl
with_pair-key p (DictCell pairs) = refl
with_pair-key p (TupleCell items) = refl
with_pair-key p (InstCell class attributes) = refl
with_pair-key p (ExcCell e) = refl

pub without_pair-key : (i : ℕ) → KeepsKey (without_pair i)
without_pair-key i (IntCell n) = refl
without_pair-key i (StrCell text) = refl
without_pair-key i (ListCell items) = refl
without_pair-key i (DictCell pairs) = refl
without_pair-key i (TupleCell items) = refl
without_pair-key i (InstCell class attributes) = refl
without_pair-key i (ExcCell e) = refl

rewritten_no_key : (f : machine.Content → machine.Content) → KeepsKey f → MakesNoKey (rewritten (in_place f))
rewritten_no_key f keeps None key is = is
rewritten_no_key f keeps (Some cell) key is = sym (ap (option_map (with_slot cell.content.slot)) (keeps cell.content.holds)) ∙ is

-- ---- the calls
few_written : (a : Contents CountedCell) (key : Key) (new : CountedCell) → IsKept a → length (with_value a key new).entries < 2 ^ 128
few_written a key new kept =
    omega (arith, kept.few, length-set a.entries (serial_of key) (Some (record { slot = key.slot; value = new })))

pub kept_written : (f : machine.Content → machine.Content) (a : Contents CountedCell) (key : Key) (old new : CountedCell) → KeepsKey f → IsNamed key → Some old ≡ value_at a key → new.count ≡ old.count → content_named new.content ≡ f (content_named old.content) → ((after : Cells Placed) → Narrows (cells_of a.entries) after → HasMarks after old.content → HasMarks after new.content) → IsKept a → IsKept (with_value a key new)
kept_written f a key old new keeps named there count content fits kept = record {
  idle = kept.idle;
  few = few_written a key new kept;
  marked =
      marked_written (rewritten (in_place f)) a key old new (rewritten_no_key f keeps) named there (written f key.slot old new count content) fits kept.marked;
}

pub kept_taken : (a : Contents CountedCell) (key : Key) (old : CountedCell) → IsNamed key → Some old ≡ value_at a key → IsKept a → IsKept (with_value a key (record { count = old.count + 1; content = old.content }))
kept_taken a key old named there kept = record {
  idle = kept.idle;
  few = few_written a key (record { count = old.count + 1; content = old.content }) kept;
  marked =
      marked_written cells.raised a key old (record { count = old.count + 1; content = old.content }) raised_no_key named there refl (λ after narrows marked. marked) kept.marked;
}

pub kept_made : (a r b : Contents CountedCell) (key : Key) (x : Content) → length (cells_of a.entries) + 1 < 2 ^ 128 → r ≡ record a { spare = r.spare } → b ≡ inserted r key (record { count = 1; content = x }) → IfSome (marks_of x) (λ marks. (marks ≡ []) × (keys_in x ≡ [])) → IsKept a → IsKept b
kept_made a r b key x few room stored none kept =
    let same : IsKept (record a { spare = r.spare }) = record { idle = kept.idle; few = kept.few; marked = kept.marked } in
    let before : IsKept r = subst IsKept (sym room) same in
    let entries : r.entries ≡ a.entries = ap (λ c. c.entries) room in
    let cell : CountedCell = record { count = 1; content = x } in
    let p : Placed = record { slot = key.slot; holds = content_named x } in
    subst IsKept (sym stored) (record {
      idle = before.idle;
      few =
          omega (arith, few, length-cells a.entries, ap length entries, length_push r.entries (Some (record { slot = key.slot; value = cell })));
      marked = marked_made r key p cell (cells-made r.entries key.slot x) none before.marked;
    })
