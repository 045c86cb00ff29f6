-- Laws of what a contract sees of an arena, for this crate and its callers: what each key finds after a change, and how
-- many inserts there were.
use Rattle.std.proofs.Common.{◌≡◌, ◌≢◌, ℕ, ◌+◌, ◌<◌, eqb, Some, None, refl, sym, ap, ◌∙◌, arith, eq-eqb}
use Rattle.std.proofs.lemmas.Bool.{cond-true}
use Rattle.std.proofs.lemmas.List.{length-set, length_push, get_or_append_left, get_or_push, get_or-set_same, get_or-set_other, get_or_past}
use Rattle.slot_arena.specs.declared.key.Key.{Key}
use Rattle.slot_arena.specs.Serials.{serial_of}
use Rattle.slot_arena.specs.Contents.{Contents, inserts, value_in, value_at, ContainsKey, KeepsEarlier, inserted, with_value, removed, condemned_with}

module _ {T : Type 0} where
  value_in_own : (slot : ℕ) (value : T) → value_in slot (Some (record { slot = slot; value = value })) ≡ Some value
  value_in_own slot value = cond-true (eqb slot slot) (Some value) None (eq-eqb slot slot refl)

  -- a key that is in the map was made
  pub ContainsKey-made : (a : Contents T) (key : Key) → ContainsKey a key → serial_of key < inserts a
  ContainsKey-made a key present = grind (arith, get_or_past)

  pub inserts-inserted : (a : Contents T) (key : Key) (value : T) → inserts (inserted a key value) ≡ inserts a + 1
  inserts-inserted a key value = length_push a.entries _

  pub inserts-with_value : (a : Contents T) (key : Key) (value : T) → inserts (with_value a key value) ≡ inserts a
  inserts-with_value a key value = length-set a.entries (serial_of key) _

  pub inserts-removed : (a : Contents T) (key : Key) → inserts (removed a key) ≡ inserts a
  inserts-removed a key = length-set a.entries (serial_of key) _

  pub inserts-condemned_with : (a : Contents T) (key : Key) (value : T) → inserts (condemned_with a key value) ≡ inserts a
  inserts-condemned_with a key value = length-set a.entries (serial_of key) _

  -- after an insert
  pub value_at-inserted : (a : Contents T) (key : Key) (value : T) → serial_of key ≡ inserts a → value_at (inserted a key value) key ≡ Some value
  value_at-inserted a key value new = ap (value_in key.slot) (get_or_push a.entries _ None (serial_of key) (sym new)) ∙ value_in_own key.slot value

  pub KeepsEarlier-inserted : (a : Contents T) (key : Key) (value : T) → KeepsEarlier a (inserted a key value)
  KeepsEarlier-inserted a key value other made = ap (value_in other.slot) (get_or_append_left a.entries _ None (serial_of other) made)

  -- after a write through `get_mut`
  pub value_at-with_value : (a : Contents T) (key : Key) (value : T) → ContainsKey a key → value_at (with_value a key value) key ≡ Some value
  value_at-with_value a key value present =
      ap (value_in key.slot) (get_or-set_same a.entries (serial_of key) _ None (ContainsKey-made a key present)) ∙ value_in_own key.slot value

  pub value_at-with_value_other : (a : Contents T) (key other : Key) (value : T) → serial_of other ≢ serial_of key → value_at (with_value a key value) other ≡ value_at a other
  value_at-with_value_other a key other value differs = ap (value_in other.slot) (get_or-set_other a.entries (serial_of key) (serial_of other) _ None differs)

  -- after a removal, and after a condemnation
  pub value_at-removed : (a : Contents T) (key : Key) → ContainsKey a key → value_at (removed a key) key ≡ None
  value_at-removed a key present = ap (value_in key.slot) (get_or-set_same a.entries (serial_of key) None None (ContainsKey-made a key present))

  pub value_at-removed_other : (a : Contents T) (key other : Key) → serial_of other ≢ serial_of key → value_at (removed a key) other ≡ value_at a other
  value_at-removed_other a key other differs = ap (value_in other.slot) (get_or-set_other a.entries (serial_of key) (serial_of other) None None differs)

  pub value_at-condemned_with : (a : Contents T) (key : Key) (value : T) → ContainsKey a key → value_at (condemned_with a key value) key ≡ None
  value_at-condemned_with a key value present = value_at-removed a key present

  pub value_at-condemned_with_other : (a : Contents T) (key other : Key) (value : T) → serial_of other ≢ serial_of key → value_at (condemned_with a key value) other ≡ value_at a other
  value_at-condemned_with_other a key other value differs = value_at-removed_other a key other differs
