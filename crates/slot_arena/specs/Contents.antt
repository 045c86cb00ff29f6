-- What a contract sees of an `Arena`: a map from keys to values, the condemned pairs, and how many inserts may follow.
-- A key names a slot and a serial, which is the number of inserts before its own. The map stands as a list by serial:
-- place n says what became of the value that was inserted after n others.
use Rattle.std.specs.Prelude.{◌≡◌, ℕ, ◌+◌, ◌-◌, ◌<◌, ◌==◌, if◌then◌else◌, List, [], ◌∷◌, ◌++◌, length, Option, Some, None, IsSome, slice_index_or, slice_set}
use Rattle.slot_arena.specs.declared.key.Key.{Key}
use Rattle.slot_arena.specs.Serials.{serial_of, key_with}

-- a value in the map, and the slot in which it lies
pub record Entry (T : Type 0) : Type 0 where
  pub slot : ℕ
  pub value : T

-- what became of each inserted value (nothing: it is no longer in the map), the condemned pairs that were not taken off
-- yet, the last one first, and how many inserts need no memory
pub record Contents (T : Type 0) : Type 0 where
  pub entries : List (Option (Entry T))
  pub condemned : List (Key × T)
  pub spare : ℕ

module _ {T : Type 0} where
  -- how many inserts there were, which is the serial of the next key
  abbrev pub inserts : Contents T → ℕ
  inserts a = length a.entries

  -- the value of an entry, if it lies in this slot
  abbrev pub value_in : ℕ → Option (Entry T) → Option T
  value_in slot None = None
  value_in slot (Some entry) = if entry.slot == slot then Some entry.value else None

  -- the value of a key in the map
  abbrev pub value_at : Contents T → Key → Option T
  value_at a key = value_in key.slot (slice_index_or a.entries (serial_of key) None)

  -- the key is in the map
  abbrev pub ContainsKey : Contents T → Key → Type 0
  ContainsKey a key = IsSome (value_at a key)

  -- every key that was made so far finds what it found: one that was taken out stays out
  abbrev pub KeepsEarlier : Contents T → Contents T → Type 0
  KeepsEarlier old new = (key : Key) → serial_of key < inserts old → value_at new key ≡ value_at old key

  -- nothing stored and no room
  abbrev pub empty : Contents T
  empty = record { entries = []; condemned = []; spare = 0 }

  -- one insert more, of this value under this key
  abbrev pub inserted : Contents T → Key → T → Contents T
  inserted a key value =
      record a {
        entries = a.entries ++ Some (record { slot = key.slot; value = value }) ∷ [];
        spare = a.spare - 1;
      }

  -- the key, which is in the map, has another value
  abbrev pub with_value : Contents T → Key → T → Contents T
  with_value a key value =
      record a { entries = slice_set a.entries (serial_of key) (Some (record { slot = key.slot; value = value })) }

  -- the key is out of the map, and its slot may be used again
  abbrev pub removed : Contents T → Key → Contents T
  removed a key = record a { entries = slice_set a.entries (serial_of key) None; spare = a.spare + 1 }

  -- the key, which has this value, is out of the map and among the condemned
  abbrev pub condemned_with : Contents T → Key → T → Contents T
  condemned_with a key value =
      record a { entries = slice_set a.entries (serial_of key) None; condemned = (key, value) ∷ a.condemned }

  -- only these pairs are still condemned, and the slot of the pair that was taken off may be used again
  abbrev pub taken_off : Contents T → List (Key × T) → Contents T
  taken_off a rest = record a { condemned = rest; spare = a.spare + 1 }

  -- the keys of the map from this serial on, in order of their serials
  abbrev pub keys_from : ℕ → List (Option (Entry T)) → List Key
  keys_from serial [] = []
  keys_from serial (None ∷ rest) = keys_from (serial + 1) rest
  keys_from serial (Some entry ∷ rest) = key_with entry.slot serial ∷ keys_from (serial + 1) rest

  -- the map's keys, by ascending serials
  abbrev pub keys_of : Contents T → List Key
  keys_of a = keys_from 0 a.entries
