-- How an arena lies in its slots. No public clause cites this module.
use Rattle.std.specs.Prelude.{◌≡◌, ℕ, zero, suc, ◌+◌, ◌-◌, ◌^◌, ◌<◌, ◌≤◌, List, [], ◌∷◌, map, length, Option, Some, None, is_some, count_by, option_and_then, slice_get}
use Rattle.std.specs.List.{range_with_len}
use Rattle.slot_arena.specs.declared.key.Key.{Key}
use Rattle.slot_arena.specs.declared.slot.Slot.{Slot}
use Rattle.slot_arena.specs.Serials.{key_with}
use Rattle.slot_arena.specs.Contents.{Entry, Contents}
use Rattle.slot_arena.specs.Slot.{live_serial, value_under, condemned_part, free_link, condemned_link}

module _ {T : Type 0} where
  -- the value that a place has in the map under a serial
  abbrev pub value_here : List (Slot T) → ℕ → ℕ → Option T
  value_here slots place serial = option_and_then (value_under serial) (slice_get slots place)

  -- the value of this place, or else what the later places have
  abbrev pub entry_or : ℕ → Option T → Option (Entry T) → Option (Entry T)
  entry_or place None later = later
  entry_or place (Some value) later = Some (record { slot = place; value = value })

  -- what the slots, the first of which is at this place, have in the map under a serial
  abbrev pub entry_from : ℕ → List (Slot T) → ℕ → Option (Entry T)
  entry_from place [] serial = None
  entry_from place (slot ∷ rest) serial = entry_or place (value_under serial slot) (entry_from (place + 1) rest serial)

  -- what became of each of the first `count` inserted values
  abbrev pub entries_of : List (Slot T) → ℕ → List (Option (Entry T))
  entries_of slots count = map (entry_from 0 slots) (range_with_len 0 count)

  -- the link of the slot at a place, if there is one
  abbrev pub link_at : (Slot T → Option (Option ℕ)) → List (Slot T) → ℕ → Option (Option ℕ)
  link_at link slots place = option_and_then link (slice_get slots place)

  -- from this place on, so many slots each name the next, and the last names none
  abbrev pub IsChain : (Slot T → Option (Option ℕ)) → List (Slot T) → ℕ → Option ℕ → Type 0
  IsChain link slots zero head = head ≡ None
  IsChain link slots (suc count) head =
      (place : ℕ) × (next : Option ℕ) × (head ≡ Some place) × (link_at link slots place ≡ Some next)
      × IsChain link slots count next

  -- how many slots have such a link
  abbrev pub link_count : (Slot T → Option (Option ℕ)) → List (Slot T) → ℕ
  link_count link slots = count_by (λ slot. is_some (link slot)) slots

  -- the pair of a condemned slot at this place, and then the others
  abbrev pub pair_then : ℕ → Option (ℕ × T × Option ℕ) → (Option ℕ → List (Key × T)) → List (Key × T)
  pair_then place None others = []
  pair_then place (Some part) others = (key_with place part.0, part.1) ∷ others part.2

  -- the pairs of so many condemned slots, from this place on
  abbrev pub condemned_from : List (Slot T) → ℕ → Option ℕ → List (Key × T)
  condemned_from slots zero head = []
  condemned_from slots (suc count) None = []
  condemned_from slots (suc count) (Some place) =
      pair_then place (option_and_then condemned_part (slice_get slots place)) (λ next. condemned_from slots count next)

  -- what a contract sees of an arena with these fields
  abbrev pub contents_of : List (Slot T) → ℕ → ℕ → Option ℕ → ℕ → Contents T
  contents_of slots capacity freed condemned count =
      record {
        entries = entries_of slots count;
        condemned = condemned_from slots (link_count condemned_link slots) condemned;
        spare = freed + (capacity - length slots);
      }

  -- the serial that a place has in the map
  abbrev pub serial_here : List (Slot T) → ℕ → Option ℕ
  serial_here slots place = option_and_then live_serial (slice_get slots place)

  -- no two places have the same serial in the map
  abbrev pub IsApart : List (Slot T) → Type 0
  IsApart slots =
      (place other serial : ℕ) (value another : T) → value_here slots place serial ≡ Some value
      → value_here slots other serial ≡ Some another → place ≡ other

  -- every serial in the map is below the number of inserts
  abbrev pub IsNumbered : List (Slot T) → ℕ → Type 0
  IsNumbered slots count = (place serial : ℕ) (value : T) → value_here slots place serial ≡ Some value → serial < count

  -- the fields of an arena fit together: every free slot and every condemned slot is on its chain, and no two
  -- places hold the same serial
  pub record IsSound (slots : List (Slot T)) (capacity : ℕ) (free : Option ℕ) (freed : ℕ) (condemned : Option ℕ) (count : ℕ) : Type 0 where
    pub room : length slots ≤ capacity
    pub fits : capacity < 2 ^ 64
    pub freed_counted : freed ≡ link_count free_link slots
    pub freed_linked : IsChain free_link slots freed free
    pub condemned_linked : IsChain condemned_link slots (link_count condemned_link slots) condemned
    pub numbered : IsNumbered slots count
    pub apart : IsApart slots
