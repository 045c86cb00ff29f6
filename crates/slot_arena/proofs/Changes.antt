-- What each change of the slots makes of what a contract sees.
use Rattle.std.proofs.Common.{◌≡◌, ◌≢◌, ℕ, zero, suc, ◌+◌, ◌-◌, ◌^◌, ◌<◌, List, [], ◌∷◌, ◌++◌, length, set, Option, Some, None, IsSome, slice_get, option_and_then, refl, sym, ap, subst, ◌∙◌, inl, inr, arith}
use Rattle.std.proofs.lemmas.Bool.{cases_eq, false≢true}
use Rattle.std.proofs.lemmas.Option.{slice_get_within, slice_get_past}
use Rattle.std.proofs.lemmas.List.{length-set, length_push}
use Rattle.slot_arena.specs.declared.key.Key.{Key}
use Rattle.slot_arena.specs.declared.slot.Slot.{Slot}
use Rattle.slot_arena.specs.declared.slot.Slot.TheVariants.{Free, Full}
use Rattle.slot_arena.specs.declared.slot.Standing.{Standing}
use Rattle.slot_arena.specs.declared.slot.Standing.TheVariants.{Live, Condemned}
use Rattle.slot_arena.specs.Serials.{serial_of, key_with}
use Rattle.slot_arena.specs.Contents.{Entry, Contents, value_at, ContainsKey, with_value, inserted, removed, condemned_with, taken_off}
use Rattle.slot_arena.specs.Slot.{value_under, free_link, condemned_link}
use Rattle.slot_arena.specs.Layout.{value_here, entry_from, link_count, condemned_from, contents_of, IsChain, IsApart, IsSound}
use Rattle.slot_arena.proofs.KeyLemmas.{key_with-serial_of}
use Rattle.slot_arena.proofs.Chains.{no_link_is_off, head_is_off, popped, link_count-set, link_count-push, link_count-lt-length}
use Rattle.slot_arena.proofs.Condemned.{condemned_from-head, condemned_from-set, condemned_from-push}
use Rattle.slot_arena.proofs.Entries.{value_under_own, value_under_live, value_here-set_same, value_here-set_other, value_here-push_same, value_here-push_other, entry_found, entry_gone, entry_same, value_in-entries_of, entries_of-changed, entries_of-same, entries_of-more}
use Rattle.slot_arena.proofs.Lists.{slice_get-set_same}
use Rattle.slot_arena.proofs.Sound.{IsSound-push, IsSound-fill, IsSound-rewrite, IsSound-vacate, IsSound-condemn, IsSound-take}

module _ {T : Type 0} where
  same_contents : (entries entries' : List (Option (Entry T))) (condemned condemned' : List (Key × T)) (spare spare' : ℕ) → entries ≡ entries' → condemned ≡ condemned' → spare ≡ spare' → ◌≡◌ {A = Contents T} (record { entries = entries; condemned = condemned; spare = spare }) (record { entries = entries'; condemned = condemned'; spare = spare' })
  same_contents entries entries' condemned condemned' spare spare' e c s = λ i. record { entries = e i; condemned = c i; spare = s i }

  -- a slot that has a value in the map under a serial
  live_there : (slot : Option (Slot T)) (serial : ℕ) (value : T) → option_and_then (value_under serial) slot ≡ Some value → slot ≡ Some (Full Live serial value)
  live_there None serial value found = absurd (cc)
  live_there (Some (Free next)) serial value found = absurd (cc)
  live_there (Some (Full Live own held)) serial value found =
      let parts = value_under_live serial own held value found in
      ap (λ k. Some (Full Live k held)) parts.0 ∙ ap (λ v. Some (Full Live serial v)) parts.1
  live_there (Some (Full (Condemned next) own held)) serial value found = absurd (cc)

  pub live_at : (slots : List (Slot T)) (place serial : ℕ) (value : T) → value_here slots place serial ≡ Some value → slice_get slots place ≡ Some (Full Live serial value)
  live_at slots place serial value found = live_there (slice_get slots place) serial value found

  pub value_here-live : (slots : List (Slot T)) (at serial : ℕ) (value : T) → slice_get slots at ≡ Some (Full Live serial value) → value_here slots at serial ≡ Some value
  value_here-live slots at serial value found = ap (option_and_then (value_under serial)) found ∙ value_under_own serial value

  -- a live slot has nothing under another serial
  under_other : (other serial : ℕ) (value : T) → other ≢ serial → value_under other (Full Live serial value) ≡ None
  under_other other serial value differs = by_found (value_under other (Full Live serial value)) refl
    where
      by_found : (found : Option T) → value_under other (Full Live serial value) ≡ found → value_under other (Full Live serial value) ≡ None
      by_found None is = is
      by_found (Some held) is = absurd (differs (sym (value_under_live other serial value held is).0))

  -- a write of one place, where the old and the new slot have nothing under the serial
  entry_kept : (slots : List (Slot T)) (at : ℕ) (old new : Slot T) (serial : ℕ) → slice_get slots at ≡ Some old → IsApart (set slots at new) → value_under serial old ≡ None → value_under serial new ≡ None → entry_from 0 (set slots at new) serial ≡ entry_from 0 slots serial
  entry_kept slots at old new serial found apart before after =
      entry_same slots (set slots at new) serial apart
      (λ place.
      elim (cases_eq place at) [
        | inl same ↦
            ap (λ p. value_here (set slots at new) p serial) same
            ∙ value_here-set_same slots at new serial (slice_get_within slots at old found) ∙ after ∙ sym before
            ∙ sym (ap (option_and_then (value_under serial)) found) ∙ ap (λ p. value_here slots p serial) (sym same)
        | inr other ↦ value_here-set_other slots at place new serial other
      ])

  -- the value that had this serial is gone
  entry_left : (slots : List (Slot T)) (at : ℕ) (new : Slot T) (serial : ℕ) (old : T) → slice_get slots at ≡ Some (Full Live serial old) → IsApart slots → value_under serial new ≡ None → entry_from 0 (set slots at new) serial ≡ None
  entry_left slots at new serial old found apart after =
      entry_gone (set slots at new) serial
      (λ place value lies.
      elim (cases_eq place at) [
        | inl same ↦
            let here = subst (λ p. value_here (set slots at new) p serial ≡ Some value) same lies in
            let written = value_here-set_same slots at new serial (slice_get_within slots at _ found) in
            absurd (cc)
        | inr other ↦ other (apart place at serial value old (sym (value_here-set_other slots at place new serial other) ∙ lies) (value_here-live slots at serial old found))
      ])

  -- what a key finds in the map
  pub value_at-contents_of : (slots : List (Slot T)) (capacity : ℕ) (free : Option ℕ) (freed : ℕ) (condemned : Option ℕ) (count : ℕ) (key : Key) → IsSound slots capacity free freed condemned count → value_at (contents_of slots capacity freed condemned count) key ≡ value_here slots key.slot (serial_of key)
  value_at-contents_of slots capacity free freed condemned count key sound =
      value_in-entries_of slots count key.slot (serial_of key) sound.apart sound.numbered

  -- a slot is used for the first time
  pub contents_of-push : (slots : List (Slot T)) (capacity : ℕ) (free : Option ℕ) (freed : ℕ) (condemned : Option ℕ) (count : ℕ) (value : T) → length slots < capacity → IsSound slots capacity free freed condemned count → contents_of (slots ++ Full Live count value ∷ []) capacity freed condemned (count + 1) ≡ inserted (contents_of slots capacity freed condemned count) (key_with (length slots) count) value
  contents_of-push slots capacity free freed condemned count value room sound =
      let new = Full Live count value in
      let after = IsSound-push slots capacity free freed condemned count value room sound in
      let condemns = link_count-push condemned_link slots new in
      let same : link_count condemned_link (slots ++ new ∷ []) ≡ link_count condemned_link slots = omega arith in
      same_contents _ _ _ _ _ _
      (entries_of-more slots (slots ++ new ∷ []) count (Some (record { slot = length slots; value = value }))
      (entry_found (slots ++ new ∷ []) (length slots) count value after.apart (value_here-push_same slots new count ∙ value_under_own count value))
      (λ other differs. entry_same slots (slots ++ new ∷ []) other after.apart
      (λ place. elim (cases_eq place (length slots)) [
        | inl end ↦
            ap (λ p. value_here (slots ++ new ∷ []) p other) end
            ∙ value_here-push_same slots new other ∙ under_other other count value differs
            ∙ sym (ap (option_and_then (value_under other)) (slice_get_past slots place (omega arith)))
        | inr inner ↦ value_here-push_other slots new place other inner
      ])))
      (ap (λ n. condemned_from (slots ++ new ∷ []) n condemned) same ∙ condemned_from-push slots new _ condemned sound.condemned_linked)
      (omega (arith, length_push slots new))

  -- the first free slot is used again
  pub contents_of-fill : (slots : List (Slot T)) (capacity at : ℕ) (next : Option ℕ) (freed : ℕ) (condemned : Option ℕ) (count : ℕ) (value : T) → slice_get slots at ≡ Some (Free next) → IsSound slots capacity (Some at) freed condemned count → contents_of (set slots at (Full Live count value)) capacity (freed - 1) condemned (count + 1) ≡ inserted (contents_of slots capacity freed condemned count) (key_with at count) value
  contents_of-fill slots capacity at next freed condemned count value found sound =
      let new = Full Live count value in
      let within = slice_get_within slots at (Free next) found in
      let after = IsSound-fill slots capacity at next freed condemned count value found sound in
      let condemns = link_count-set condemned_link slots at (Free next) new found in
      let same : link_count condemned_link (set slots at new) ≡ link_count condemned_link slots = omega arith in
      same_contents _ _ _ _ _ _
      (entries_of-more slots (set slots at new) count (Some (record { slot = at; value = value }))
      (entry_found (set slots at new) at count value after.apart (value_here-set_same slots at new count within ∙ value_under_own count value))
      (λ other differs. entry_kept slots at (Free next) new other found after.apart refl (under_other other count value differs)))
      (ap (λ n. condemned_from (set slots at new) n condemned) same
      ∙ condemned_from-set slots at new _ condemned (λ m _. no_link_is_off condemned_link slots at (ap (option_and_then condemned_link) found) m) sound.condemned_linked)
      (spare freed sound.freed_linked)
    where
      spare : (n : ℕ) → IsChain free_link slots n (Some at) → n - 1 + (capacity - length (set slots at (Full Live count value))) ≡ n + (capacity - length slots) - 1
      spare zero p = absurd (cc)
      spare (suc n) p = omega (arith, length-set slots at (Full Live count value))

  -- a value in the map becomes another
  pub contents_of-rewrite : (slots : List (Slot T)) (capacity : ℕ) (free : Option ℕ) (freed : ℕ) (condemned : Option ℕ) (count : ℕ) (key : Key) (old value : T) → slice_get slots key.slot ≡ Some (Full Live (serial_of key) old) → IsSound slots capacity free freed condemned count → contents_of (set slots key.slot (Full Live (serial_of key) value)) capacity freed condemned count ≡ with_value (contents_of slots capacity freed condemned count) key value
  contents_of-rewrite slots capacity free freed condemned count key old value found sound =
      let at = key.slot in
      let serial = serial_of key in
      let before = Full Live serial old in
      let new = Full Live serial value in
      let within = slice_get_within slots at before found in
      let after = IsSound-rewrite slots capacity free freed condemned count at serial old value found sound in
      let condemns = link_count-set condemned_link slots at before new found in
      let same : link_count condemned_link (set slots at new) ≡ link_count condemned_link slots = omega arith in
      same_contents _ _ _ _ _ _
      (entries_of-changed slots (set slots at new) count serial (Some (record { slot = at; value = value }))
      (sound.numbered at serial old (value_here-live slots at serial old found))
      (entry_found (set slots at new) at serial value after.apart (value_here-set_same slots at new serial within ∙ value_under_own serial value))
      (λ other differs. entry_kept slots at before new other found after.apart (under_other other serial old differs) (under_other other serial value differs)))
      (ap (λ n. condemned_from (set slots at new) n condemned) same
      ∙ condemned_from-set slots at new _ condemned (λ m _. no_link_is_off condemned_link slots at (ap (option_and_then condemned_link) found) m) sound.condemned_linked)
      (omega (arith, length-set slots at new))

  -- a value leaves the map, and its slot is free
  pub contents_of-vacate : (slots : List (Slot T)) (capacity : ℕ) (free : Option ℕ) (freed : ℕ) (condemned : Option ℕ) (count : ℕ) (key : Key) (old : T) → slice_get slots key.slot ≡ Some (Full Live (serial_of key) old) → IsSound slots capacity free freed condemned count → contents_of (set slots key.slot (Free free)) capacity (freed + 1) condemned count ≡ removed (contents_of slots capacity freed condemned count) key
  contents_of-vacate slots capacity free freed condemned count key old found sound =
      let at = key.slot in
      let serial = serial_of key in
      let before = Full Live serial old in
      let new = Free free in
      let after = IsSound-vacate slots capacity free freed condemned count at serial old found sound in
      let condemns = link_count-set condemned_link slots at before new found in
      let same : link_count condemned_link (set slots at new) ≡ link_count condemned_link slots = omega arith in
      same_contents _ _ _ _ _ _
      (entries_of-changed slots (set slots at new) count serial None
      (sound.numbered at serial old (value_here-live slots at serial old found))
      (entry_left slots at new serial old found sound.apart refl)
      (λ other differs. entry_kept slots at before new other found after.apart (under_other other serial old differs) refl))
      (ap (λ n. condemned_from (set slots at new) n condemned) same
      ∙ condemned_from-set slots at new _ condemned (λ m _. no_link_is_off condemned_link slots at (ap (option_and_then condemned_link) found) m) sound.condemned_linked)
      (omega (arith, length-set slots at new))

  -- a value leaves the map, and its slot is condemned
  pub contents_of-condemn : (slots : List (Slot T)) (capacity : ℕ) (free : Option ℕ) (freed : ℕ) (condemned : Option ℕ) (count : ℕ) (key : Key) (old : T) → key.serial.low < 2 ^ 64 → slice_get slots key.slot ≡ Some (Full Live (serial_of key) old) → IsSound slots capacity free freed condemned count → contents_of (set slots key.slot (Full (Condemned condemned) (serial_of key) old)) capacity freed (Some key.slot) count ≡ condemned_with (contents_of slots capacity freed condemned count) key old
  contents_of-condemn slots capacity free freed condemned count key old small found sound =
      let at = key.slot in
      let serial = serial_of key in
      let before = Full Live serial old in
      let new = Full (Condemned condemned) serial old in
      let within = slice_get_within slots at before found in
      let after = IsSound-condemn slots capacity free freed condemned count at serial old found sound in
      let condemns = link_count-set condemned_link slots at before new found in
      let more : link_count condemned_link (set slots at new) ≡ suc (link_count condemned_link slots) = omega arith in
      same_contents _ _ _ _ _ _
      (entries_of-changed slots (set slots at new) count serial None
      (sound.numbered at serial old (value_here-live slots at serial old found))
      (entry_left slots at new serial old found sound.apart refl)
      (λ other differs. entry_kept slots at before new other found after.apart (under_other other serial old differs) refl))
      (ap (λ n. condemned_from (set slots at new) n (Some at)) more
      ∙ condemned_from-head (set slots at new) _ at serial old condemned (slice_get-set_same slots at new within)
      ∙ ap (λ k. (k, old) ∷ condemned_from (set slots at new) (link_count condemned_link slots) condemned) (key_with-serial_of key small)
      ∙ ap (λ pairs. (key, old) ∷ pairs) (condemned_from-set slots at new _ condemned (λ m _. no_link_is_off condemned_link slots at (ap (option_and_then condemned_link) found) m) sound.condemned_linked))
      (omega (arith, length-set slots at new))

  -- the first condemned slot is taken off, and is free
  pub condemned_from-take : (slots : List (Slot T)) (capacity : ℕ) (free : Option ℕ) (freed count at serial : ℕ) (old : T) (next : Option ℕ) → slice_get slots at ≡ Some (Full (Condemned next) serial old) → IsSound slots capacity free freed (Some at) count → condemned_from slots (link_count condemned_link slots) (Some at) ≡ (key_with at serial, old) ∷ condemned_from (set slots at (Free free)) (link_count condemned_link (set slots at (Free free))) next
  condemned_from-take slots capacity free freed count at serial old next found sound =
      let new = Free free in
      let condemns = link_count-set condemned_link slots at (Full (Condemned next) serial old) new found in
      let fewer : link_count condemned_link slots ≡ suc (link_count condemned_link (set slots at new)) = omega arith in
      let links = ap (option_and_then condemned_link) found in
      let whole = subst (λ n. IsChain condemned_link slots n (Some at)) fewer sound.condemned_linked in
      ap (λ n. condemned_from slots n (Some at)) fewer
      ∙ condemned_from-head slots _ at serial old next found
      ∙ ap (λ pairs. (key_with at serial, old) ∷ pairs)
      (sym (condemned_from-set slots at new _ next (head_is_off condemned_link slots _ at whole) (popped condemned_link slots _ at next links whole)))

  pub contents_of-take : (slots : List (Slot T)) (capacity : ℕ) (free : Option ℕ) (freed count at serial : ℕ) (old : T) (next : Option ℕ) → slice_get slots at ≡ Some (Full (Condemned next) serial old) → IsSound slots capacity free freed (Some at) count → contents_of (set slots at (Free free)) capacity (freed + 1) next count ≡ taken_off (contents_of slots capacity freed (Some at) count) (condemned_from (set slots at (Free free)) (link_count condemned_link (set slots at (Free free))) next)
  contents_of-take slots capacity free freed count at serial old next found sound =
      let new = Free free in
      let after = IsSound-take slots capacity free freed count at serial old next found sound in
      same_contents _ _ _ _ _ _
      (entries_of-same slots (set slots at new) count (λ other. entry_kept slots at (Full (Condemned next) serial old) new other found after.apart refl refl))
      refl
      (omega (arith, length-set slots at new))

  -- a slot that holds a value leaves one free slot fewer than there are slots
  pub freed_below : (slots : List (Slot T)) (capacity : ℕ) (free : Option ℕ) (freed : ℕ) (condemned : Option ℕ) (count at : ℕ) (standing : Standing) (serial : ℕ) (value : T) → slice_get slots at ≡ Some (Full standing serial value) → IsSound slots capacity free freed condemned count → freed + 1 < 2 ^ 64
  freed_below slots capacity free freed condemned count at standing serial value found sound =
      let counted = sound.freed_counted in
      let room = sound.room in
      let fits = sound.fits in
      omega (arith, link_count-lt-length free_link slots at (Full standing serial value) (Free None) found refl refl)

  -- the slot of a key that is in the map
  found_there : (slot : Option (Slot T)) (serial : ℕ) (found : Option T) → option_and_then (value_under serial) slot ≡ found → IsSome found → (value : T) × (found ≡ Some value) × (slot ≡ Some (Full Live serial value))
  found_there slot serial None is present = absurd (false≢true present)
  found_there slot serial (Some value) is present = (value, refl, live_there slot serial value is)

  pub record Present (slots : List (Slot T)) (key : Key) (found : Option T) : Type 0 where
    pub value : T
    pub is : found ≡ Some value
    pub slot : slice_get slots key.slot ≡ Some (Full Live (serial_of key) value)

  pub present : (slots : List (Slot T)) (capacity : ℕ) (free : Option ℕ) (freed : ℕ) (condemned : Option ℕ) (count : ℕ) (key : Key) → IsSound slots capacity free freed condemned count → ContainsKey (contents_of slots capacity freed condemned count) key → Present slots key (value_at (contents_of slots capacity freed condemned count) key)
  present slots capacity free freed condemned count key sound contains =
      let here = value_at-contents_of slots capacity free freed condemned count key sound in
      let found = found_there (slice_get slots key.slot) (serial_of key) _ (sym here) contains in
      record { value = found.0; is = found.1; slot = found.2 }
