-- What the slots have in the map under each serial, and how a write or a push changes it.
use Rattle.std.proofs.Common.{◌≡◌, ◌≢◌, ℕ, zero, suc, ◌+◌, ◌<◌, List, [], ◌∷◌, ◌++◌, length, set, get_or, eqb, Option, Some, None, option_and_then, refl, sym, ap, subst, ◌∙◌, inl, inr, arith, add-zero, zero-add, eqb-true, eq-eqb, ne_eqb}
use Rattle.std.proofs.lemmas.Bool.{cases_eq, cases_lt, cond-true, cond-false}
use Rattle.std.proofs.lemmas.Option.{cond_some, same_Some}
use Rattle.std.proofs.lemmas.List.{length-set, same_lists, get_or-set_same, get_or-set_other, get_or_past}
use Rattle.std.proofs.lemmas.List.FromFn.{length-map-range_with_len, get_or-map-range_with_len, map-range_with_len_more}
use Rattle.slot_arena.specs.declared.slot.Slot.{Slot}
use Rattle.slot_arena.specs.declared.slot.Slot.TheVariants.{Full}
use Rattle.slot_arena.specs.declared.slot.Standing.TheVariants.{Live}
use Rattle.slot_arena.specs.Contents.{Entry, value_in}
use Rattle.slot_arena.specs.Slot.{value_under}
use Rattle.slot_arena.specs.Layout.{value_here, entry_or, entry_from, entries_of, IsApart, IsNumbered}
use Rattle.slot_arena.proofs.Lists.{slice_get-set_same, slice_get-set_other, slice_get_push}

module _ {T : Type 0} where
  -- a live slot has its value under its own serial, and under no other
  pub value_under_own : (serial : ℕ) (value : T) → value_under serial (Full Live serial value) ≡ Some value
  value_under_own serial value = cond-true (eqb serial serial) (Some value) None (eq-eqb serial serial refl)

  pub value_under_live : (wanted serial : ℕ) (value found : T) → value_under wanted (Full Live serial value) ≡ Some found → (serial ≡ wanted) × (value ≡ found)
  value_under_live wanted serial value found some =
      let parts = cond_some (eqb serial wanted) value found some in
      (eqb-true serial wanted parts.0, parts.1)

  pub value_here-set_same : (slots : List (Slot T)) (at : ℕ) (slot : Slot T) (serial : ℕ) → at < length slots → value_here (set slots at slot) at serial ≡ value_under serial slot
  value_here-set_same slots at slot serial within = ap (option_and_then (value_under serial)) (slice_get-set_same slots at slot within)

  pub value_here-set_other : (slots : List (Slot T)) (at place : ℕ) (slot : Slot T) (serial : ℕ) → place ≢ at → value_here (set slots at slot) place serial ≡ value_here slots place serial
  value_here-set_other slots at place slot serial other = ap (option_and_then (value_under serial)) (slice_get-set_other slots at place slot other)

  pub value_here-push_same : (slots : List (Slot T)) (slot : Slot T) (serial : ℕ) → value_here (slots ++ slot ∷ []) (length slots) serial ≡ value_under serial slot
  value_here-push_same slots slot serial = ap (option_and_then (value_under serial)) (slice_get_push slots slot)

  pub value_here-push_other : (slots : List (Slot T)) (slot : Slot T) (place serial : ℕ) → place ≢ length slots → value_here (slots ++ slot ∷ []) place serial ≡ value_here slots place serial
  value_here-push_other [] slot zero serial other = absurd (other refl)
  value_here-push_other [] slot (suc place) serial other = refl
  value_here-push_other (first ∷ rest) slot zero serial other = refl
  value_here-push_other (first ∷ rest) slot (suc place) serial other = value_here-push_other rest slot place serial (λ same. other (ap suc same))

  pub value_here_within : (slots : List (Slot T)) (place serial : ℕ) (value : T) → value_here slots place serial ≡ Some value → place < length slots
  value_here_within [] place serial value found = absurd (cc)
  value_here_within (slot ∷ rest) zero serial value found = omega arith
  value_here_within (slot ∷ rest) (suc place) serial value found = omega (arith, value_here_within rest place serial value found)

  -- the slots have nothing under a serial, or they have what lies at a place
  pub data Sought (slots : List (Slot T)) (serial : ℕ) (entry : Option (Entry T)) (base : ℕ) : Type 0 where
    gone : entry ≡ None → ((place : ℕ) → value_here slots place serial ≡ None) → Sought slots serial entry base
    there : (place : ℕ) (value : T) → entry ≡ Some (record { slot = base + place; value = value }) → value_here slots place serial ≡ Some value → Sought slots serial entry base

  sought_first : (slot : Slot T) (rest : List (Slot T)) (serial base : ℕ) (value : Option T) (later : Option (Entry T)) → value_under serial slot ≡ value → Sought rest serial later (base + 1) → Sought (slot ∷ rest) serial (entry_or base value later) base
  sought_first slot rest serial base (Some value) later is sought =
      there 0 value (ap (λ k. Some (record { slot = k; value = value })) (sym (add-zero base))) is
  sought_first slot rest serial base None later is (gone none nowhere) = gone none each
    where
      each : (place : ℕ) → value_here (slot ∷ rest) place serial ≡ None
      each zero = is
      each (suc place) = nowhere place
  sought_first slot rest serial base None later is (there place value entry found) =
      let shift : base + 1 + place ≡ base + suc place = omega arith in
      there (suc place) value (entry ∙ ap (λ k. Some (record { slot = k; value = value })) shift) found

  pub sought : (slots : List (Slot T)) (serial base : ℕ) → Sought slots serial (entry_from base slots serial) base
  sought [] serial base = gone refl (λ place. refl)
  sought (slot ∷ rest) serial base = sought_first slot rest serial base (value_under serial slot) (entry_from (base + 1) rest serial) refl (sought rest serial (base + 1))

  -- what lies at a place is what the slots have
  pub entry_found : (slots : List (Slot T)) (place serial : ℕ) (value : T) → IsApart slots → value_here slots place serial ≡ Some value → entry_from 0 slots serial ≡ Some (record { slot = place; value = value })
  entry_found slots place serial value apart found = by_sought (entry_from 0 slots serial) (sought slots serial 0)
    where
      by_sought : (entry : Option (Entry T)) → Sought slots serial entry 0 → entry ≡ Some (record { slot = place; value = value })
      by_sought entry (gone none nowhere) = let nothing = nowhere place in absurd (cc)
      by_sought entry (there other another is lies) =
          let same : place ≡ other = apart place other serial value another found lies in
          let alike : another ≡ value = same_Some another value (sym lies ∙ subst (λ p. value_here slots p serial ≡ Some value) same found) in
          is ∙ ap (λ k. Some (record { slot = k; value = another })) (zero-add other ∙ sym same) ∙ ap (λ v. Some (record { slot = place; value = v })) alike

  -- where no place has a value under the serial, the slots have nothing
  pub entry_gone : (slots : List (Slot T)) (serial : ℕ) → ((place : ℕ) (value : T) → value_here slots place serial ≡ Some value → ⊥) → entry_from 0 slots serial ≡ None
  entry_gone slots serial nowhere = by_sought (entry_from 0 slots serial) (sought slots serial 0)
    where
      by_sought : (entry : Option (Entry T)) → Sought slots serial entry 0 → entry ≡ None
      by_sought entry (gone none _) = none
      by_sought entry (there place value is lies) = absurd (nowhere place value lies)

  none_from : (found : Option T) → ((value : T) → found ≡ Some value → ⊥) → found ≡ None
  none_from None never = refl
  none_from (Some value) never = absurd (never value refl)

  -- what a key finds in the map is what lies at its place
  pub value_in-entry_from : (slots : List (Slot T)) (place serial : ℕ) → IsApart slots → value_in place (entry_from 0 slots serial) ≡ value_here slots place serial
  value_in-entry_from slots place serial apart = by_sought (entry_from 0 slots serial) (sought slots serial 0)
    where
      by_sought : (entry : Option (Entry T)) → Sought slots serial entry 0 → value_in place entry ≡ value_here slots place serial
      by_sought entry (gone none nowhere) = rw none (sym (nowhere place))
      by_sought entry (there other value is lies) =
          rw (is, zero-add)
          (elim (cases_eq other place) [
            | inl same ↦ cond-true (eqb other place) (Some value) None (eq-eqb other place same) ∙ sym (subst (λ p. value_here slots p serial ≡ Some value) same lies)
            | inr differs ↦
                cond-false (eqb other place) (Some value) None (ne_eqb other place differs)
                ∙ sym (none_from (value_here slots place serial) (λ another found. differs (apart other place serial value another lies found)))
          ])

  -- slots that have the same at every place under a serial have the same entry
  pub entry_same : (old new : List (Slot T)) (serial : ℕ) → IsApart new → ((place : ℕ) → value_here new place serial ≡ value_here old place serial) → entry_from 0 new serial ≡ entry_from 0 old serial
  entry_same old new serial apart same = by_sought (entry_from 0 old serial) (sought old serial 0)
    where
      by_sought : (entry : Option (Entry T)) → Sought old serial entry 0 → entry_from 0 new serial ≡ entry
      by_sought entry (gone none nowhere) =
          entry_gone new serial (λ place value found. let nothing = nowhere place in let kept = same place in absurd (cc)) ∙ sym none
      by_sought entry (there place value is lies) =
          entry_found new place serial value apart (same place ∙ lies) ∙ ap (λ k. Some (record { slot = k; value = value })) (sym (zero-add place)) ∙ sym is

  -- the list of entries
  pub length-entries_of : (slots : List (Slot T)) (count : ℕ) → length (entries_of slots count) ≡ count
  length-entries_of slots count = length-map-range_with_len (entry_from 0 slots) 0 count

  pub get_or-entries_of : (slots : List (Slot T)) (count serial : ℕ) (d : Option (Entry T)) → serial < count → get_or (entries_of slots count) serial d ≡ entry_from 0 slots serial
  get_or-entries_of slots count serial d below = get_or-map-range_with_len (entry_from 0 slots) 0 count serial serial d below (zero-add serial)

  -- what a key finds in the list of entries
  pub value_in-entries_of : (slots : List (Slot T)) (count place serial : ℕ) → IsApart slots → IsNumbered slots count → value_in place (get_or (entries_of slots count) serial None) ≡ value_here slots place serial
  value_in-entries_of slots count place serial apart numbered =
      elim (cases_lt serial count) [
        | inl below ↦ ap (value_in place) (get_or-entries_of slots count serial None below) ∙ value_in-entry_from slots place serial apart
        | inr above ↦
            ap (value_in place) (get_or_past (entries_of slots count) serial None (omega (arith, length-entries_of slots count)))
            ∙ sym (none_from (value_here slots place serial) (λ value found. omega (arith, numbered place serial value found)))
      ]

  -- one entry changes
  pub entries_of-changed : (old new : List (Slot T)) (count serial : ℕ) (entry : Option (Entry T)) → serial < count → entry_from 0 new serial ≡ entry → ((other : ℕ) → other ≢ serial → entry_from 0 new other ≡ entry_from 0 old other) → entries_of new count ≡ set (entries_of old count) serial entry
  entries_of-changed old new count serial entry below changed others =
      let before = length-entries_of old count in
      let after = length-entries_of new count in
      same_lists _ _ (after ∙ sym before ∙ sym (length-set (entries_of old count) serial entry))
      (λ other d inside.
      let within : other < count = omega arith in
      get_or-entries_of new count other d within
      ∙ elim (cases_eq other serial) [
        | inl same ↦ ap (entry_from 0 new) same ∙ changed ∙ sym (ap (λ k. get_or (set (entries_of old count) serial entry) k d) same ∙ get_or-set_same (entries_of old count) serial entry d (omega arith))
        | inr differs ↦ others other differs ∙ sym (get_or-set_other (entries_of old count) serial other entry d differs ∙ get_or-entries_of old count other d within)
      ])

  -- no entry changes
  pub entries_of-same : (old new : List (Slot T)) (count : ℕ) → ((serial : ℕ) → entry_from 0 new serial ≡ entry_from 0 old serial) → entries_of new count ≡ entries_of old count
  entries_of-same old new count same =
      let before = length-entries_of old count in
      let after = length-entries_of new count in
      same_lists _ _ (after ∙ sym before)
      (λ serial d inside.
      let within : serial < count = omega arith in
      get_or-entries_of new count serial d within ∙ same serial ∙ sym (get_or-entries_of old count serial d within))

  -- one entry more
  pub entries_of-more : (old new : List (Slot T)) (count : ℕ) (entry : Option (Entry T)) → entry_from 0 new count ≡ entry → ((other : ℕ) → other ≢ count → entry_from 0 new other ≡ entry_from 0 old other) → entries_of new (count + 1) ≡ entries_of old count ++ entry ∷ []
  entries_of-more old new count entry added others =
      map-range_with_len_more (entry_from 0 new) 0 count count (zero-add count)
      ∙ ap (λ xs. xs ++ entry_from 0 new count ∷ []) below
      ∙ ap (λ e. entries_of old count ++ e ∷ []) added
    where
      below : entries_of new count ≡ entries_of old count
      below =
          let before = length-entries_of old count in
          let after = length-entries_of new count in
          same_lists _ _ (after ∙ sym before)
          (λ serial d inside.
          let within : serial < count = omega arith in
          get_or-entries_of new count serial d within ∙ others serial (λ same. omega arith) ∙ sym (get_or-entries_of old count serial d within))
