-- The keys of the live slots, sorted by serial, are those of the map as they ascend.
use Rattle.std.proofs.Common.{◌≡◌, ◌≢◌, ◌⊎◌, ℕ, zero, suc, ◌+◌, ◌<◌, ◌≤◌, List, [], ◌∷◌, ◌++◌, length, get_or, drop, Bool, false, eqb, Option, Some, None, slice_get, option_and_then, Contains, IsPermutation, refl, sym, ap, subst, ◌∙◌, inl, inr, arith, add-zero, zero-add, eq-eqb, ne_eqb}
use Rattle.std.specs.List.{IsDistinct, AllByRecursion}
use Rattle.std.specs.List.Sorted.{IsNonDecreasingBy}
use Rattle.std.proofs.lemmas.Bool.{cases_eq, eqb-false}
use Rattle.std.proofs.lemmas.Option.{same_Some, slice_get_within, slice_get-get_or, get_or_from_slice_get}
use Rattle.std.proofs.lemmas.List.{drop_more, drop_all, append_assoc, append-nil}
use Rattle.std.proofs.lemmas.List.Sorted.{Contains-permutation, IsPermutation-sym}
use Rattle.std.proofs.lemmas.Map.Keys.{IsDistinct-cons, IsDistinct-IsPermutation, apart_from_distinct}
use Rattle.slot_arena.specs.declared.key.Key.{Key}
use Rattle.slot_arena.specs.declared.slot.Slot.{Slot}
use Rattle.slot_arena.specs.declared.slot.Slot.TheVariants.{Free, Full}
use Rattle.slot_arena.specs.declared.slot.Standing.TheVariants.{Live, Condemned}
use Rattle.slot_arena.specs.Serials.{serial_of, key_with}
use Rattle.slot_arena.specs.Contents.{Entry, keys_from}
use Rattle.slot_arena.specs.Slot.{live_serial, value_under}
use Rattle.slot_arena.specs.Layout.{serial_here, entry_from, entries_of, IsApart, IsNumbered}
use Rattle.slot_arena.proofs.KeyLemmas.{serial_of-key_with}
use Rattle.slot_arena.proofs.Entries.{value_under_own, value_under_live, Sought, gone, there, sought, entry_found, length-entries_of, get_or-entries_of}

module _ {X : Type 0} where
  Contains-cons : (head x : X) (rest : List X) → Contains rest x → Contains (head ∷ rest) x
  Contains-cons head x rest p = (suc p.0, omega (arith, p.1), p.2)

  Contains-cons_cases : (head x : X) (rest : List X) → Contains (head ∷ rest) x → (head ≡ x) ⊎ Contains rest x
  Contains-cons_cases head x rest p = by_index p.0 p.1 p.2
    where
      by_index : (k : ℕ) → k < suc (length rest) → get_or (head ∷ rest) k x ≡ x → (head ≡ x) ⊎ Contains rest x
      by_index zero within found = inl found
      by_index (suc k) within found = inr (k, omega arith, found)

  all_by_recursion : (P : X → Type 0) (xs : List X) → ((x : X) → Contains xs x → P x) → AllByRecursion P xs
  all_by_recursion P [] each = tt
  all_by_recursion P (x ∷ xs) each = (each x (0, omega arith, refl), all_by_recursion P xs (λ y inside. each y (Contains-cons x y xs inside)))

pred_same : (m n : ℕ) → suc m ≡ suc n → m ≡ n
pred_same m n same = omega arith

zero_not_suc : (n : ℕ) → 0 ≡ suc n → ⊥
zero_not_suc n same = omega arith

-- the serials rise, from low on
abbrev pub Rises : ℕ → List Key → Type 0
Rises low [] = Unit {0}
Rises low (key ∷ keys) = (low ≤ serial_of key) × Rises (suc (serial_of key)) keys

rises_above : (low : ℕ) (keys : List Key) (key : Key) → Rises low keys → Contains keys key → low ≤ serial_of key
rises_above low [] key up inside = absurd (omega (arith, inside.1))
rises_above low (first ∷ rest) key up inside =
    elim (Contains-cons_cases first key rest inside) [
      | inl same ↦ subst (λ k. low ≤ serial_of k) same up.0
      | inr later ↦ let above = rises_above (suc (serial_of first)) rest key up.1 later in let here = up.0 in omega arith
    ]

-- rising keys are told by which there are
pub same_rising : (low : ℕ) (xs ys : List Key) → Rises low xs → Rises low ys → ((key : Key) → Contains xs key → Contains ys key) → ((key : Key) → Contains ys key → Contains xs key) → xs ≡ ys
same_rising low [] [] up down there_too here_too = refl
same_rising low [] (y ∷ ys) up down there_too here_too = let inside = here_too y (0, omega arith, refl) in absurd (omega (arith, inside.1))
same_rising low (x ∷ xs) [] up down there_too here_too = let inside = there_too x (0, omega arith, refl) in absurd (omega (arith, inside.1))
same_rising low (x ∷ xs) (y ∷ ys) up down there_too here_too =
    let first : y ≡ x =
    elim (Contains-cons_cases y x ys (there_too x (0, omega arith, refl))) [
      | inl same ↦ same
      | inr later ↦ elim (Contains-cons_cases x y xs (here_too y (0, omega arith, refl))) [
        | inl same ↦ sym same
        | inr after ↦
            let above = rises_above (suc (serial_of y)) ys x down.1 later in
            let below = rises_above (suc (serial_of x)) xs y up.1 after in
            absurd (omega arith)
      ]
    ] in
    let tails : Rises (suc (serial_of x)) ys = subst (λ k. Rises (suc (serial_of k)) ys) first down.1 in
    let rest : xs ≡ ys =
    same_rising (suc (serial_of x)) xs ys up.1 tails
    (λ key inside. elim (Contains-cons_cases y key ys (there_too key (Contains-cons x key xs inside))) [
      | inl same ↦ let above = rises_above (suc (serial_of x)) xs key up.1 inside in let equal : serial_of x ≡ serial_of key = ap serial_of (sym first ∙ same) in absurd (omega arith)
      | inr later ↦ later
    ])
    (λ key inside. elim (Contains-cons_cases x key xs (here_too key (Contains-cons y key ys inside))) [
      | inl same ↦ let above = rises_above (suc (serial_of x)) ys key tails inside in let equal : serial_of x ≡ serial_of key = ap serial_of same in absurd (omega arith)
      | inr later ↦ later
    ]) in
    ap (λ k. k ∷ xs) (sym first) ∙ ap (λ ks. y ∷ ks) rest

-- keys that do not fall, no two of which have one serial, rise
rises_from : (low : ℕ) (keys : List Key) → ((d : Key) → 0 < length keys → low ≤ serial_of (get_or keys 0 d)) → ((i : ℕ) (d : Key) → suc i < length keys → serial_of (get_or keys i d) < serial_of (get_or keys (suc i) d)) → Rises low keys
rises_from low [] first next = tt
rises_from low (key ∷ keys) first next =
    (first key (omega arith), rises_from (suc (serial_of key)) keys (λ d some. next 0 d (omega arith)) (λ i d within. next (suc i) d (omega arith)))

abbrev pub same_serial : Key → Key → Bool
same_serial x y = eqb (serial_of x) (serial_of y)

eqb_flips : (m n : ℕ) → eqb m n ≡ eqb n m
eqb_flips m n = elim (cases_eq m n) [ inl same ↦ eq-eqb m n same ∙ sym (eq-eqb n m (sym same)) | inr differs ↦ ne_eqb m n differs ∙ sym (ne_eqb n m (λ same. differs (sym same))) ]

pub Rises-from_sorted : (keys : List Key) → IsNonDecreasingBy serial_of keys → IsDistinct same_serial keys → Rises 0 keys
Rises-from_sorted keys up apart =
    rises_from 0 keys (λ d some. omega arith)
    (λ i d within.
    let rises = up i (suc i) d (omega arith) within in
    let differs : serial_of (get_or keys i d) ≢ serial_of (get_or keys (suc i) d) =
    λ same. eqb-false _ _ (apart_from_distinct same_serial keys i (suc i) d apart (omega arith) within) same in
    omega arith)

-- the keys of the map rise
pub Rises-keys_from : {T : Type 0} (serial : ℕ) (entries : List (Option (Entry T))) → Rises serial (keys_from serial entries)
Rises-keys_from serial [] = tt
Rises-keys_from serial (None ∷ rest) = lower (keys_from (serial + 1) rest) (Rises-keys_from (serial + 1) rest)
  where
    lower : (keys : List Key) → Rises (serial + 1) keys → Rises serial keys
    lower [] up = tt
    lower (key ∷ keys) up = let above = up.0 in (omega arith, up.1)
Rises-keys_from serial (Some entry ∷ rest) =
    let own : serial ≡ serial_of (key_with entry.slot serial) = sym (serial_of-key_with entry.slot serial) in
    let next : serial + 1 ≡ suc serial = omega arith in
    (subst (λ k. serial ≤ k) own (omega arith), subst (λ k. Rises k (keys_from (serial + 1) rest)) (next ∙ ap suc own) (Rises-keys_from (serial + 1) rest))

-- the key of a live slot, and then the others
abbrev pub key_then : ℕ → Option ℕ → List Key → List Key
key_then place None others = others
key_then place (Some serial) others = key_with place serial ∷ others

Contains-key_then : (base : ℕ) (own : Option ℕ) (others : List Key) (key : Key) → Contains others key → Contains (key_then base own others) key
Contains-key_then base None others key inside = inside
Contains-key_then base (Some serial) others key inside = Contains-cons _ _ _ inside

module _ {T : Type 0} where
  -- the keys of the live slots, the first of which is at this place
  abbrev pub live_keys : ℕ → List (Slot T) → List Key
  live_keys place [] = []
  live_keys place (slot ∷ rest) = key_then place (live_serial slot) (live_keys (place + 1) rest)

  -- a loop over the slots that pushes the key of each live one
  pub live_keys_more : (keys after : List Key) (slots : List (Slot T)) (place : ℕ) (slot : Slot T) (own : Option ℕ) → slice_get slots place ≡ Some slot → own ≡ live_serial slot → after ≡ keys ++ key_then place own [] → keys ++ live_keys place (drop place slots) ≡ live_keys 0 slots → after ++ live_keys (place + 1) (drop (place + 1) slots) ≡ live_keys 0 slots
  live_keys_more keys after slots place slot own found is pushed kept =
      ap (λ ks. ks ++ later) pushed ∙ joined own ∙ ap (λ o. keys ++ key_then place o later) is ∙ ap (λ xs. keys ++ live_keys place xs) (sym left) ∙ kept
    where
      later : List Key
      later = live_keys (place + 1) (drop (place + 1) slots)

      left : drop place slots ≡ slot ∷ drop (place + 1) slots
      left = drop_more slots place slot (slice_get_within slots place slot found) ∙ ap (λ s. s ∷ drop (place + 1) slots) (get_or_from_slice_get slots place slot slot found)

      joined : (o : Option ℕ) → (keys ++ key_then place o []) ++ later ≡ keys ++ key_then place o later
      joined None = ap (λ ks. ks ++ later) (append-nil keys)
      joined (Some serial) = append_assoc keys (key_with place serial ∷ []) later

  pub live_keys_all : (keys : List Key) (slots : List (Slot T)) (place : ℕ) → length slots ≤ place → keys ++ live_keys place (drop place slots) ≡ live_keys 0 slots → keys ≡ live_keys 0 slots
  live_keys_all keys slots place past kept = sym (append-nil keys) ∙ ap (λ xs. keys ++ live_keys place xs) (sym (drop_all place slots past)) ∙ kept

  -- a key of the live slots lies in the first or in a later one
  abbrev IsLiveFrom : ℕ → List (Slot T) → Key → Type 0
  IsLiveFrom base slots key = (place serial : ℕ) × (key ≡ key_with (base + place) serial) × (serial_here slots place ≡ Some serial)

  later_place : (base : ℕ) (slot : Slot T) (rest : List (Slot T)) (key : Key) → IsLiveFrom (base + 1) rest key → IsLiveFrom base (slot ∷ rest) key
  later_place base slot rest key found =
      let shift : base + 1 + found.0 ≡ base + suc found.0 = omega arith in
      (suc found.0, found.1, found.2 ∙ ap (λ slot. key_with slot found.1) shift, found.3)

  live_key_first : (base : ℕ) (slot : Slot T) (rest : List (Slot T)) (key : Key) (own : Option ℕ) (others : List Key) → live_serial slot ≡ own → (Contains others key → IsLiveFrom (base + 1) rest key) → Contains (key_then base own others) key → IsLiveFrom base (slot ∷ rest) key
  live_key_first base slot rest key None others none later inside =
      later_place base slot rest key (later inside)
  live_key_first base slot rest key (Some serial) others some later inside =
      elim (Contains-cons_cases (key_with base serial) key others inside) [
        | inl same ↦ (0, serial, sym same ∙ ap (λ slot. key_with slot serial) (sym (add-zero base)), some)
        | inr more ↦ later_place base slot rest key (later more)
      ]

  -- which keys there are among the live slots
  pub live_key_from : (base : ℕ) (slots : List (Slot T)) (key : Key) → Contains (live_keys base slots) key → IsLiveFrom base slots key
  live_key_from base [] key inside = absurd (omega (arith, inside.1))
  live_key_from base (slot ∷ rest) key inside =
      live_key_first base slot rest key (live_serial slot) (live_keys (base + 1) rest) refl (live_key_from (base + 1) rest key) inside

  pub live_key_to : (base : ℕ) (slots : List (Slot T)) (place serial : ℕ) → serial_here slots place ≡ Some serial → Contains (live_keys base slots) (key_with (base + place) serial)
  live_key_to base [] place serial found = absurd (cc)
  live_key_to base (slot ∷ rest) zero serial found = rw (found, add-zero) (0, omega arith, refl)
  live_key_to base (slot ∷ rest) (suc place) serial found =
      let shift : base + suc place ≡ base + 1 + place = omega arith in
      Contains-key_then base (live_serial slot) _ _ (rw shift (live_key_to (base + 1) rest place serial found))

  -- a live slot has a value under its serial
  value_from_serial : (slot : Option (Slot T)) (serial : ℕ) → option_and_then live_serial slot ≡ Some serial → (value : T) × (option_and_then (value_under serial) slot ≡ Some value)
  value_from_serial None serial found = absurd (cc)
  value_from_serial (Some (Free next)) serial found = absurd (cc)
  value_from_serial (Some (Full Live own value)) serial found =
      (value, subst (λ k. value_under k (Full Live own value) ≡ Some value) (same_Some own serial found) (value_under_own own value))
  value_from_serial (Some (Full (Condemned next) own value)) serial found = absurd (cc)

  serial_from_value : (slot : Option (Slot T)) (serial : ℕ) (value : T) → option_and_then (value_under serial) slot ≡ Some value → option_and_then live_serial slot ≡ Some serial
  serial_from_value None serial value found = absurd (cc)
  serial_from_value (Some (Free next)) serial value found = absurd (cc)
  serial_from_value (Some (Full Live own held)) serial value found = ap Some (value_under_live serial own held value found).0
  serial_from_value (Some (Full (Condemned next) own held)) serial value found = absurd (cc)

  -- no two live slots have one serial
  distinct_first : (base : ℕ) (slot : Slot T) (rest : List (Slot T)) (own : Option ℕ) (others : List Key) → live_serial slot ≡ own → ((key : Key) → Contains others key → IsLiveFrom (base + 1) rest key) → ((place other serial : ℕ) → serial_here (slot ∷ rest) place ≡ Some serial → serial_here (slot ∷ rest) other ≡ Some serial → place ≡ other) → IsDistinct same_serial others → IsDistinct same_serial (key_then base own others)
  distinct_first base slot rest None others none later apart tail = tail
  distinct_first base slot rest (Some own) others some later apart tail =
      IsDistinct-cons same_serial (key_with base own) others
      (all_by_recursion (λ key. same_serial (key_with base own) key ≡ false) others
      (λ key inside.
      let found = later key inside in
      let at : serial_of key ≡ found.1 = ap serial_of found.2 ∙ serial_of-key_with (base + 1 + found.0) found.1 in
      ne_eqb (serial_of (key_with base own)) (serial_of key)
      (λ same. zero_not_suc found.0 (apart 0 (suc found.0) own some (found.3 ∙ ap Some (sym at ∙ sym same ∙ serial_of-key_with base own))))))
      tail

  pub live_keys_distinct : (base : ℕ) (slots : List (Slot T)) → ((place other serial : ℕ) → serial_here slots place ≡ Some serial → serial_here slots other ≡ Some serial → place ≡ other) → IsDistinct same_serial (live_keys base slots)
  unfolding IsDistinct
  live_keys_distinct base [] apart = tt
  live_keys_distinct base (slot ∷ rest) apart =
      distinct_first base slot rest (live_serial slot) (live_keys (base + 1) rest) refl (live_key_from (base + 1) rest) apart
      (live_keys_distinct (base + 1) rest (λ place other serial here there. pred_same place other (apart (suc place) (suc other) serial here there)))

  -- a key of the map has its value at some place
  abbrev IsMapFrom : ℕ → List (Option (Entry T)) → Key → Type 0
  IsMapFrom serial entries key = (place : ℕ) × (entry : Entry T) × (key ≡ key_with entry.slot (serial + place)) × (slice_get entries place ≡ Some (Some entry))

  later_entry : (serial : ℕ) (first : Option (Entry T)) (rest : List (Option (Entry T))) (key : Key) → IsMapFrom (serial + 1) rest key → IsMapFrom serial (first ∷ rest) key
  later_entry serial first rest key found =
      let shift : serial + 1 + found.0 ≡ serial + suc found.0 = omega arith in
      (suc found.0, found.1, found.2 ∙ ap (key_with found.1.slot) shift, found.3)

  -- which keys there are in the map
  pub map_key_from : (serial : ℕ) (entries : List (Option (Entry T))) (key : Key) → Contains (keys_from serial entries) key → IsMapFrom serial entries key
  map_key_from serial [] key inside = absurd (omega (arith, inside.1))
  map_key_from serial (None ∷ rest) key inside =
      later_entry serial None rest key (map_key_from (serial + 1) rest key inside)
  map_key_from serial (Some entry ∷ rest) key inside =
      elim (Contains-cons_cases (key_with entry.slot serial) key (keys_from (serial + 1) rest) inside) [
        | inl same ↦ (0, entry, sym same ∙ ap (key_with entry.slot) (sym (add-zero serial)), refl)
        | inr more ↦ later_entry serial (Some entry) rest key (map_key_from (serial + 1) rest key more)
      ]

  pub map_key_to : (serial : ℕ) (entries : List (Option (Entry T))) (place : ℕ) (entry : Entry T) → slice_get entries place ≡ Some (Some entry) → Contains (keys_from serial entries) (key_with entry.slot (serial + place))
  map_key_to serial [] place entry found = absurd (cc)
  map_key_to serial (None ∷ rest) zero entry found = absurd (cc)
  map_key_to serial (Some first ∷ rest) zero entry found =
      let same : first ≡ entry = cc in
      subst (λ e. Contains (keys_from serial (Some first ∷ rest)) (key_with e.slot (serial + 0))) same (rw add-zero (0, omega arith, refl))
  map_key_to serial (None ∷ rest) (suc place) entry found =
      let shift : serial + suc place ≡ serial + 1 + place = omega arith in
      rw shift (map_key_to (serial + 1) rest place entry found)
  map_key_to serial (Some first ∷ rest) (suc place) entry found =
      let shift : serial + suc place ≡ serial + 1 + place = omega arith in
      Contains-cons _ _ _ (rw shift (map_key_to (serial + 1) rest place entry found))

  -- the sorted keys of the live slots are the keys of the map
  pub keys_of_sorted : (slots : List (Slot T)) (count : ℕ) (keys : List Key) → IsApart slots → IsNumbered slots count → IsPermutation (live_keys 0 slots) keys → IsNonDecreasingBy serial_of keys → keys ≡ keys_from 0 (entries_of slots count)
  keys_of_sorted slots count keys apart numbered moved up =
      same_rising 0 keys (keys_from 0 (entries_of slots count))
      (Rises-from_sorted keys up (IsDistinct-IsPermutation same_serial (λ x y. eqb_flips (serial_of x) (serial_of y)) (live_keys 0 slots) keys moved (live_keys_distinct 0 slots one_place)))
      (Rises-keys_from 0 (entries_of slots count))
      (λ key inside. to_map key (live_key_from 0 slots key (Contains-permutation keys (live_keys 0 slots) key (IsPermutation-sym (live_keys 0 slots) keys moved) inside)))
      (λ key inside. Contains-permutation (live_keys 0 slots) keys key moved (from_map key (map_key_from 0 (entries_of slots count) key inside)))
    where
      one_place : (place other serial : ℕ) → serial_here slots place ≡ Some serial → serial_here slots other ≡ Some serial → place ≡ other
      one_place place other serial here too =
          let first = value_from_serial (slice_get slots place) serial here in
          let second = value_from_serial (slice_get slots other) serial too in
          apart place other serial first.0 second.0 first.1 second.1

      to_map : (key : Key) → IsLiveFrom 0 slots key → Contains (keys_from 0 (entries_of slots count)) key
      to_map key found =
          let place = found.0 in
          let serial = found.1 in
          let held = value_from_serial (slice_get slots place) serial found.3 in
          let below = numbered place serial held.0 held.1 in
          let inside : serial < length (entries_of slots count) = omega (arith, length-entries_of slots count) in
          let entry : slice_get (entries_of slots count) serial ≡ Some (Some (record { slot = place; value = held.0 })) =
          slice_get-get_or (entries_of slots count) serial None inside
          ∙ ap Some (get_or-entries_of slots count serial None below ∙ entry_found slots place serial held.0 apart held.1) in
          let listed = map_key_to 0 (entries_of slots count) serial (record { slot = place; value = held.0 }) entry in
          let at : key_with place (0 + serial) ≡ key = ap (key_with place) (zero-add serial) ∙ sym (found.2 ∙ ap (λ slot. key_with slot serial) (zero-add place)) in
          subst (Contains (keys_from 0 (entries_of slots count))) at listed

      lies : (serial : ℕ) (entry : Entry T) (o : Option (Entry T)) → o ≡ Some entry → Sought slots serial o 0 → serial_here slots entry.slot ≡ Some serial
      lies serial entry o is (gone none nowhere) = absurd (cc)
      lies serial entry o is (there at held here found) =
          let both : ◌≡◌ {A = Option (Entry T)} (Some (record { slot = 0 + at; value = held })) (Some entry) = sym here ∙ is in
          let slot : 0 + at ≡ entry.slot = ap (λ e. e.slot) (same_Some _ _ both) in
          subst (λ p. serial_here slots p ≡ Some serial) (sym (zero-add at) ∙ slot)
          (serial_from_value (slice_get slots at) serial held found)

      from_map : (key : Key) → IsMapFrom 0 (entries_of slots count) key → Contains (live_keys 0 slots) key
      from_map key found =
          let serial = found.0 in
          let inside = slice_get_within (entries_of slots count) serial _ found.3 in
          let below : serial < count = omega (arith, length-entries_of slots count) in
          let entry : entry_from 0 slots serial ≡ Some found.1 =
          sym (get_or-entries_of slots count serial None below) ∙ get_or_from_slice_get (entries_of slots count) serial _ None found.3 in
          let here = lies serial found.1 (entry_from 0 slots serial) entry (sought slots serial 0) in
          let listed = live_key_to 0 slots found.1.slot serial here in
          let at : key_with (0 + found.1.slot) serial ≡ key = ap (λ slot. key_with slot serial) (zero-add found.1.slot) ∙ sym (found.2 ∙ ap (key_with found.1.slot) (zero-add serial)) in
          subst (Contains (live_keys 0 slots)) at listed
