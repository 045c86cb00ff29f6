-- Each change of the slots keeps an arena sound.
use Rattle.std.proofs.Common.{◌≡◌, ◌≢◌, ℕ, zero, suc, ◌+◌, ◌-◌, ◌^◌, ◌<◌, ◌≤◌, List, [], ◌∷◌, ◌++◌, length, set, Option, Some, slice_get, option_and_then, refl, sym, ap, subst, ◌∙◌, inl, inr, arith, add-one}
use Rattle.std.proofs.lemmas.Bool.{cases_eq}
use Rattle.std.proofs.lemmas.Option.{slice_get_within}
use Rattle.std.proofs.lemmas.List.{length-set, length_push}
use Rattle.slot_arena.specs.declared.slot.Slot.{Slot}
use Rattle.slot_arena.specs.declared.slot.Slot.TheVariants.{Free, Full}
use Rattle.slot_arena.specs.declared.slot.Standing.TheVariants.{Live, Condemned}
use Rattle.slot_arena.specs.Slot.{value_under, free_link, condemned_link}
use Rattle.slot_arena.specs.Layout.{value_here, link_count, IsChain, IsApart, IsNumbered, IsSound}
use Rattle.slot_arena.proofs.Chains.{IsChain-set, IsChain-push, IsChain-pop, IsChain-cons, no_link_is_off, link_count-set, link_count-push}
use Rattle.slot_arena.proofs.Entries.{value_under_own, value_under_live, value_here-set_same, value_here-set_other, value_here-push_same, value_here-push_other}

module _ {T : Type 0} where
  -- serials after a write
  pub IsNumbered-set : (slots : List (Slot T)) (at : ℕ) (new : Slot T) (count more : ℕ) → at < length slots → count ≤ more → ((serial : ℕ) (value : T) → value_under serial new ≡ Some value → serial < more) → IsNumbered slots count → IsNumbered (set slots at new) more
  IsNumbered-set slots at new count more within rises fresh numbered place serial value found =
      elim (cases_eq place at) [
        | inl same ↦ fresh serial value (sym (value_here-set_same slots at new serial within) ∙ subst (λ p. value_here (set slots at new) p serial ≡ Some value) same found)
        | inr other ↦ let kept = numbered place serial value (sym (value_here-set_other slots at place new serial other) ∙ found) in omega arith
      ]

  pub IsApart-set : (slots : List (Slot T)) (at : ℕ) (new : Slot T) → at < length slots → ((place serial : ℕ) (value another : T) → value_under serial new ≡ Some value → value_here slots place serial ≡ Some another → place ≡ at) → IsApart slots → IsApart (set slots at new)
  IsApart-set slots at new within alone apart place other serial value another here there =
      let written : (k : ℕ) (v : T) → k ≡ at → value_here (set slots at new) k serial ≡ Some v → value_under serial new ≡ Some v =
      λ k v same found. sym (value_here-set_same slots at new serial within) ∙ subst (λ p. value_here (set slots at new) p serial ≡ Some v) same found in
      let kept : (k : ℕ) (v : T) → k ≢ at → value_here (set slots at new) k serial ≡ Some v → value_here slots k serial ≡ Some v =
      λ k v differs found. sym (value_here-set_other slots at k new serial differs) ∙ found in
      elim (cases_eq place at) [
        | inl same ↦ elim (cases_eq other at) [
          | inl equal ↦ same ∙ sym equal
          | inr differs ↦ same ∙ sym (alone other serial value another (written place value same here) (kept other another differs there))
        ]
        | inr differs ↦ elim (cases_eq other at) [
          | inl equal ↦ alone place serial another value (written other another equal there) (kept place value differs here) ∙ sym equal
          | inr apart_too ↦ apart place other serial value another (kept place value differs here) (kept other another apart_too there)
        ]
      ]

  -- serials after a push
  pub IsNumbered-push : (slots : List (Slot T)) (new : Slot T) (count more : ℕ) → count ≤ more → ((serial : ℕ) (value : T) → value_under serial new ≡ Some value → serial < more) → IsNumbered slots count → IsNumbered (slots ++ new ∷ []) more
  IsNumbered-push slots new count more rises fresh numbered place serial value found =
      elim (cases_eq place (length slots)) [
        | inl same ↦ fresh serial value (sym (value_here-push_same slots new serial) ∙ subst (λ p. value_here (slots ++ new ∷ []) p serial ≡ Some value) same found)
        | inr other ↦ let kept = numbered place serial value (sym (value_here-push_other slots new place serial other) ∙ found) in omega arith
      ]

  pub IsApart-push : (slots : List (Slot T)) (new : Slot T) → ((place serial : ℕ) (value another : T) → value_under serial new ≡ Some value → value_here slots place serial ≡ Some another → ⊥) → IsApart slots → IsApart (slots ++ new ∷ [])
  IsApart-push slots new alone apart place other serial value another here there =
      let written : (k : ℕ) (v : T) → k ≡ length slots → value_here (slots ++ new ∷ []) k serial ≡ Some v → value_under serial new ≡ Some v =
      λ k v same found. sym (value_here-push_same slots new serial) ∙ subst (λ p. value_here (slots ++ new ∷ []) p serial ≡ Some v) same found in
      let kept : (k : ℕ) (v : T) → k ≢ length slots → value_here (slots ++ new ∷ []) k serial ≡ Some v → value_here slots k serial ≡ Some v =
      λ k v differs found. sym (value_here-push_other slots new k serial differs) ∙ found in
      elim (cases_eq place (length slots)) [
        | inl same ↦ elim (cases_eq other (length slots)) [
          | inl equal ↦ same ∙ sym equal
          | inr differs ↦ absurd (alone other serial value another (written place value same here) (kept other another differs there))
        ]
        | inr differs ↦ elim (cases_eq other (length slots)) [
          | inl equal ↦ absurd (alone place serial another value (written other another equal there) (kept place value differs here))
          | inr apart_too ↦ apart place other serial value another (kept place value differs here) (kept other another apart_too there)
        ]
      ]

  -- memory for more slots
  pub IsSound-grown : (slots : List (Slot T)) (capacity more : ℕ) (free : Option ℕ) (freed : ℕ) (condemned : Option ℕ) (count : ℕ) → capacity ≤ more → more < 2 ^ 64 → IsSound slots capacity free freed condemned count → IsSound slots more free freed condemned count
  IsSound-grown slots capacity more free freed condemned count rises fits sound =
      let room = sound.room in
      record {
        room = omega arith;
        fits = fits;
        freed_counted = sound.freed_counted;
        freed_linked = sound.freed_linked;
        condemned_linked = sound.condemned_linked;
        numbered = sound.numbered;
        apart = sound.apart;
      }

  -- a value in a slot that was not used before
  pub IsSound-push : (slots : List (Slot T)) (capacity : ℕ) (free : Option ℕ) (freed : ℕ) (condemned : Option ℕ) (count : ℕ) (value : T) → length slots < capacity → IsSound slots capacity free freed condemned count → IsSound (slots ++ Full Live count value ∷ []) capacity free freed condemned (count + 1)
  IsSound-push slots capacity free freed condemned count value room sound =
      let new = Full Live count value in
      let frees = link_count-push free_link slots new in
      let condemns = link_count-push condemned_link slots new in
      let same : link_count condemned_link (slots ++ new ∷ []) ≡ link_count condemned_link slots = omega arith in
      record {
        room = omega (arith, length_push slots new);
        fits = sound.fits;
        freed_counted = let counted = sound.freed_counted in omega arith;
        freed_linked = IsChain-push free_link slots new freed free sound.freed_linked;
        condemned_linked = rw same (IsChain-push condemned_link slots new _ condemned sound.condemned_linked);
        numbered = IsNumbered-push slots new count (count + 1) (omega arith) (λ serial found is. let own = (value_under_live serial count value found is).0 in omega arith) sound.numbered;
        apart =
            IsApart-push slots new (λ place serial found another is lies.
            let own = (value_under_live serial count value found is).0 in
            let below = sound.numbered place serial another lies in
            omega arith) sound.apart;
      }

  -- a value in the first free slot
  pub IsSound-fill : (slots : List (Slot T)) (capacity at : ℕ) (next : Option ℕ) (freed : ℕ) (condemned : Option ℕ) (count : ℕ) (value : T) → slice_get slots at ≡ Some (Free next) → IsSound slots capacity (Some at) freed condemned count → IsSound (set slots at (Full Live count value)) capacity next (freed - 1) condemned (count + 1)
  IsSound-fill slots capacity at next freed condemned count value found sound =
      let new = Full Live count value in
      let within = slice_get_within slots at (Free next) found in
      let frees = link_count-set free_link slots at (Free next) new found in
      let condemns = link_count-set condemned_link slots at (Free next) new found in
      let same : link_count condemned_link (set slots at new) ≡ link_count condemned_link slots = omega arith in
      record {
        room = let room = sound.room in omega (arith, length-set slots at new);
        fits = sound.fits;
        freed_counted = let counted = sound.freed_counted in omega arith;
        freed_linked = chain freed sound.freed_linked;
        condemned_linked =
            rw same (IsChain-set condemned_link slots at new _ condemned (λ m _. no_link_is_off condemned_link slots at (ap (option_and_then condemned_link) found) m) sound.condemned_linked);
        numbered = IsNumbered-set slots at new count (count + 1) within (omega arith) (λ serial held is. let own = (value_under_live serial count value held is).0 in omega arith) sound.numbered;
        apart =
            IsApart-set slots at new within (λ place serial held another is lies.
            let own = (value_under_live serial count value held is).0 in
            let below = sound.numbered place serial another lies in
            omega arith) sound.apart;
      }
    where
      chain : (n : ℕ) → IsChain free_link slots n (Some at) → IsChain free_link (set slots at (Full Live count value)) (n - 1) next
      chain zero p = absurd (cc)
      chain (suc n) p =
          let fewer : suc n - 1 ≡ n = omega arith in
          rw fewer (IsChain-pop free_link slots n at next (Full Live count value) (ap (option_and_then free_link) found) p)

  -- a value in the map becomes another
  pub IsSound-rewrite : (slots : List (Slot T)) (capacity : ℕ) (free : Option ℕ) (freed : ℕ) (condemned : Option ℕ) (count at serial : ℕ) (old value : T) → slice_get slots at ≡ Some (Full Live serial old) → IsSound slots capacity free freed condemned count → IsSound (set slots at (Full Live serial value)) capacity free freed condemned count
  IsSound-rewrite slots capacity free freed condemned count at serial old value found sound =
      let new = Full Live serial value in
      let before = Full Live serial old in
      let within = slice_get_within slots at before found in
      let frees = link_count-set free_link slots at before new found in
      let condemns = link_count-set condemned_link slots at before new found in
      let same : link_count condemned_link (set slots at new) ≡ link_count condemned_link slots = omega arith in
      let had : (other : ℕ) (held : T) → value_under other new ≡ Some held → value_here slots at other ≡ Some old =
      λ other held is. ap (option_and_then (value_under other)) found ∙ own_under other (value_under_live other serial value held is).0 in
      record {
        room = let room = sound.room in omega (arith, length-set slots at new);
        fits = sound.fits;
        freed_counted = let counted = sound.freed_counted in omega arith;
        freed_linked = IsChain-set free_link slots at new freed free (λ m _. no_link_is_off free_link slots at (ap (option_and_then free_link) found) m) sound.freed_linked;
        condemned_linked =
            rw same (IsChain-set condemned_link slots at new _ condemned (λ m _. no_link_is_off condemned_link slots at (ap (option_and_then condemned_link) found) m) sound.condemned_linked);
        numbered = IsNumbered-set slots at new count count within (omega arith) (λ other held is. sound.numbered at other old (had other held is)) sound.numbered;
        apart = IsApart-set slots at new within (λ place other held another is lies. sound.apart place at other another old lies (had other held is)) sound.apart;
      }
    where
      own_under : (other : ℕ) → serial ≡ other → value_under other (Full Live serial old) ≡ Some old
      own_under other same = subst (λ k. value_under k (Full Live serial old) ≡ Some old) same (value_under_own serial old)

  -- a value leaves the map, and its slot becomes the first free one
  pub IsSound-vacate : (slots : List (Slot T)) (capacity : ℕ) (free : Option ℕ) (freed : ℕ) (condemned : Option ℕ) (count at serial : ℕ) (old : T) → slice_get slots at ≡ Some (Full Live serial old) → IsSound slots capacity free freed condemned count → IsSound (set slots at (Free free)) capacity (Some at) (freed + 1) condemned count
  IsSound-vacate slots capacity free freed condemned count at serial old found sound =
      let new = Free free in
      let before = Full Live serial old in
      let within = slice_get_within slots at before found in
      let frees = link_count-set free_link slots at before new found in
      let condemns = link_count-set condemned_link slots at before new found in
      let same : link_count condemned_link (set slots at new) ≡ link_count condemned_link slots = omega arith in
      record {
        room = let room = sound.room in omega (arith, length-set slots at new);
        fits = sound.fits;
        freed_counted = let counted = sound.freed_counted in omega arith;
        freed_linked = rw add-one (IsChain-cons free_link slots freed at free new within (ap (option_and_then free_link) found) refl sound.freed_linked);
        condemned_linked =
            rw same (IsChain-set condemned_link slots at new _ condemned (λ m _. no_link_is_off condemned_link slots at (ap (option_and_then condemned_link) found) m) sound.condemned_linked);
        numbered = IsNumbered-set slots at new count count within (omega arith) (λ other held is. absurd (cc)) sound.numbered;
        apart = IsApart-set slots at new within (λ place other held another is lies. absurd (cc)) sound.apart;
      }

  -- a value leaves the map, and its slot becomes the first condemned one
  pub IsSound-condemn : (slots : List (Slot T)) (capacity : ℕ) (free : Option ℕ) (freed : ℕ) (condemned : Option ℕ) (count at serial : ℕ) (old : T) → slice_get slots at ≡ Some (Full Live serial old) → IsSound slots capacity free freed condemned count → IsSound (set slots at (Full (Condemned condemned) serial old)) capacity free freed (Some at) count
  IsSound-condemn slots capacity free freed condemned count at serial old found sound =
      let new = Full (Condemned condemned) serial old in
      let before = Full Live serial old in
      let within = slice_get_within slots at before found in
      let frees = link_count-set free_link slots at before new found in
      let condemns = link_count-set condemned_link slots at before new found in
      let more : link_count condemned_link (set slots at new) ≡ suc (link_count condemned_link slots) = omega arith in
      record {
        room = let room = sound.room in omega (arith, length-set slots at new);
        fits = sound.fits;
        freed_counted = let counted = sound.freed_counted in omega arith;
        freed_linked = IsChain-set free_link slots at new freed free (λ m _. no_link_is_off free_link slots at (ap (option_and_then free_link) found) m) sound.freed_linked;
        condemned_linked = rw more (IsChain-cons condemned_link slots _ at condemned new within (ap (option_and_then condemned_link) found) refl sound.condemned_linked);
        numbered = IsNumbered-set slots at new count count within (omega arith) (λ other held is. absurd (cc)) sound.numbered;
        apart = IsApart-set slots at new within (λ place other held another is lies. absurd (cc)) sound.apart;
      }

  -- the first condemned slot is taken off, and becomes the first free one
  pub IsSound-take : (slots : List (Slot T)) (capacity : ℕ) (free : Option ℕ) (freed count at serial : ℕ) (old : T) (next : Option ℕ) → slice_get slots at ≡ Some (Full (Condemned next) serial old) → IsSound slots capacity free freed (Some at) count → IsSound (set slots at (Free free)) capacity (Some at) (freed + 1) next count
  IsSound-take slots capacity free freed count at serial old next found sound =
      let new = Free free in
      let before = Full (Condemned next) serial old in
      let within = slice_get_within slots at before found in
      let frees = link_count-set free_link slots at before new found in
      let condemns = link_count-set condemned_link slots at before new found in
      let fewer : link_count condemned_link slots ≡ suc (link_count condemned_link (set slots at new)) = omega arith in
      record {
        room = let room = sound.room in omega (arith, length-set slots at new);
        fits = sound.fits;
        freed_counted = let counted = sound.freed_counted in omega arith;
        freed_linked = rw add-one (IsChain-cons free_link slots freed at free new within (ap (option_and_then free_link) found) refl sound.freed_linked);
        condemned_linked =
            IsChain-pop condemned_link slots _ at next new (ap (option_and_then condemned_link) found)
            (subst (λ n. IsChain condemned_link slots n (Some at)) fewer sound.condemned_linked);
        numbered = IsNumbered-set slots at new count count within (omega arith) (λ other held is. absurd (cc)) sound.numbered;
        apart = IsApart-set slots at new within (λ place other held another is lies. absurd (cc)) sound.apart;
      }
