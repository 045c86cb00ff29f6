-- The pairs of the condemned slots, and how they stand a write or a push.
use Rattle.std.proofs.Common.{◌≡◌, ℕ, zero, suc, ◌<◌, List, [], ◌∷◌, ◌++◌, set, Option, Some, None, slice_get, option_and_then, refl, sym, ap, subst, ◌∙◌, arith}
use Rattle.std.proofs.lemmas.Option.{same_Some, slice_get_within}
use Rattle.slot_arena.specs.declared.slot.Slot.{Slot}
use Rattle.slot_arena.specs.declared.slot.Slot.TheVariants.{Free, Full}
use Rattle.slot_arena.specs.declared.slot.Standing.TheVariants.{Live, Condemned}
use Rattle.slot_arena.specs.Serials.{key_with}
use Rattle.slot_arena.specs.Slot.{condemned_link, condemned_part}
use Rattle.slot_arena.specs.Layout.{link_at, IsChain, pair_then, condemned_from}
use Rattle.slot_arena.proofs.Lists.{slice_get-set_other, slice_get-append_left}

module _ {T : Type 0} where
  -- a slot with a condemned link holds a serial and a value
  pub record HoldsCondemned (slot : Option (Slot T)) (next : Option ℕ) : Type 0 where
    pub serial : ℕ
    pub value : T
    pub is : slot ≡ Some (Full (Condemned next) serial value)

  pub condemned_there : (slot : Option (Slot T)) (next : Option ℕ) → option_and_then condemned_link slot ≡ Some next → HoldsCondemned slot next
  condemned_there None next found = absurd (cc)
  condemned_there (Some (Free link)) next found = absurd (cc)
  condemned_there (Some (Full Live serial value)) next found = absurd (cc)
  condemned_there (Some (Full (Condemned link) serial value)) next found =
      record { serial = serial; value = value; is = ap (λ l. Some (Full (Condemned l) serial value)) (same_Some link next found) }

  -- the first pair, and then the others
  pub condemned_from-head : (slots : List (Slot T)) (n place serial : ℕ) (value : T) (next : Option ℕ) → slice_get slots place ≡ Some (Full (Condemned next) serial value) → condemned_from slots (suc n) (Some place) ≡ (key_with place serial, value) ∷ condemned_from slots n next
  condemned_from-head slots n place serial value next found =
      ap (λ s. pair_then place (option_and_then condemned_part s) (λ l. condemned_from slots n l)) found

  -- slots that are alike along a chain have the same pairs
  alike : (old new : List (Slot T)) (n : ℕ) (head : Option ℕ) → ((place : ℕ) (m : ℕ) → m < n → IsChain condemned_link old (suc m) (Some place) → slice_get new place ≡ slice_get old place) → IsChain condemned_link old n head → condemned_from new n head ≡ condemned_from old n head
  alike old new zero head same p = refl
  alike old new (suc n) None same p = let here = p.2 in absurd (cc)
  alike old new (suc n) (Some place) same p =
      let at : p.0 ≡ place = sym (same_Some place p.0 p.2) in
      let held = condemned_there (slice_get old place) p.1 (subst (λ k. link_at condemned_link old k ≡ Some p.1) at p.3) in
      let kept = same place n (omega arith) p in
      condemned_from-head new n place held.serial held.value p.1 (kept ∙ held.is)
      ∙ ap (λ pairs. (key_with place held.serial, held.value) ∷ pairs) (alike old new n p.1 (λ other m below q. same other m (omega arith) q) p.4)
      ∙ sym (condemned_from-head old n place held.serial held.value p.1 held.is)

  -- a write at a place that is not on the chain keeps the pairs
  pub condemned_from-set : (slots : List (Slot T)) (at : ℕ) (slot : Slot T) (n : ℕ) (head : Option ℕ) → ((m : ℕ) → m < n → IsChain condemned_link slots (suc m) (Some at) → ⊥) → IsChain condemned_link slots n head → condemned_from (set slots at slot) n head ≡ condemned_from slots n head
  condemned_from-set slots at slot n head off p =
      alike slots (set slots at slot) n head
      (λ place m below q. slice_get-set_other slots at place slot (λ same. off m below (subst (λ k. IsChain condemned_link slots (suc m) (Some k)) same q))) p

  -- one more slot at the end keeps the pairs
  pub condemned_from-push : (slots : List (Slot T)) (slot : Slot T) (n : ℕ) (head : Option ℕ) → IsChain condemned_link slots n head → condemned_from (slots ++ slot ∷ []) n head ≡ condemned_from slots n head
  condemned_from-push slots slot n head p =
      alike slots (slots ++ slot ∷ []) n head
      (λ place m below q.
      let at : q.0 ≡ place = sym (same_Some place q.0 q.2) in
      let held = condemned_there (slice_get slots place) q.1 (subst (λ k. link_at condemned_link slots k ≡ Some q.1) at q.3) in
      slice_get-append_left slots (slot ∷ []) place (slice_get_within slots place _ held.is)) p
