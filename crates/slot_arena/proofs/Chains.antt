-- Slots that are linked: how a chain stands a write, a push, and a slot more or less at its head.
use Rattle.std.proofs.Common.{◌≡◌, ◌≢◌, ℕ, zero, suc, ◌+◌, ◌<◌, List, [], ◌∷◌, ◌++◌, length, set, true, cond, Option, Some, None, is_some, slice_get, option_and_then, refl, ap, subst, ◌∙◌, arith}
use Rattle.std.proofs.lemmas.Option.{slice_get_within, get_or_from_slice_get}
use Rattle.std.proofs.lemmas.List.Sums.{sum_by-set, sum_by_push, count_by-le-length}
use Rattle.std.proofs.lemmas.List.{length-set}
use Rattle.slot_arena.specs.declared.slot.Slot.{Slot}
use Rattle.slot_arena.specs.Layout.{link_at, link_count, IsChain}
use Rattle.slot_arena.proofs.Lists.{slice_get-set_same, slice_get-set_other, slice_get-append_left}

module _ {T : Type 0} (link : Slot T → Option (Option ℕ)) where
  -- only a place inside has a link
  pub link_at_within : (slots : List (Slot T)) (place : ℕ) (next : Option ℕ) → link_at link slots place ≡ Some next → place < length slots
  link_at_within [] place next found = absurd (cc)
  link_at_within (slot ∷ rest) zero next found = omega arith
  link_at_within (slot ∷ rest) (suc place) next found = omega (arith, link_at_within rest place next found)

  -- a place starts one chain at most
  pub IsChain-count_unique : (slots : List (Slot T)) (m n : ℕ) (head : Option ℕ) → IsChain link slots m head → IsChain link slots n head → m ≡ n
  IsChain-count_unique slots zero zero head p q = refl
  IsChain-count_unique slots zero (suc n) head p q = let there = q.2 in absurd (cc)
  IsChain-count_unique slots (suc m) zero head p q = let here = p.2 in absurd (cc)
  IsChain-count_unique slots (suc m) (suc n) head p q =
      let here = p.2 in
      let there = q.2 in
      let first = p.3 in
      let second = q.3 in
      let place : q.0 ≡ p.0 = cc in
      let next : q.1 ≡ p.1 = cc in
      ap suc (IsChain-count_unique slots m n p.1 p.4 (subst (IsChain link slots n) next q.4))

  -- a write at a place that is not on the chain keeps the chain
  pub IsChain-set : (slots : List (Slot T)) (at : ℕ) (slot : Slot T) (n : ℕ) (head : Option ℕ) → ((m : ℕ) → m < n → IsChain link slots (suc m) (Some at) → ⊥) → IsChain link slots n head → IsChain link (set slots at slot) n head
  IsChain-set slots at slot zero head off p = p
  IsChain-set slots at slot (suc n) head off p =
      let other : p.0 ≢ at = λ same. off n (omega arith) (subst (IsChain link slots (suc n)) (p.2 ∙ ap Some same) p) in
      let kept = ap (option_and_then link) (slice_get-set_other slots at p.0 slot other) in
      (p.0, p.1, p.2, kept ∙ p.3, IsChain-set slots at slot n p.1 (λ m below. off m (omega arith)) p.4)

  -- one more slot at the end keeps the chain
  pub IsChain-push : (slots : List (Slot T)) (slot : Slot T) (n : ℕ) (head : Option ℕ) → IsChain link slots n head → IsChain link (slots ++ slot ∷ []) n head
  IsChain-push slots slot zero head p = p
  IsChain-push slots slot (suc n) head p =
      let kept = ap (option_and_then link) (slice_get-append_left slots (slot ∷ []) p.0 (link_at_within slots p.0 p.1 p.3)) in
      (p.0, p.1, p.2, kept ∙ p.3, IsChain-push slots slot n p.1 p.4)

  -- a place without a link is on no chain
  pub no_link_is_off : (slots : List (Slot T)) (at : ℕ) → link_at link slots at ≡ None → (m : ℕ) → IsChain link slots (suc m) (Some at) → ⊥
  no_link_is_off slots at none m p =
      let here = p.2 in
      let found = p.3 in
      let same : p.0 ≡ at = cc in
      cc

  -- the head of a chain is not on the rest of it
  pub head_is_off : (slots : List (Slot T)) (n at : ℕ) → IsChain link slots (suc n) (Some at) → (m : ℕ) → m < n → IsChain link slots (suc m) (Some at) → ⊥
  head_is_off slots n at p m below q = omega (arith, IsChain-count_unique slots (suc m) (suc n) (Some at) q p)

  -- how many links there are after a write
  pub link_count-set : (slots : List (Slot T)) (at : ℕ) (old new : Slot T) → slice_get slots at ≡ Some old → link_count link (set slots at new) + cond (is_some (link old)) 1 0 ≡ link_count link slots + cond (is_some (link new)) 1 0
  link_count-set slots at old new found =
      rw (get_or_from_slice_get slots at old old found) at (sum_by-set (λ slot. cond (is_some (link slot)) 1 0) slots at new old (slice_get_within slots at old found))

  pub link_count-push : (slots : List (Slot T)) (new : Slot T) → link_count link (slots ++ new ∷ []) ≡ link_count link slots + cond (is_some (link new)) 1 0
  link_count-push slots new = sum_by_push (λ slot. cond (is_some (link slot)) 1 0) slots new

  -- a slot without a link is not counted
  pub link_count-lt-length : (slots : List (Slot T)) (at : ℕ) (old new : Slot T) → slice_get slots at ≡ Some old → link old ≡ None → is_some (link new) ≡ true → link_count link slots < length slots
  link_count-lt-length slots at old new found none some =
      let counted = rw (none, some) at (link_count-set slots at old new found) in
      let bound = count_by-le-length (λ slot. is_some (link slot)) (set slots at new) in
      omega (arith, length-set slots at new)

  -- the chain without its head
  pub popped : (slots : List (Slot T)) (n at : ℕ) (next : Option ℕ) → link_at link slots at ≡ Some next → IsChain link slots (suc n) (Some at) → IsChain link slots n next
  popped slots n at next found p =
      let here = p.2 in
      let first = p.3 in
      let place : p.0 ≡ at = cc in
      let same : p.1 ≡ next = cc in
      subst (IsChain link slots n) same p.4

  -- the head of a chain goes, and its slot is written
  pub IsChain-pop : (slots : List (Slot T)) (n at : ℕ) (next : Option ℕ) (slot : Slot T) → link_at link slots at ≡ Some next → IsChain link slots (suc n) (Some at) → IsChain link (set slots at slot) n next
  IsChain-pop slots n at next slot found p =
      IsChain-set slots at slot n next (head_is_off slots n at p) (popped slots n at next found p)

  -- a slot without a link is written and becomes the head of the chain
  pub IsChain-cons : (slots : List (Slot T)) (n at : ℕ) (head : Option ℕ) (slot : Slot T) → at < length slots → link_at link slots at ≡ None → link slot ≡ Some head → IsChain link slots n head → IsChain link (set slots at slot) (suc n) (Some at)
  IsChain-cons slots n at head slot within off links p =
      (at, head, refl, ap (option_and_then link) (slice_get-set_same slots at slot within) ∙ links, IsChain-set slots at slot n head (λ m below. no_link_is_off slots at off m) p)

  -- a chain that begins nowhere has no slots
  pub IsChain-none : (slots : List (Slot T)) (n : ℕ) → IsChain link slots n None → n ≡ 0
  IsChain-none slots zero p = refl
  IsChain-none slots (suc n) p = let here = p.2 in absurd (cc)

  -- a chain begins inside the slots
  pub IsChain-within : (slots : List (Slot T)) (n at : ℕ) → IsChain link slots n (Some at) → at < length slots
  IsChain-within slots zero at p = absurd (cc)
  IsChain-within slots (suc n) at p =
      let here = p.2 in
      let same : p.0 ≡ at = cc in
      link_at_within slots at p.1 (subst (λ k. link_at link slots k ≡ Some p.1) same p.3)
