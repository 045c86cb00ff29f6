-- What holds of the members that the events of a class make.
use Rattle.std.proofs.Common.{◌≡◌, ℕ, zero, suc, ◌+◌, ◌≤◌, Bool, true, false, not, ◌&&◌, ◌||◌, cond, List, [], ◌∷◌, ◌++◌, map, length, Option, Some, None, refl, ap, sym, ◌∙◌, subst, arith, if◌then◌else◌}
use Rattle.std.proofs.lemmas.Bool.{and_parts, or_parts}
use Rattle.std.proofs.lemmas.List.{append_assoc, length-append}
use Rattle.std.proofs.lemmas.Option.{same_Some}
use Rattle.std.specs.Prelude.{slice_get, is_none, nat_lt}
use Rattle.std.specs.Option.{option_map}
use Rattle.std.specs.List.{list_any, position_from, AllByRecursion}
use Rattle.std.specs.Map.{lookup}
use Rattle.std.specs.Str.{bytes_eq}
use Rattle.py_typed.specs.Sorts.{Sort}
use Rattle.py_check_context.specs.declared.scope.Meaning.{Meaning}
use Rattle.py_check_context.specs.Members.{Member, attribute, untyped, unknown, method}
use Rattle.py_check_members.specs.Deeds.{is_builtin_name, Deed, defines, declares, annotates, gives, sets, Event}
use Rattle.py_check_members.specs.Members.{is_of_body_by, is_of_body, first_place, Places, places, stands_before, deed_at, is_definition, is_annotation, Above, declares_by, is_unknown_by, attribute_of, member_by, made_by, made, made_from, each_once}
use Rattle.py_check_members_laws.proofs.Rows.{clash, none_more, zero_more, one_behind, both, at_back, at_seam, same_text, text_is_itself, swapped, first_is_there, new_hold, once_first}

no_method : (o : Option Sort) (f : ℕ) → attribute_of o ≡ method f → ⊥
no_method None f h = absurd (cc)
no_method (Some t) f h = absurd (cc)

method_same : (f g : ℕ) → method f ≡ method g → defines f ≡ defines g
method_same f g q = cc

-- where names mean this in the module, and this in `__init__`
module _ (meanings inner : List ℕ → Meaning) (class : ℕ) where
  pub method_defined : (d : Deed) (f : ℕ) → member_by meanings inner class d ≡ method f → d ≡ defines f
  method_defined (defines g) f h = method_same g f h
  method_defined (declares mark) f h = absurd (no_method _ f h)
  method_defined (annotates mark) f h = absurd (no_method _ f h)
  method_defined (gives x) f h = absurd (no_method _ f h)
  method_defined sets f h = absurd (cc)

  module _ (above : List ℕ → Above) (events : List Event) where
    -- of what each event makes
    module _ (P : List ℕ × Member → Type 0) where
      pub record Makes (i : ℕ) (v : Event) : Type 0 where
        pub declared : declares_by events (places events v.name) (above v.name) i v.name v.deed ≡ true → P (v.name, member_by meanings inner class v.deed)
        pub unknown_set : is_unknown_by (places events v.name) (above v.name) i v.deed ≡ true → P (v.name, unknown v.place)

      one_made : (i : ℕ) (v : Event) → Makes i v → AllByRecursion P (made meanings inner class above events i v)
      one_made i v m =
          by (declares_by events (places events v.name) (above v.name) i v.name v.deed) (is_unknown_by (places events v.name) (above v.name) i v.deed) m.declared m.unknown_set
        where
          by : (b c : Bool) → (b ≡ true → P (v.name, member_by meanings inner class v.deed)) → (c ≡ true → P (v.name, unknown v.place)) → AllByRecursion P (if b then (v.name, member_by meanings inner class v.deed) ∷ [] else (if c then (v.name, unknown v.place) ∷ [] else []))
          by true c h k = (h refl, tt)
          by false true h k = (k refl, tt)
          by false false h k = tt

      all_made : (front vs : List Event) → events ≡ front ++ vs → ((i : ℕ) (v : Event) → slice_get events i ≡ Some v → Makes i v) → AllByRecursion P (made_from meanings inner class above events (length front) vs)
      all_made front [] e h = tt
      all_made front (v ∷ vs) e h =
          let there : slice_get events (length front) ≡ Some v = ap (λ l. slice_get l (length front)) e ∙ at_seam front v vs in
          let rest = all_made (front ++ v ∷ []) vs (e ∙ sym (append_assoc front (v ∷ []) vs)) h in
          both P (made meanings inner class above events (length front) v) (made_from meanings inner class above events (length front + 1) vs) (one_made (length front) v (h (length front) v there))
          (subst (λ n. AllByRecursion P (made_from meanings inner class above events n vs)) (length-append front (v ∷ [])) rest)

      -- THE MEMBERS of a class are what each of its events makes
      pub own_hold : ((i : ℕ) (v : Event) → slice_get events i ≡ Some v → Makes i v) → AllByRecursion P (each_once (made_from meanings inner class above events 0 events))
      own_hold h = new_hold P [] (made_from meanings inner class above events 0 events) tt (all_made [] events refl h)

    -- ---- the first def of a name

    -- the def of this name and number stands behind these, of which none takes the name
    pub record IsFirst (name : List ℕ) (f : ℕ) : Type 0 where
      pub front : List Event
      pub event : Event
      pub rest : List Event
      pub whole : events ≡ front ++ event ∷ rest
      pub named : event.name ≡ name
      pub deed : event.deed ≡ defines f
      pub none : list_any (λ w. bytes_eq w.name name && is_of_body w) front ≡ false
      pub plain : is_builtin_name name ≡ false

    and_lost : (a b c : Bool) → c ≡ false → (a && b && c) ≡ false
    and_lost true true c h = h
    and_lost true false c h = refl
    and_lost false b c h = refl

    module _ (name : List ℕ) (f : ℕ) (first : IsFirst name f) where
      abbrev i : ℕ
      i = length first.front

      is_it : (bytes_eq first.event.name name && is_of_body first.event) ≡ true
      is_it =
          ap (λ b. b && is_of_body first.event) (ap (λ x. bytes_eq x name) first.named ∙ text_is_itself name)
          ∙ ap (is_of_body_by first.event.name) first.deed ∙ ap not (ap is_builtin_name first.named ∙ first.plain)

      body_place : first_place events name is_of_body ≡ Some i
      body_place =
          ap (position_from (λ (v : Event). bytes_eq v.name name && is_of_body v) 0) first.whole
          ∙ first_is_there (λ (v : Event). bytes_eq v.name name && is_of_body v) 0 first.front first.event first.rest first.none is_it
          ∙ ap Some (none_more i)

      there : slice_get events i ≡ Some first.event
      there = ap (λ l. slice_get l i) first.whole ∙ at_seam first.front first.event first.rest

      defined_there : is_definition (deed_at events (Some i)) ≡ true
      defined_there = ap (λ o. is_definition (option_map (λ (v : Event). v.deed) o)) there ∙ ap (λ d. is_definition (Some d)) first.deed

      -- what else is done with the name declares nothing
      silent : (d : Deed) (p : Places) (up : Above) (k : ℕ) → p.body ≡ Some i → is_of_body_by name d ≡ false → (declares_by events p up k name d ≡ false) × (is_unknown_by p up k d ≡ false)
      silent (defines g) p up k e h = clash (not (is_builtin_name name)) (ap not first.plain) h
      silent (declares mark) p up k e h = absurd (cc)
      silent (annotates mark) p up k e h = (
        and_lost (not (stands_before k p.body)) (not (stands_before k p.init)) (not (is_definition (deed_at events p.body))) (ap not (ap (λ o. is_definition (deed_at events o)) e ∙ defined_there)),
        refl,
      )
      silent (gives x) p up k e h =
          (ap (λ o. is_none o && not (is_annotation (deed_at events p.init)) && not (stands_before k p.gift) && not up.has_attribute) e, refl)
      silent sets p up k e h = (refl, ap (λ o. is_none o && is_none p.gift && not (stands_before k p.init) && not up.has_member) e)

      none_made : (k : ℕ) (w : Event) → w.name ≡ name → is_of_body w ≡ false → made meanings inner class above events k w ≡ []
      none_made k w e h =
          let q : is_of_body_by name w.deed ≡ false = ap (λ x. is_of_body_by x w.deed) (sym e) ∙ h in
          let both_lost = silent w.deed (places events name) (above name) k body_place q in
          let row = λ (x : List ℕ). if declares_by events (places events x) (above x) k x w.deed then (w.name, member_by meanings inner class w.deed) ∷ [] else (if is_unknown_by (places events x) (above x) k w.deed then (w.name, unknown w.place) ∷ [] else []) in
          ap row e
          ∙ ap (λ b. if b then (w.name, member_by meanings inner class w.deed) ∷ [] else (if is_unknown_by (places events name) (above name) k w.deed then (w.name, unknown w.place) ∷ [] else [])) both_lost.0
          ∙ ap (λ b. if b then (w.name, unknown w.place) ∷ [] else []) both_lost.1

      other_row : (b c : Bool) (x : List ℕ) (m u : Member) → bytes_eq name x ≡ false → lookup (bytes_eq name) (if b then (x, m) ∷ [] else (if c then (x, u) ∷ [] else [])) ≡ None
      other_row true c x m u h = ap (λ z. cond z (Some m) None) h
      other_row false true x m u h = ap (λ z. cond z (Some u) None) h
      other_row false false x m u h = refl

      not_found : (k : ℕ) (w : Event) → (bytes_eq w.name name && is_of_body w) ≡ false → lookup (bytes_eq name) (made meanings inner class above events k w) ≡ None
      not_found k w h = by (bytes_eq w.name name) refl h
        where
          by : (b : Bool) → bytes_eq w.name name ≡ b → (b && is_of_body w) ≡ false → lookup (bytes_eq name) (made meanings inner class above events k w) ≡ None
          by true e q = ap (lookup (bytes_eq name)) (none_made k w (same_text w.name name e) q)
          by false e q =
              other_row (declares_by events (places events w.name) (above w.name) k w.name w.deed) (is_unknown_by (places events w.name) (above w.name) k w.deed) w.name (member_by meanings inner class w.deed) (unknown w.place) (swapped name w.name ∙ e)

      passed : (b : Bool) (x : Member) (one two three : Option Member) → cond b (Some x) one ≡ None → (one ≡ None → two ≡ three) → cond b (Some x) two ≡ three
      passed true x one two three h next = absurd (cc)
      passed false x one two three h next = next h

      behind_none : (xs ys : List (List ℕ × Member)) → lookup (bytes_eq name) xs ≡ None → lookup (bytes_eq name) (xs ++ ys) ≡ lookup (bytes_eq name) ys
      behind_none [] ys h = refl
      behind_none (p ∷ xs) ys h =
          passed (bytes_eq name p.0) p.1 (lookup (bytes_eq name) xs) (lookup (bytes_eq name) (xs ++ ys)) (lookup (bytes_eq name) ys) h (λ q. behind_none xs ys q)

      found_behind : (k : ℕ) (vs ws : List Event) → list_any (λ w. bytes_eq w.name name && is_of_body w) vs ≡ false → lookup (bytes_eq name) (made_from meanings inner class above events k (vs ++ ws)) ≡ lookup (bytes_eq name) (made_from meanings inner class above events (k + length vs) ws)
      found_behind k [] ws h = ap (λ n. lookup (bytes_eq name) (made_from meanings inner class above events n ws)) (sym (zero_more k))
      found_behind k (v ∷ vs) ws h =
          let p = or_parts (bytes_eq v.name name && is_of_body v) (list_any (λ (w : Event). bytes_eq w.name name && is_of_body w) vs) h in
          behind_none (made meanings inner class above events k v) (made_from meanings inner class above events (k + 1) (vs ++ ws)) (not_found k v p.0) ∙ found_behind (k + 1) vs ws p.1
          ∙ ap (λ n. lookup (bytes_eq name) (made_from meanings inner class above events n ws)) (one_behind k (length vs))

      not_less : (a : ℕ) → nat_lt a a ≡ false
      not_less a = search arith

      itself : declares_by events (places events first.event.name) (above first.event.name) i first.event.name first.event.deed ≡ true
      itself =
          ap (λ x. declares_by events (places events x) (above x) i x first.event.deed) first.named ∙ ap (declares_by events (places events name) (above name) i name) first.deed
          ∙ ap (λ b. not b && not (stands_before i (first_place events name is_of_body))) first.plain ∙ ap (λ o. not (stands_before i o)) body_place ∙ ap not (not_less i)

      found_itself : lookup (bytes_eq name) (made_from meanings inner class above events i (first.event ∷ first.rest)) ≡ Some (method f)
      found_itself =
          let row = made_from meanings inner class above events (i + 1) first.rest in
          ap (λ b. lookup (bytes_eq name) ((if b then (first.event.name, member_by meanings inner class first.event.deed) ∷ [] else (if is_unknown_by (places events first.event.name) (above first.event.name) (length first.front) first.event.deed then (first.event.name, unknown first.event.place) ∷ [] else [])) ++ row)) itself
          ∙ ap (λ b. cond b (Some (member_by meanings inner class first.event.deed)) (lookup (bytes_eq name) row)) (ap (bytes_eq name) first.named ∙ text_is_itself name)
          ∙ ap (λ d. Some (member_by meanings inner class d)) first.deed

      -- THE FIRST def of a name is the class's member of it
      pub first_is_member : lookup (bytes_eq name) (each_once (made_from meanings inner class above events 0 events)) ≡ Some (method f)
      first_is_member =
          once_first name (made_from meanings inner class above events 0 events) (method f)
          (ap (λ l. lookup (bytes_eq name) (made_from meanings inner class above events 0 l)) first.whole ∙ found_behind 0 first.front (first.event ∷ first.rest) first.none
          ∙ ap (λ n. lookup (bytes_eq name) (made_from meanings inner class above events n (first.event ∷ first.rest))) (none_more i) ∙ found_itself)
