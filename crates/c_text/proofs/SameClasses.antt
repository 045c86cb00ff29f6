-- No two classes have one line.
use Rattle.std.proofs.Common.{◌≡◌, ◌≢◌, ◌∙◌, ℕ, List, [], ◌∷◌, ◌++◌, IsTrue, refl, sym, ap, arith}
use Rattle.std.specs.Prelude.{codes}
use Rattle.std.specs.List.{flat_map}
use Rattle.std.specs.Str.{is_utf8}
use Rattle.std.proofs.lemmas.List.{append_cancel_left}
use Rattle.c_core.specs.declared.code.CClass.{CClass}
use Rattle.c_core.specs.declared.code.Kind.{Kind}
use Rattle.c_core.specs.declared.code.Kind.TheVariants.{Tagged, Int64, Char, Object}
use Rattle.c_core.specs.Text.{attribute_text, byte_text, class_line, method_text, quoted, trait_text}
use Rattle.c_core.specs.WellFormed.{Declared, is_identifier, spelled_class, spelled_trait}
use Rattle.c_text.specs.Braces.{EndsItem, next_list}
use Rattle.c_text.specs.Classes.{class_lists, slot_behind}
use Rattle.c_text.proofs.Items.{Stands, same_list}
use Rattle.c_text.proofs.Bytes.{HasNo-identifier, and_true, comma_stops, differ, identifier_ends, same_front, same_item, space_stops}
use Rattle.c_text.proofs.ClassLines.{attribute_is, class_is, class_parts, quoted_closed, trait_is}
use Rattle.c_text.proofs.SameParts.{same_quoted}

-- ---- attributes

pub same_slot : (k l : Kind) (r s : List ℕ) → slot_behind k r ≡ slot_behind l s → (k ≡ l) × (r ≡ s)
same_slot Tagged Tagged r s e = (refl, append_cancel_left (codes ", CPyTagged}") r s e)
same_slot Int64 Int64 r s e = (refl, append_cancel_left (codes ", int64_t}") r s e)
same_slot Char Char r s e = (refl, append_cancel_left (codes ", char}") r s e)
same_slot Object Object r s e = (refl, append_cancel_left (codes ", PyObject *}") r s e)
same_slot Tagged Int64 r s e = absurd (differ e refl)
same_slot Tagged Char r s e = absurd (differ e refl)
same_slot Tagged Object r s e = absurd (differ e refl)
same_slot Int64 Tagged r s e = absurd (differ e refl)
same_slot Int64 Char r s e = absurd (differ e refl)
same_slot Int64 Object r s e = absurd (differ e refl)
same_slot Char Tagged r s e = absurd (differ e refl)
same_slot Char Int64 r s e = absurd (differ e refl)
same_slot Char Object r s e = absurd (differ e refl)
same_slot Object Tagged r s e = absurd (differ e refl)
same_slot Object Int64 r s e = absurd (differ e refl)
same_slot Object Char r s e = absurd (differ e refl)

pub no_slot : (text : List ℕ) → ((r : List ℕ) → text ≢ codes ", CPyTagged}" ++ r) → ((r : List ℕ) → text ≢ codes ", int64_t}" ++ r) → ((r : List ℕ) → text ≢ codes ", char}" ++ r) → ((r : List ℕ) → text ≢ codes ", PyObject *}" ++ r) → (kind : Kind) (rest : List ℕ) → slot_behind kind rest ≢ text
no_slot text t i c o Tagged rest e = t rest (sym e)
no_slot text t i c o Int64 rest e = i rest (sym e)
no_slot text t i c o Char rest e = c rest (sym e)
no_slot text t i c o Object rest e = o rest (sym e)

attributes_stand : Stands attribute_text (λ a. is_utf8 a.0)
attributes_stand = record {
  same = λ a b r s h k p q e.
      let f = append_cancel_left (codes "{\"") _ _ (sym (attribute_is a r) ∙ e ∙ attribute_is b s) in
      let name = same_quoted a.0 b.0 (slot_behind a.1 r) (slot_behind b.1 s) f in
      let slot = same_slot a.1 b.1 r s name.1 in
      (ap (λ n. (n, a.1)) name.0 ∙ ap (λ l. (b.0, l)) slot.0, slot.1);
  opens = λ a r s e. differ e refl;
}

-- ---- methods

methods_stand : Stands method_text is_identifier
methods_stand = record {
  same = λ a b r s h k p q e.
      same_item a b r s (identifier_ends a h) (identifier_ends b k) p q (append_cancel_left (codes "CPyDef_") _ _ e);
  opens = λ a r s e. differ e refl;
}

-- ---- traits

traits_stand : Stands trait_text spelled_trait
traits_stand = record {
  same = λ a b r s h k p q e.
      let one = and_true (is_identifier a.0) _ h in
      let two = and_true (is_identifier b.0) _ k in
      let f = append_cancel_left (codes "{CPyType_") _ _ (sym (trait_is a r) ∙ e ∙ trait_is b s) in
      let name = same_front 44 a.0 b.0 _ _ (HasNo-identifier 44 a.0 (omega arith) comma_stops one.0) (HasNo-identifier 44 b.0 (omega arith) comma_stops two.0) f in
      let methods = same_list method_text is_identifier methods_stand a.1 b.1 (125 ∷ r) (125 ∷ s) one.1 two.1 (ap (λ t. 44 ∷ t) name.1) in
      (ap (λ n. (n, a.1)) name.0 ∙ ap (λ l. (b.0, l)) methods.0, append_cancel_left (125 ∷ []) r s methods.1);
  opens = λ a r s e. differ e refl;
}

-- ---- classes

abbrev made : List ℕ → List Declared → List (List ℕ) → List (List ℕ × List (List ℕ)) → CClass
made name attrs methods traits = record { name = name; attrs = attrs; methods = methods; traits = traits }

pub same_made : (k l : CClass) → k.name ≡ l.name → k.attrs ≡ l.attrs → k.methods ≡ l.methods → k.traits ≡ l.traits → k ≡ l
same_made k l a b c d =
    ap (λ z. made z k.attrs k.methods k.traits) a ∙ ap (λ z. made l.name z k.methods k.traits) b ∙ ap (λ z. made l.name l.attrs z k.traits) c ∙ ap (made l.name l.attrs l.methods) d

pub same_class : (k l : CClass) → IsTrue (spelled_class k) → IsTrue (spelled_class l) → class_line k ≡ class_line l → k ≡ l
same_class k l h i e =
    let p = class_parts k h in
    let q = class_parts l i in
    let f = append_cancel_left (codes "CPyClass CPyType_") _ _ (sym (class_is k) ∙ e ∙ class_is l) in
    let name = same_front 32 k.name l.name _ _ (HasNo-identifier 32 k.name (omega arith) space_stops p.name) (HasNo-identifier 32 l.name (omega arith) space_stops q.name) f in
    let lists = (same_quoted k.name l.name (class_lists k) (class_lists l) (append_cancel_left (codes "= {\"") _ _ (ap (λ t. codes "= {" ++ t) (sym (quoted_closed k.name (class_lists k))) ∙ name.1 ∙ ap (λ t. codes "= {" ++ t) (quoted_closed l.name (class_lists l))))).1 in
    let attrs = same_list attribute_text (λ a. is_utf8 a.0) attributes_stand k.attrs l.attrs _ _ p.attrs q.attrs lists in
    let methods = same_list method_text is_identifier methods_stand k.methods l.methods _ _ p.methods q.methods attrs.1 in
    let traits = same_list trait_text spelled_trait traits_stand k.traits l.traits _ _ p.traits q.traits methods.1 in
    same_made k l name.0 attrs.0 methods.0 traits.0
