-- What reading the line of a class finds.
use Rattle.std.proofs.Common.{◌≡◌, ◌∙◌, ℕ, List, [], ◌∷◌, ◌++◌, IsTrue, refl, sym, ap, arith, append_assoc}
use Rattle.std.specs.Prelude.{codes}
use Rattle.std.specs.List.{flat_map}
use Rattle.std.specs.Str.{is_utf8}
use Rattle.std.proofs.lemmas.List.{append_cancel_left}
use Rattle.c_core.specs.declared.code.CClass.{CClass}
use Rattle.c_core.specs.Text.{attribute_text, byte_text, class_line, method_text, trait_text}
use Rattle.c_core.specs.WellFormed.{Declared, is_identifier, spelled_class, spelled_trait}
use Rattle.c_text.specs.Braces.{next_list}
use Rattle.c_text.specs.Classes.{class_lists, slot_behind}
use Rattle.c_text.specs.Words.{EndsArgument, HasNo, IsCut}
use Rattle.c_text.proofs.Bytes.{HasNo-append, HasNo-identifier, and_true, comma_stops, quote_stops, same_front}
use Rattle.c_text.proofs.ClassLines.{attribute_is, class_is, class_parts, quoted_closed, trait_is}

-- an attribute from behind its first quote on
pub attribute_inside : (a : Declared) (rest text inside : List ℕ) → attribute_text a ++ rest ≡ text → text ≡ codes "{\"" ++ inside → flat_map byte_text a.0 ++ 34 ∷ slot_behind a.1 rest ≡ inside
attribute_inside a rest text inside e f = append_cancel_left (codes "{\"") _ _ (sym (attribute_is a rest) ∙ e ∙ f)

-- the name of a trait, and what stands behind it
pub trait_inside : (t : List ℕ × List (List ℕ)) (rest text inside word after : List ℕ) → IsTrue (spelled_trait t) → trait_text t ++ rest ≡ text → text ≡ codes "{CPyType_" ++ inside → ((front back : List ℕ) → HasNo 44 front → EndsArgument back → front ++ back ≡ inside → (word ≡ front) × (after ≡ back)) → (word ≡ t.0) × (after ≡ next_list method_text t.1 (125 ∷ rest))
trait_inside t rest text inside word after h e f finds =
    finds t.0 (next_list method_text t.1 (125 ∷ rest)) (HasNo-identifier 44 t.0 (omega arith) comma_stops (and_true (is_identifier t.0) _ h).0) refl
    (append_cancel_left (codes "{CPyType_") _ _ (sym (trait_is t rest) ∙ e ∙ f))

pub name_utf8 : (k : CClass) → IsTrue (spelled_class k) → IsTrue (is_utf8 k.name)
name_utf8 k h = (and_true (is_utf8 k.name) _ (class_parts k h).name).0

-- a class from behind its first quote on
pub class_inside : (k : CClass) (piece text front inside : List ℕ) → IsTrue (spelled_class k) → class_line k ≡ piece → piece ≡ codes "CPyClass CPyType_" ++ text → IsCut 34 front inside text → flat_map byte_text k.name ++ 34 ∷ class_lists k ≡ inside
class_inside k piece text front inside h e f cut =
    let whole = append_cancel_left (codes "CPyClass CPyType_") _ _ (sym (class_is k) ∙ e ∙ f) in
    (same_front 34 (k.name ++ codes " = {") front (flat_map byte_text k.name ++ 34 ∷ class_lists k) inside (HasNo-append 34 k.name (codes " = {") (HasNo-identifier 34 k.name (omega arith) quote_stops (class_parts k h).name) refl) cut.plain
    (append_assoc k.name (codes " = {") (34 ∷ (flat_map byte_text k.name ++ 34 ∷ class_lists k)) ∙ ap (λ t. k.name ++ (codes " = {" ++ t)) (sym (quoted_closed k.name (class_lists k))) ∙ whole ∙ sym cut.whole)).1
