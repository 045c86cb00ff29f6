-- The lines of classes: by their parts, without a line feed inside, and no line of another sort.
use Rattle.std.proofs.Common.{◌≡◌, ◌≢◌, ◌∙◌, ℕ, List, [], ◌∷◌, ◌++◌, take, IsTrue, refl, sym, ap, arith, append_assoc}
use Rattle.std.specs.Prelude.{codes, map}
use Rattle.std.specs.List.{flat_map, list_all}
use Rattle.std.specs.Str.{is_utf8}
use Rattle.c_core.specs.declared.code.CClass.{CClass}
use Rattle.c_core.specs.declared.code.CFunc.{CFunc}
use Rattle.c_core.specs.declared.code.Kind.{Kind}
use Rattle.c_core.specs.declared.code.Kind.TheVariants.{Tagged, Int64, Char, Object}
use Rattle.c_core.specs.Text.{attribute_text, braced, byte_text, class_line, class_text, comma, function_head, global_line, joined, kind_text, method_text, methods_text, module_head, parameters_text, quoted, slot_text, trait_text, type_text}
use Rattle.c_core.specs.WellFormed.{Declared, is_identifier, spelled_class, spelled_trait}
use Rattle.c_text.specs.Braces.{closed_text, next_list}
use Rattle.c_text.specs.Classes.{class_lists, slot_behind}
use Rattle.c_text.specs.Words.{HasNo}
use Rattle.c_text.proofs.Items.{braced_closed, braced_plain, next_list_is}
use Rattle.c_text.proofs.Bytes.{HasNo-append, HasNo-identifier, and_true, differ, line_feed_stops}
use Rattle.c_text.proofs.LineTexts.{bytes_plain}

-- ---- what a class and its parts are made of

pub quoted_closed : (t rest : List ℕ) → quoted t ++ rest ≡ 34 ∷ (flat_map byte_text t ++ 34 ∷ rest)
quoted_closed t rest = ap (λ x. 34 ∷ x) (append_assoc (flat_map byte_text t) (34 ∷ []) rest)

pub attribute_is : (a : Declared) (rest : List ℕ) → attribute_text a ++ rest ≡ codes "{\"" ++ (flat_map byte_text a.0 ++ 34 ∷ slot_behind a.1 rest)
attribute_is a rest =
    braced_closed (quoted a.0 ∷ slot_text a.1 ∷ []) rest
    ∙ ap (λ t. 123 ∷ t) (append_assoc (quoted a.0) (comma ++ slot_text a.1) (125 ∷ rest) ∙ quoted_closed a.0 (slot_behind a.1 rest))

pub trait_is : (t : List ℕ × List (List ℕ)) (rest : List ℕ) → trait_text t ++ rest ≡ codes "{CPyType_" ++ (t.0 ++ next_list method_text t.1 (125 ∷ rest))
trait_is t rest =
    braced_closed (type_text t.0 ∷ methods_text t.1 ∷ []) rest
    ∙ ap (λ x. codes "{CPyType_" ++ x) (append_assoc t.0 (comma ++ methods_text t.1) (125 ∷ rest) ∙ ap (λ x. t.0 ++ x) (next_list_is method_text t.1 (125 ∷ rest)))

-- the lists of a class, as they are written
pub lists_written : (k : CClass) → (comma ++ braced (map attribute_text k.attrs)) ++ ((comma ++ braced (map method_text k.methods)) ++ ((comma ++ braced (map trait_text k.traits)) ++ codes "};")) ≡ class_lists k
lists_written k =
    ap (λ t. (comma ++ braced (map attribute_text k.attrs)) ++ ((comma ++ braced (map method_text k.methods)) ++ t)) (next_list_is trait_text k.traits (codes "};"))
    ∙ ap (λ t. (comma ++ braced (map attribute_text k.attrs)) ++ t) (next_list_is method_text k.methods (next_list trait_text k.traits (codes "};")))
    ∙ next_list_is attribute_text k.attrs (next_list method_text k.methods (next_list trait_text k.traits (codes "};")))

pub class_is : (k : CClass) → class_line k ≡ codes "CPyClass CPyType_" ++ (k.name ++ (codes " = {" ++ (quoted k.name ++ class_lists k)))
class_is k =
    let attrs = braced (map attribute_text k.attrs) in
    let methods = methods_text k.methods in
    let traits = braced (map trait_text k.traits) in
    let q = quoted k.name in
    let end = codes "};" in
    ap (λ t. codes "CPyClass CPyType_" ++ (k.name ++ (codes " = " ++ t))) (braced_closed (q ∷ attrs ∷ methods ∷ traits ∷ []) (codes ";")
    ∙ ap (λ t. 123 ∷ t) (append_assoc q (comma ++ (attrs ++ (comma ++ (methods ++ (comma ++ traits))))) end
    ∙ ap (λ t. q ++ t) (ap (λ t. comma ++ t) (append_assoc attrs (comma ++ (methods ++ (comma ++ traits))) end
    ∙ ap (λ t. attrs ++ (comma ++ t)) (append_assoc methods (comma ++ traits) end)) ∙ lists_written k)))

pub record ClassParts (k : CClass) : Type 0 where
  pub name : IsTrue (is_identifier k.name)
  pub attrs : IsTrue (list_all (λ a. is_utf8 a.0) k.attrs)
  pub methods : IsTrue (list_all is_identifier k.methods)
  pub traits : IsTrue (list_all spelled_trait k.traits)

pub class_parts : (k : CClass) → IsTrue (spelled_class k) → ClassParts k
class_parts k h =
    let name = and_true (is_identifier k.name) _ h in
    let attrs = and_true (list_all (λ a. is_utf8 a.0) k.attrs) _ name.1 in
    let methods = and_true (list_all is_identifier k.methods) _ attrs.1 in
    record { name = name.0; attrs = attrs.0; methods = methods.0; traits = methods.1 }

-- ---- no line feed inside

slot_plain : (kind : Kind) → HasNo 10 (slot_text kind)
slot_plain Tagged = refl
slot_plain Int64 = refl
slot_plain Char = refl
slot_plain Object = refl

quoted_plain : (t : List ℕ) → HasNo 10 (quoted t)
quoted_plain t = HasNo-append 10 (codes "\"") (flat_map byte_text t ++ codes "\"") refl (HasNo-append 10 (flat_map byte_text t) (codes "\"") (bytes_plain t) refl)

attribute_plain : (a : Declared) → IsTrue (is_utf8 a.0) → HasNo 10 (attribute_text a)
attribute_plain a h =
    HasNo-append 10 (codes "{") ((quoted a.0 ++ (comma ++ slot_text a.1)) ++ codes "}") refl
    (HasNo-append 10 (quoted a.0 ++ (comma ++ slot_text a.1)) (codes "}") (HasNo-append 10 (quoted a.0) (comma ++ slot_text a.1) (quoted_plain a.0) (HasNo-append 10 comma (slot_text a.1) refl (slot_plain a.1))) refl)

method_plain : (name : List ℕ) → IsTrue (is_identifier name) → HasNo 10 (method_text name)
method_plain name h = HasNo-append 10 (codes "CPyDef_") name refl (HasNo-identifier 10 name (omega arith) line_feed_stops h)

trait_plain : (t : List ℕ × List (List ℕ)) → IsTrue (spelled_trait t) → HasNo 10 (trait_text t)
trait_plain t h =
    let parts = and_true (is_identifier t.0) _ h in
    HasNo-append 10 (codes "{") ((type_text t.0 ++ (comma ++ methods_text t.1)) ++ codes "}") refl
    (HasNo-append 10 (type_text t.0 ++ (comma ++ methods_text t.1)) (codes "}") (HasNo-append 10 (type_text t.0) (comma ++ methods_text t.1) (HasNo-append 10 (codes "CPyType_") t.0 refl (HasNo-identifier 10 t.0 (omega arith) line_feed_stops parts.0)) (HasNo-append 10 comma (methods_text t.1) refl (braced_plain method_text is_identifier method_plain t.1 parts.1))) refl)

pub class_plain : (k : CClass) → IsTrue (spelled_class k) → HasNo 10 (class_line k)
class_plain k h =
    let p = class_parts k h in
    let attrs = braced (map attribute_text k.attrs) in
    let methods = methods_text k.methods in
    let traits = braced (map trait_text k.traits) in
    let inside = quoted k.name ++ (comma ++ (attrs ++ (comma ++ (methods ++ (comma ++ traits))))) in
    HasNo-append 10 (codes "CPyClass CPyType_") (k.name ++ (codes " = " ++ (class_text k ++ codes ";"))) refl
    (HasNo-append 10 k.name (codes " = " ++ (class_text k ++ codes ";")) (HasNo-identifier 10 k.name (omega arith) line_feed_stops p.name)
    (HasNo-append 10 (codes " = ") (class_text k ++ codes ";") refl (HasNo-append 10 (class_text k) (codes ";") (HasNo-append 10 (codes "{") (inside ++ codes "}") refl (HasNo-append 10 inside (codes "}")
    (HasNo-append 10 (quoted k.name) (comma ++ (attrs ++ (comma ++ (methods ++ (comma ++ traits))))) (quoted_plain k.name)
    (HasNo-append 10 comma (attrs ++ (comma ++ (methods ++ (comma ++ traits)))) refl (HasNo-append 10 attrs (comma ++ (methods ++ (comma ++ traits))) (braced_plain attribute_text (λ a. is_utf8 a.0) attribute_plain k.attrs p.attrs)
    (HasNo-append 10 comma (methods ++ (comma ++ traits)) refl (HasNo-append 10 methods (comma ++ traits) (braced_plain method_text is_identifier method_plain k.methods p.methods)
    (HasNo-append 10 comma traits refl (braced_plain trait_text spelled_trait trait_plain k.traits p.traits))))))) refl)) refl)))

-- ---- no line of a class is of another sort

class_not_kind : (kind : Kind) (rest r : List ℕ) → codes "CPyClass CPyType_" ++ rest ≢ kind_text kind ++ r
class_not_kind Tagged rest r e = differ e refl
class_not_kind Int64 rest r e = differ e refl
class_not_kind Char rest r e = differ e refl
class_not_kind Object rest r e = differ e refl

pub class_not_global : (k : CClass) (v : Declared) → class_line k ≢ global_line v
class_not_global k v e = class_not_kind v.1 (k.name ++ (codes " = " ++ (class_text k ++ codes ";"))) (codes "CPyStatic_" ++ (v.0 ++ codes ";")) e

pub class_not_module : (k : CClass) → class_line k ≢ module_head
class_not_module k e = differ e refl

pub class_not_head : (k : CClass) (g : CFunc) → class_line k ≢ function_head g
class_not_head k g e =
    class_not_kind g.ret (k.name ++ (codes " = " ++ (class_text k ++ codes ";"))) (codes "CPyDef_" ++ (g.name ++ (codes "(" ++ (parameters_text (take g.params g.vars) ++ codes ") {")))) e

-- ---- as they are written, word by word

pub attribute_written : {name kind : List ℕ} (a : Declared) (separator : List ℕ) → name ≡ a.0 → kind ≡ slot_text a.1 → (separator ++ codes "{") ++ (quoted name ++ (codes ", " ++ (kind ++ codes "}"))) ≡ separator ++ attribute_text a
attribute_written {name} {kind} a separator e f =
    append_assoc separator (codes "{") (quoted name ++ (codes ", " ++ (kind ++ codes "}")))
    ∙ ap (λ n. separator ++ (codes "{" ++ (quoted n ++ (codes ", " ++ (kind ++ codes "}"))))) e
    ∙ ap (λ k. separator ++ (codes "{" ++ (quoted a.0 ++ (codes ", " ++ (k ++ codes "}"))))) f
    ∙ ap (λ t. separator ++ (codes "{" ++ t)) (sym (append_assoc (quoted a.0) (comma ++ slot_text a.1) (codes "}")))

pub trait_written : {name : List ℕ} (t : List ℕ × List (List ℕ)) (separator : List ℕ) → name ≡ t.0 → (separator ++ (codes "{CPyType_" ++ name)) ++ ((comma ++ braced (map method_text t.1)) ++ codes "}") ≡ separator ++ trait_text t
trait_written {name} t separator e =
    append_assoc separator (codes "{CPyType_" ++ name) ((comma ++ methods_text t.1) ++ codes "}")
    ∙ ap (λ n. separator ++ (codes "{CPyType_" ++ (n ++ ((comma ++ methods_text t.1) ++ codes "}")))) e
    ∙ ap (λ x. separator ++ (codes "{CPyType_" ++ x)) (sym (append_assoc t.0 (comma ++ methods_text t.1) (codes "}")))

pub class_is_written : {name : List ℕ} (k : CClass) → name ≡ k.name → (codes "CPyClass CPyType_" ++ name) ++ ((codes " = {" ++ quoted name) ++ class_lists k) ≡ class_line k
class_is_written k e = ap (λ n. (codes "CPyClass CPyType_" ++ n) ++ ((codes " = {" ++ quoted n) ++ class_lists k)) e ∙ sym (class_is k)
