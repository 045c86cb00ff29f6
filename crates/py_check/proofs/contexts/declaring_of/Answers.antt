use Rattle.std.proofs.Common.{◌≡◌, ◌∙◌, ℕ, List, length, Option, None, Some, ap, sym, refl, slice_get}
use Rattle.std.proofs.lemmas.Option.{slice_get-map, slice_get_past, slice_get_read}
use Rattle.std.specs.Option.{option_map}
use Rattle.std.specs.Str.{bytes_eq}
use Rattle.indexmap.specs.IndexMap.{IndexMap, get}
use Rattle.py_syntax.specs.declared.token.Span.{Span}
use Rattle.py_check_context.specs.declared.members.ClassMembers.{ClassMembers}
use Rattle.py_check.specs.Module.{place_of, declaring_in}
use Rattle.py_check.specs.Parts.{members_of}
use Rattle.py_check.proofs.contexts.declaring_of.Goals as goal

-- at the number of a class
declared_at : {S : Type 0} (members : List ClassMembers) (declaring : List (IndexMap (List ℕ) Span S)) (class : Option ℕ) (n : ℕ) → class ≡ Some n → (found : Option (IndexMap (List ℕ) Span S)) → slice_get declaring n ≡ found → (name : List ℕ) → declaring_in (members_of members declaring) class name ≡ place_of (option_map (λ d. get bytes_eq d) found) name
declared_at members declaring class n is found at name =
    ap (λ (o : Option ℕ). declaring_in (members_of members declaring) o name) is
    ∙ ap (λ (o : Option (List ℕ → Option Span)). place_of o name) (slice_get-map (λ d. get bytes_eq d) declaring n ∙ ap (option_map (λ d. get bytes_eq d)) at)

pub returns-in-None-get : goal.returns-in-None-get
returns-in-None-get c = λ name.
    let e = c.args.module_context.now in
    c.requires name ∙ sym (declared_at e.members.now e.declaring.now c.args.class c.in-Some.n c.in-Some.is None (slice_get_past e.declaring.now c.in-Some.n c.in-None-get.ensures.lookup.3) name)

pub returns-in-Some-get : goal.returns-in-Some-get
returns-in-Some-get c = λ name.
    let e = c.args.module_context.now in
    let p = c.in-Some-get.places.now in
    let at : slice_get e.declaring.now c.in-Some.n ≡ Some p = slice_get_read e.declaring.now (length e.declaring.now) c.in-Some.n p refl c.in-Some-get.ensures.lookup.3.0 c.in-Some-get.ensures.lookup.1 in
    sym (declared_at e.members.now e.declaring.now c.args.class c.in-Some.n c.in-Some.is (Some p) at name)
