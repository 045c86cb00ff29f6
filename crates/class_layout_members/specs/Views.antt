-- What the code's members stand for.
use Rattle.std.specs.Prelude.{ℕ, List, Option, slice_get}
use Rattle.std.specs.Option.{option_map}
use Rattle.std.specs.Borrow.{Bor}
use Rattle.std.specs.Str.{bytes_eq}
use Rattle.indexmap.specs.IndexMap.{IndexMap, get}
use Rattle.py_typed.specs.Sorts.{Sort, sort}
use Rattle.py_typed.specs.Classes.{Signature, signature}
use Rattle.py_typed.specs.declared.classes.Sig.{Sig}
use Rattle.class_layout_members.specs.Clashes as clash
use Rattle.class_layout_members.specs.Clashes.{OfType, OfSignature}
use Rattle.class_layout_members.specs.declared.member.Definition.{Definition}
use Rattle.class_layout_members.specs.declared.member.Definition.TheVariants.{Attribute, Method}
use Rattle.class_layout_members.specs.declared.member.Member.{Member}

abbrev pub definition : Definition → clash.Definition
definition (Attribute t) = OfType (sort t.now)
definition (Method s) = OfSignature (option_map (λ (r : Bor Sig). signature r.now) s)

-- the definition that a map has under a name
abbrev pub definitions_in : {S : Type 0} → IndexMap (List ℕ) Definition S → List ℕ → Option clash.Definition
definitions_in found name = option_map definition (get bytes_eq found name)

abbrev pub member : Member → List ℕ × clash.Definition
member m = (m.name.now, definition m.definition)

-- an attribute with its type, and a method with its signature
abbrev pub of_type : List ℕ × Sort → List ℕ × clash.Definition
of_type p = (p.0, OfType p.1)

abbrev pub of_signature : List Signature → List ℕ × ℕ → List ℕ × clash.Definition
of_signature signatures p = (p.0, OfSignature (slice_get signatures p.1))
