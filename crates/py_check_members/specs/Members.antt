-- The members that the classes of a module have of their own, and what a class has along its order (Python Language Reference, "Class
-- definitions"; PEP 484 and PEP 526 on attributes).
--
-- A name has at most one declaration in the text of a class:
-- - a def whose name is no builtin, and that no def and no `a: T` earlier in the body has, defines a method;
-- - `a: T` in the body declares an attribute where nothing earlier in the text of the class declares the name;
-- - `self.a: T` in `__init__` declares one where it is the first assignment to a there, nothing above it in the text of the class
--   declares the name, and the body has no method of it anywhere;
-- - `self.a = e` in `__init__`, where e is a parameter or a literal, declares one where it is the first of this form, nothing else in
--   the class declares the name, and no class above declares an attribute of it.
-- An attribute that `__init__` sets by any other assignment is unknown where nothing in the class declares it, and no class above has
-- a member of its name. An attribute whose annotation or parameter has no type is declared, without a type.
--
-- Members are listed by the places of their declarations.
use Rattle.std.specs.Prelude.{ℕ, ◌+◌, Bool, true, false, not, ◌&&◌, if◌then◌else◌, nat_lt, List, [], ◌∷◌, ◌++◌, length, map, drop, Option, Some, None, is_none, slice_get, codes}
use Rattle.std.specs.List.{list_any, filter_map, flat_map, position_from}
use Rattle.std.specs.Map.{lookup}
use Rattle.std.specs.Option.{option_map, option_and_then, option_or}
use Rattle.std.specs.Str.{bytes_eq}
use Rattle.py_syntax.specs.declared.token.Span.{Span}
use Rattle.py_syntax.specs.Expressions.{ExprTree}
use Rattle.py_syntax.specs.Statements.{StmtTree, Suite, ClassTree}
use Rattle.py_binder.specs.declared.scope.Scope.{Scope}
use Rattle.py_typed.specs.Sorts as sort
use Rattle.py_typed.specs.Sorts.{Sort}
use Rattle.py_typed.specs.Classes.{ClassEntry}
use Rattle.py_typed.specs.Order.{first_there, order, listed_order}
use Rattle.py_check_context.specs.declared.scope.Meaning.{Meaning}
use Rattle.py_check_context.specs.declared.scope.Meaning.TheVariants.{Unknown}
use Rattle.py_check_context.specs.Members.{Member, attribute, untyped, unknown, method, declared_of}
use Rattle.py_check_names.specs.Outline.{held_by}
use Rattle.py_check_names.specs.Meanings.{meaning_in}
use Rattle.py_check_annotations.specs.Annotations.{annotation}
use Rattle.py_check_classes.specs.declared.header.Header.{Header}
use Rattle.py_check_classes.specs.declared.header.Header.TheVariants.{Typed}
use Rattle.py_check_classes.specs.declared.header.Shape.{Shape}
use Rattle.py_check_classes.specs.Headers.{has_type, entry}
use Rattle.py_check_classes.specs.Names.{class_in}
use Rattle.py_check_members.specs.Deeds.{is_builtin_name, Source, itself, annotated, literal, Deed, defines, declares, annotates, gives, sets, Event, init_function, class_events}

-- ---- the first deeds of a name

-- a def in the body whose name a method may have, or a declaration there
abbrev pub is_of_body_by : List ℕ → Deed → Bool
is_of_body_by name (defines f) = not (is_builtin_name name)
is_of_body_by name (declares mark) = true
is_of_body_by name _ = false

abbrev pub is_of_body : Event → Bool
is_of_body v = is_of_body_by v.name v.deed

-- an assignment in `__init__`
abbrev pub is_of_init : Deed → Bool
is_of_init (annotates mark) = true
is_of_init (gives s) = true
is_of_init sets = true
is_of_init _ = false

abbrev pub is_gift : Deed → Bool
is_gift (gives s) = true
is_gift _ = false

-- of a name: the places of the first event of the body, of the first assignment in `__init__`, and of the first there that gives a type
pub record Places : Type 0 where
  pub body : Option ℕ
  pub init : Option ℕ
  pub gift : Option ℕ

abbrev pub first_place : List Event → List ℕ → (Event → Bool) → Option ℕ
first_place events name kind = position_from (λ v. bytes_eq v.name name && kind v) 0 events

abbrev pub places : List Event → List ℕ → Places
places events name = record {
  body = first_place events name is_of_body;
  init = first_place events name (λ v. is_of_init v.deed);
  gift = first_place events name (λ v. is_gift v.deed);
}

abbrev pub stands_before : ℕ → Option ℕ → Bool
stands_before i None = false
stands_before i (Some j) = nat_lt j i

abbrev pub deed_at : List Event → Option ℕ → Option Deed
deed_at events place = option_map (λ v. v.deed) (option_and_then (slice_get events) place)

abbrev pub is_definition : Option Deed → Bool
is_definition (Some (defines f)) = true
is_definition _ = false

abbrev pub is_annotation : Option Deed → Bool
is_annotation (Some (annotates mark)) = true
is_annotation _ = false

-- ---- declarations

-- where a class above declares an attribute of the name, or not, and has a member of it, or not
pub record Above : Type 0 where
  pub has_attribute : Bool
  pub has_member : Bool

-- what stands at a place among the events of a class, of a name with these first places
module _ (events : List Event) (p : Places) (above : Above) (i : ℕ) (name : List ℕ) where
  -- IT DECLARES THE NAME
  abbrev pub declares_by : Deed → Bool
  declares_by (defines f) = not (is_builtin_name name) && not (stands_before i p.body)
  declares_by (declares mark) =
      not (stands_before i p.body) && not (stands_before i p.init && is_annotation (deed_at events p.init))
  declares_by (annotates mark) =
      not (stands_before i p.body) && not (stands_before i p.init) && not (is_definition (deed_at events p.body))
  declares_by (gives s) =
      is_none p.body && not (is_annotation (deed_at events p.init)) && not (stands_before i p.gift) && not above.has_attribute
  declares_by sets = false

-- it sets an attribute that is unknown, first of all
abbrev pub is_unknown_by : Places → Above → ℕ → Deed → Bool
is_unknown_by p above i sets = is_none p.body && is_none p.gift && not (stands_before i p.init) && not above.has_member
is_unknown_by p above i _ = false

-- of what hangs on no class above: everything but what gives a type
abbrev pub nothing_above : Above
nothing_above = record { has_attribute = false; has_member = false }

abbrev pub is_declaration : List Event → ℕ → Event → Bool
is_declaration events i v = declares_by events (places events v.name) nothing_above i v.name v.deed

-- ---- members

abbrev pub attribute_of : Option Sort → Member
attribute_of None = untyped
attribute_of (Some t) = attribute t

-- the type of an annotation, if there is one
abbrev pub marked_sort : (List ℕ → Meaning) → Option ExprTree → Option Sort
marked_sort meanings None = None
marked_sort meanings (Some mark) = (annotation meanings mark).got

-- in the class of this number, which has a type: where names mean this in the module, and this in `__init__`
module _ (meanings inner : List ℕ → Meaning) (class : ℕ) where
  abbrev pub source_sort : Source → Option Sort
  source_sort itself = Some (sort.Instance class)
  source_sort (annotated mark) = marked_sort meanings mark
  source_sort (literal t) = Some t

  abbrev pub member_by : Deed → Member
  member_by (defines f) = method f
  member_by (declares mark) = attribute_of (annotation meanings mark).got
  member_by (annotates mark) = attribute_of (annotation inner mark).got
  member_by (gives s) = attribute_of (source_sort s)
  member_by sets = untyped

  module _ (above : List ℕ → Above) (events : List Event) where
    -- what an event makes, where its name has these first places
    abbrev pub made_by : Places → Above → ℕ → Event → List (List ℕ × Member)
    made_by p up i v =
        if declares_by events p up i v.name v.deed then (v.name, member_by v.deed) ∷ [] else
        if is_unknown_by p up i v.deed then (v.name, unknown v.place) ∷ []
        else []

    abbrev pub made : ℕ → Event → List (List ℕ × Member)
    made i v = made_by (places events v.name) (above v.name) i v

    -- what these events make, from this place on
    abbrev pub made_from : ℕ → List Event → List (List ℕ × Member)
    made_from i [] = []
    made_from i (v ∷ more) = made i v ++ made_from (i + 1) more

-- a row, and behind it what has another name
abbrev pub is_named_in : {A : Type 0} → List (List ℕ × A) → List ℕ → Bool
is_named_in row name = list_any (λ p. bytes_eq name p.0) row

abbrev pub with_new : {A : Type 0} → List (List ℕ × A) → List (List ℕ × A) → List (List ℕ × A)
with_new row [] = row
with_new row (p ∷ more) = with_new (if is_named_in row p.0 then row else row ++ p ∷ []) more

-- each name once, where it comes first
abbrev pub each_once : {A : Type 0} → List (List ℕ × A) → List (List ℕ × A)
each_once row = with_new [] row

-- ---- the classes of a module

-- the members of the classes of a module, by their numbers
abbrev pub Owns : Type 0
Owns = List (List (List ℕ × Member))

abbrev pub row_of : Option (List (List ℕ × Member)) → List (List ℕ × Member)
row_of None = []
row_of (Some row) = row

abbrev pub own_at : Owns → ℕ → List (List ℕ × Member)
own_at owns n = row_of (slice_get owns n)

abbrev pub own_member : Owns → List ℕ → ℕ → Option Member
own_member owns name n = lookup (bytes_eq name) (own_at owns n)

-- where it is declared
abbrev pub own_declared : Owns → List ℕ → ℕ → Option Member
own_declared owns name n = option_and_then declared_of (own_member owns name n)

abbrev pub is_attribute : Option Member → Bool
is_attribute (Some (attribute t)) = true
is_attribute (Some untyped) = true
is_attribute _ = false

abbrev pub is_declared : Option Member → Bool
is_declared (Some (attribute t)) = true
is_declared (Some untyped) = true
is_declared (Some (method f)) = true
is_declared _ = false

-- the order of a class hangs on headers alone
abbrev pub order_in : List Header → ℕ → List ℕ
order_in headers n = listed_order (order (map entry headers) n)

-- the classes behind it along its order
abbrev pub row_above : List Header → ℕ → List ℕ
row_above headers n = drop 1 (order_in headers n)

-- what those of a row have under a name
abbrev pub above_in : Owns → List ℕ → List ℕ → Above
above_in owns row name = record {
  has_attribute = list_any (λ b. is_attribute (own_member owns name b)) row;
  has_member = list_any (λ b. is_declared (own_member owns name b)) row;
}

-- a class, with the number of the first of its functions
pub record ClassText : Type 0 where
  pub tree : ClassTree
  pub first : ℕ

abbrev pub class_text : ℕ → ClassTree → ClassText
class_text next c = record { tree = c; first = next }

-- the classes that definitions hold, in the order of the text, where the next function has this number
abbrev pub class_texts : ℕ → List StmtTree → List ClassText
class_texts next [] = []
class_texts next (s ∷ more) = map (class_text next) (class_in s) ++ class_texts (next + length (held_by s)) more

abbrev pub inner_meaning : (ℕ → List ℕ → Meaning) → Option ℕ → List ℕ → Meaning
inner_meaning inner None name = Unknown
inner_meaning inner (Some f) name = inner f name

-- with these headers, where names mean this in the module, and this in the function of a number
module _ (headers : List Header) (meanings : List ℕ → Meaning) (inner : ℕ → List ℕ → Meaning) where
  -- of the class of a number, which has a type, behind the classes before
  abbrev pub typed_own : Owns → ℕ → ClassText → List (List ℕ × Member)
  typed_own before n x =
      each_once (made_from meanings (inner_meaning inner (init_function x.first x.tree.body)) n (above_in before (row_above headers n)) (class_events x.first x.tree.body) 0 (class_events x.first x.tree.body))

  -- THE OWN MEMBERS of a class behind these; one without a type has none
  abbrev pub own_behind : Owns → ClassText → List (List ℕ × Member)
  own_behind before x =
      if has_type (slice_get headers (length before)) then typed_own before (length before) x else []

  abbrev pub owns_behind : Owns → List ClassText → Owns
  owns_behind before [] = before
  owns_behind before (x ∷ more) = owns_behind (before ++ own_behind before x ∷ []) more

  -- THE MEMBERS of all classes of a module
  abbrev pub own_members : List StmtTree → Owns
  own_members definitions = owns_behind [] (class_texts 0 definitions)

-- what a name means in the function of a number, by the scopes of functions
abbrev pub scope_meaning : (List ℕ → Option Meaning) → List (List ℕ) → Option Scope → List ℕ → Meaning
scope_meaning said variables None name = Unknown
scope_meaning said variables (Some inside) name = meaning_in said variables inside name

abbrev pub meanings_inside : (List ℕ → Option Meaning) → List (List ℕ) → List Scope → ℕ → List ℕ → Meaning
meanings_inside said variables scopes f name = scope_meaning said variables (slice_get scopes f) name

-- ---- along the order of a class

abbrev pub function_of : Member → Option ℕ
function_of (method f) = Some f
function_of _ = None

-- the function of a class's own `__init__`
abbrev pub own_init : Owns → ℕ → Option ℕ
own_init owns n = option_and_then function_of (own_member owns (codes "__init__") n)

module _ (owns : Owns) (headers : List Header) where
  -- THE MEMBER of a class: that of the first class along its order that declares one of this name, and where none does the first
  -- attribute there that nothing declares
  abbrev pub member_along : ℕ → List ℕ → Option Member
  member_along n name = option_or (first_there (own_declared owns name) (order_in headers n)) (first_there (own_member owns name) (order_in headers n))

  -- THE `__init__` of a class, and the next one behind it
  abbrev pub init_along : ℕ → Option ℕ
  init_along n = first_there (own_init owns) (order_in headers n)

  abbrev pub init_behind_along : ℕ → Option ℕ
  init_behind_along n = first_there (own_init owns) (row_above headers n)

-- ---- classes as typing sees them

abbrev pub sort_of : Member → Option Sort
sort_of (attribute t) = Some t
sort_of _ = None

abbrev pub typed_attribute : List ℕ × Member → Option (List ℕ × Sort)
typed_attribute p = option_map (λ t. (p.0, t)) (sort_of p.1)

abbrev pub own_method : List ℕ × Member → Option (List ℕ × ℕ)
own_method p = option_map (λ f. (p.0, f)) (function_of p.1)

abbrev pub typed_entry : Shape → List ℕ → List (List ℕ × Member) → ClassEntry
typed_entry s name own =
    record { name = name; is_trait = s.is_trait; bases = s.bases; attributes = filter_map typed_attribute own; methods = filter_map own_method own }

-- one without a type has its name alone
abbrev pub bare_entry : List ℕ → ClassEntry
bare_entry name = record { name = name; is_trait = false; bases = []; attributes = []; methods = [] }

abbrev pub class_entry_of : Option Header → List ℕ → List (List ℕ × Member) → ClassEntry
class_entry_of (Some (Typed s)) name own = typed_entry s name own
class_entry_of header name own = bare_entry name

abbrev pub entries_from : List Header → Owns → ℕ → List ClassTree → List ClassEntry
entries_from headers owns n [] = []
entries_from headers owns n (c ∷ more) = class_entry_of (slice_get headers n) c.name (own_at owns n) ∷ entries_from headers owns (n + 1) more

-- THE CLASSES of a module, by their numbers
abbrev pub class_entries : List Header → List StmtTree → Owns → List ClassEntry
class_entries headers definitions owns = entries_from headers owns 0 (flat_map class_in definitions)

-- ---- declarations in `__init__`

-- an event that declares this name by an annotation in `__init__`
abbrev pub is_annotated_at : List Event → List ℕ → ℕ → Event → Bool
is_annotated_at events name i v = bytes_eq name v.name && (is_annotation (Some v.deed) && is_declaration events i v)

abbrev pub annotated_from : List Event → List ℕ → ℕ → List Event → Option Span
annotated_from events name i [] = None
annotated_from events name i (v ∷ more) =
    if is_annotated_at events name i v then Some v.place else annotated_from events name (i + 1) more

-- THE PLACE of the statement of a class's `__init__` that declares an attribute of a name by an annotation
abbrev pub declaring : Suite → List ℕ → Option Span
declaring body name = annotated_from (class_events 0 body) name 0 (class_events 0 body)
