-- Which classes of a module have a type, of what kind they are and what their bases are, and what is wrong with the header of each
-- that has none (Python Language Reference, "Class definitions"; mypyc's "Native classes" on traits; "The Python 2.3 Method
-- Resolution Order").
--
-- A class has a type where all of this holds, asked in this order: its name is new; it has no decorator, or `trait` alone; its bases
-- are classes that stand earlier in the text, no two the same; all of them but the first are traits, of a trait the first too, and
-- a trait has no attributes and no `__init__`; the class and those above it have an order (C3). The first that does not hold is
-- the class's fault. All this needs names and syntax alone.
--
-- Where a base is an earlier class without a type the class has none either, and nothing is said of it. A fault, too, is only said
-- where each decorator and each base is typed, which is the walk's to ask: an unknown name or a faulty expression there silences
-- the class. The name of a class that stands further down, or of the class itself, is no reason for silence.
-- That each member of a class has one signature is asked of its body and not here: a class that breaks it keeps its type.
use Rattle.std.specs.Prelude.{ℕ, Bool, true, false, not, ◌&&◌, ◌||◌, if◌then◌else◌, nat_lt, List, [], ◌∷◌, ◌++◌, map, drop, length, Option, Some, None, is_some, slice_get}
use Rattle.std.specs.List.{list_any, list_all}
use Rattle.std.specs.Option.{option_or}
use Rattle.py_syntax.specs.declared.token.Span.{Span}
use Rattle.py_syntax.specs.Statements.{StmtTree, Suite, ClassTree}
use Rattle.py_syntax_diagnostics.specs.declared.diagnostic.Diag.{Diag}
use Rattle.py_typed.specs.Classes.{ClassEntry}
use Rattle.py_typed.specs.Order.{order}
use Rattle.py_check_context.specs.declared.scope.Meaning.{Meaning}
use Rattle.py_check_context.specs.declared.scope.Meaning.TheVariants.{Class, UntypedClass}
use Rattle.py_check_messages.specs.Seen.{Message, diag}
use Rattle.py_check_messages.specs.Messages as message
use Rattle.py_check_names.specs.Outline.{suite_definitions}
use Rattle.py_check_classes.specs.declared.header.Header.{Header}
use Rattle.py_check_classes.specs.declared.header.Header.TheVariants.{Typed, Untyped}
use Rattle.py_check_classes.specs.declared.header.Shape.{Shape}
use Rattle.py_check_classes.specs.declared.header.HeaderFault.{HeaderFault}
use Rattle.py_check_classes.specs.declared.header.HeaderFault.TheVariants.{AlreadyDefined, OutsideProfile, InvalidBase, InvalidBases, NoOrder}
use Rattle.py_check_classes.specs.Names.{is_new, are_decorators, is_trait_mark, class_named, classes_in, said_of_names}
use Rattle.py_check_classes.specs.Bodies.{has_attributes, has_init}
use Rattle.py_check_classes.specs.Rows.{those_there, differ}

-- ---- what is known of the classes before

abbrev pub has_type : Option Header → Bool
has_type (Some (Typed s)) = true
has_type _ = false

-- a trait with a type
abbrev pub is_a_trait : Option Header → Bool
is_a_trait (Some (Typed s)) = s.is_trait
is_a_trait _ = false

-- one that stands earlier and has no type
abbrev pub lacks_type : Option Header → Bool
lacks_type None = false
lacks_type (Some (Typed s)) = false
lacks_type (Some (Untyped u)) = true

abbrev pub is_untyped_trait : Option Header → Bool
is_untyped_trait (Some (Untyped u)) = u.is_trait
is_untyped_trait _ = false

-- a class as the definition of orders sees it, which asks for bases alone
abbrev pub bare : Bool → List ℕ → ClassEntry
bare trait bases = record { name = []; is_trait = trait; bases = bases; attributes = []; methods = [] }

abbrev pub entry : Header → ClassEntry
entry (Typed s) = bare s.is_trait s.bases
entry (Untyped u) = bare false []

-- ---- bases

-- a class that stands before the one of a number
abbrev pub is_earlier : ℕ → Option ℕ → Bool
is_earlier own None = false
is_earlier own (Some b) = nat_lt b own

-- a trait has no attributes and no `__init__` of its own
abbrev pub body_fits : Bool → Suite → Bool
body_fits trait body = not (trait && (has_attributes body || has_init body))

-- behind the headers of the classes before
module _ (before : List Header) where
  -- a base that is an earlier class without a type
  abbrev pub is_untyped : Option ℕ → Bool
  is_untyped None = false
  is_untyped (Some b) = lacks_type (slice_get before b)

  -- the bases are earlier classes, no two the same
  abbrev pub are_bases : List (Option ℕ) → List ℕ → Bool
  are_bases named bases = list_all (is_earlier (length before)) named && differ bases

  abbrev pub are_traits : List ℕ → Bool
  are_traits bases = list_all (λ b. is_a_trait (slice_get before b)) bases

  -- the rules on traits
  abbrev pub bases_fit : Shape → Bool
  bases_fit s = are_traits (if s.is_trait then s.bases else drop 1 s.bases)

  -- the order of the class and of those above it, if there is one
  abbrev pub order_behind : Shape → Option (List ℕ)
  order_behind s = order (map entry before ++ entry (Typed s) ∷ []) (length before)

  -- what is wrong before orders are asked, where the name is new or not, the decorators are as they may be or not, and the bases
  -- are these
  abbrev pub early_fault : Bool → Bool → List (Option ℕ) → Shape → Suite → Option HeaderFault
  early_fault new marked named s body =
      if not new then Some AlreadyDefined else
      if not marked then Some OutsideProfile else
      if not (are_bases named s.bases) then Some InvalidBase else
      if not (bases_fit s && body_fits s.is_trait body) then Some InvalidBases
      else None

  abbrev pub order_fault : Shape → Option HeaderFault
  order_fault s = if is_some (order_behind s) then None else Some NoOrder

-- ---- the header of a class

-- without a type, marked `trait` or not, for this fault, or for want of a base with a type
abbrev pub without_type : Bool → Option HeaderFault → Header
without_type trait fault = Untyped (record { is_trait = trait; fault = fault })

abbrev pub settled : Shape → Option HeaderFault → Header
settled s None = Typed s
settled s (Some f) = without_type s.is_trait (Some f)

-- where definitions and imports say this of names
module _ (said : List ℕ → Option Meaning) where
  abbrev pub bases_named : ClassTree → List (Option ℕ)
  bases_named c = map (class_named said) c.bases

  abbrev pub shape : ClassTree → Shape
  shape c = record { is_trait = is_trait_mark said c.marks; bases = those_there (bases_named c) }

  -- behind the headers of the classes before
  module _ (before : List Header) where
    -- THE FAULT of a header
    abbrev pub fault : ClassTree → Option HeaderFault
    fault c =
        option_or
        (early_fault before (is_new said (length before) c.name) (are_decorators said c.marks) (bases_named c) (shape c) c.body)
        (order_fault before (shape c))

    -- THE HEADER of a class
    abbrev pub header : ClassTree → Header
    header c = if list_any (is_untyped before) (bases_named c) then without_type (shape c).is_trait None else settled (shape c) (fault c)

  -- the headers of classes in a row, each behind those before it
  abbrev pub headers_behind : List Header → List ClassTree → List Header
  headers_behind before [] = before
  headers_behind before (c ∷ more) = headers_behind (before ++ header before c ∷ []) more

-- THE HEADERS of all classes of a module, by their numbers
abbrev pub headers : List StmtTree → List Header
headers definitions = headers_behind (said_of_names definitions) [] (classes_in definitions)

abbrev pub module_headers : Suite → List Header
module_headers m = headers (suite_definitions m)

-- ---- what is said, and what names mean then

abbrev pub fault_message : List ℕ → HeaderFault → Message
fault_message name AlreadyDefined = message.already_defined name
fault_message name OutsideProfile = message.outside_profile name
fault_message name InvalidBase = message.invalid_base
fault_message name InvalidBases = message.invalid_bases name
fault_message name NoOrder = message.no_order name

abbrev pub fault_said : Span → List ℕ → Option HeaderFault → List Diag
fault_said span name None = []
fault_said span name (Some f) = diag span (fault_message name f) ∷ []

-- what is said of a class, where its decorators and its bases are typed
abbrev pub header_said : Span → List ℕ → Header → List Diag
header_said span name (Typed s) = []
header_said span name (Untyped u) = fault_said span name u.fault

-- a class is known by its number where it has a type
abbrev pub typed_meaning : List Header → Meaning → Meaning
typed_meaning headers (Class n) = if has_type (slice_get headers n) then Class n else UntypedClass
typed_meaning headers m = m
