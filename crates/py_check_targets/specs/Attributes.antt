-- The attributes of the object that an `__init__` sets up, which is its first parameter (Python Language Reference, "Class
-- definitions").
--
-- One is declared in the class, or there. Where nothing declares it, the target that sets it first has a rule of its own, and no other
-- place says anything of it. An annotation may stand on such an attribute at the one statement that declares it.
use Rattle.std.specs.Prelude.{ℕ, nat_eq, Bool, false, ◌&&◌, List, Option, Some, None, if◌then◌else◌}
use Rattle.std.specs.Option.{option_and_then}
use Rattle.std.specs.Str.{bytes_eq}
use Rattle.py_syntax.specs.declared.token.Span.{Span}
use Rattle.py_syntax.specs.Expressions as tree
use Rattle.py_syntax.specs.Expressions.{ExprTree, at}
use Rattle.py_check_context.specs.Members.{Member, unknown, Inside}
use Rattle.py_check_context.specs.Context.{Context}
use Rattle.py_check_flow.specs.Bindings.{name_in}
use Rattle.py_check_messages.specs.Seen.{Message}
use Rattle.py_check_messages.specs.Messages.{already_defined}

abbrev pub same_span : Span → Span → Bool
same_span a b = nat_eq a.line b.line && nat_eq a.col b.col

abbrev pub is_span : Option Span → Span → Bool
is_span None span = false
is_span (Some place) span = same_span place span

-- ---- the object

abbrev pub is_name : Option (List ℕ) → List ℕ → Bool
is_name None x = false
is_name (Some y) x = bytes_eq y x

-- an `__init__` has this name for the object
abbrev pub sets_up : Option Inside → List ℕ → Bool
sets_up None x = false
sets_up (Some i) x = i.is_init && is_name i.first x

abbrev pub is_set_up : Option Inside → Option (List ℕ) → Bool
is_set_up i None = false
is_set_up i (Some x) = sets_up i x

-- an attribute of it: the expression for the object, and the attribute's name
abbrev pub own_attribute : Option Inside → ExprTree → Option (ExprTree × List ℕ)
own_attribute i (at (tree.Attr e a) span) = if is_set_up i (name_in e) then Some (e, a) else None
own_attribute i e = None

-- ---- attributes that nothing declares

abbrev pub class_inside : Option Inside → Option ℕ
class_inside None = None
class_inside (Some i) = i.class

-- this target sets it first
abbrev pub is_set_first : Option Member → Span → Bool
is_set_first (Some (unknown place)) span = same_span place span
is_set_first m span = false

abbrev pub lacking_at : Context → Span → Option (ExprTree × List ℕ) → Option (ExprTree × List ℕ)
lacking_at c span None = None
lacking_at c span (Some p) = if is_set_first (option_and_then (λ n. c.member n p.1) (class_inside c.inside)) span then Some p else None

-- WHAT A TARGET LACKS: the object and the attribute, where nothing declares that and the target sets it first
abbrev pub lacking_in : Context → ExprTree → Option (ExprTree × List ℕ)
lacking_in c (at node span) = lacking_at c span (own_attribute c.inside (at node span))

-- ---- annotations

-- the statement at this place declares an attribute of this name
abbrev pub declares_at : Option Inside → List ℕ → Span → Bool
declares_at None a span = false
declares_at (Some i) a span = is_span (i.declaring a) span

-- WHAT IS WRONG with an annotation of an attribute of the object
abbrev pub declaring_fault : Option Inside → List ℕ → Span → Option Message
declaring_fault i a span = if declares_at i a span then None else Some (already_defined a)
