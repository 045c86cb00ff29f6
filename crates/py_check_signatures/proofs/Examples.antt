-- Definitions with their signatures and faults.
use Rattle.std.proofs.Common.{◌≡◌, ℕ, true, false, List, [], ◌∷◌, Option, Some, None, map, refl, codes}
use Rattle.py_syntax.specs.declared.token.Span.{Span}
use Rattle.py_syntax.specs.Expressions as e
use Rattle.py_syntax.specs.Expressions.{ExprTree}
use Rattle.py_syntax.specs.Statements.{FuncTree, Suite, at, Pass, Return, suite_of}
use Rattle.py_typed.specs.Sorts as sort
use Rattle.py_check_context.specs.declared.scope.Meaning.{Meaning}
use Rattle.py_check_context.specs.declared.scope.Meaning.TheVariants.{Untyped}
use Rattle.py_check_messages.specs.Messages as message
use Rattle.py_check_signatures.specs.declared.headers.Owner.TheVariants.{Module, Class}
use Rattle.py_check_signatures.specs.Headers.{header, signature_of}
use Rattle.py_check_signatures.specs.Definitions.{def_fault, def_said}

abbrev place : Span
place = record { line = 1; col = 1 }

abbrev none_mark : Option ExprTree
none_mark = Some (e.at e.Nothing place)

abbrev word : List ℕ → Option ExprTree
word x = Some (e.at (e.Name x) place)

abbrev passes : Suite
passes = suite_of (at Pass place ∷ [])

abbrev def : List (List ℕ) → Option ExprTree → Suite → FuncTree
def names ret body = record {
  name = codes "f";
  params = map (λ x. (x, word (codes "t"))) names;
  ret = ret;
  body = body;
  marks = [];
}

-- the name stands before what else is wrong
defined_before : def_fault Module false 1 (def (codes "x" ∷ codes "x" ∷ []) None passes) None ≡ Some (message.already_defined (codes "f"))
defined_before = refl

-- a decorator, before what is wrong with parameters
abbrev under : ExprTree → FuncTree → FuncTree
under mark f = record { name = f.name; params = f.params; ret = f.ret; body = f.body; marks = mark ∷ [] }

decorated : def_fault Module true 1 (under (e.at (e.Name (codes "g")) place) (def (codes "x" ∷ codes "x" ∷ []) None passes)) None ≡ Some (message.outside_profile (codes "f"))
decorated = refl

decorated_again : def_fault Module false 1 (under (e.at (e.Name (codes "g")) place) (def [] none_mark passes)) None ≡ Some (message.already_defined (codes "f"))
decorated_again = refl

twice : def_fault Module true 1 (def (codes "x" ∷ codes "y" ∷ codes "x" ∷ codes "y" ∷ []) None passes) None ≡ Some (message.duplicate_parameter (codes "x"))
twice = refl

of_a_builtin : def_fault Module true 1 (def (codes "x" ∷ codes "len" ∷ []) None passes) None ≡ Some (message.cannot_assign (codes "len"))
of_a_builtin = refl

unannotated : def_fault Module true 1 (def (codes "x" ∷ []) None passes) None ≡ Some message.missing_annotation
unannotated = refl

too_many : def_fault Module true 101 (def (codes "x" ∷ []) none_mark passes) (Some sort.Nothing) ≡ Some (message.too_many_names (codes "f"))
too_many = refl

hundred : def_fault Module true 100 (def (codes "x" ∷ []) none_mark passes) (Some sort.Nothing) ≡ None
hundred = refl

open_end : def_fault Module true 1 (def (codes "x" ∷ []) (word (codes "t")) passes) (Some sort.Int) ≡ Some message.missing_return
open_end = refl

closed : def_fault Module true 1 (def (codes "x" ∷ []) (word (codes "t")) (suite_of (at (Return None) place ∷ []))) (Some sort.Int) ≡ None
closed = refl

-- an annotation without a type: no signature, and nothing of the definition's own
abbrev nothing_typed : List ℕ → Meaning
nothing_typed x = Untyped

no_signature : signature_of (header nothing_typed Module (def (codes "x" ∷ []) none_mark passes)) ≡ None
no_signature = refl

nothing_said : def_said place false 1 true (def (codes "x" ∷ []) none_mark passes) (header nothing_typed Module (def (codes "x" ∷ []) none_mark passes)) ≡ []
nothing_said = refl

-- nor where a decorator has none
nothing_of_the_decorated : def_said place false 1 false (under (e.at (e.Name (codes "g")) place) (def [] none_mark passes)) (header nothing_typed Module (def [] none_mark passes)) ≡ []
nothing_of_the_decorated = refl

-- without parameters
plain : signature_of (header nothing_typed Module (def [] none_mark passes)) ≡ Some (record { params = []; ret = sort.Nothing })
plain = refl

-- ---- methods

abbrev method : List ℕ → List (List ℕ × Option ExprTree) → Option ExprTree → FuncTree
method name params ret = record { name = name; params = params; ret = ret; body = passes; marks = [] }

abbrev of_class : Option ℕ
of_class = Some 3

-- the first parameter has the class as its type, and is no part of the signature
of_the_class : (header nothing_typed (Class of_class) (method (codes "m") ((codes "self", None) ∷ []) none_mark)).params ≡ Some (sort.Instance 3) ∷ []
of_the_class = refl

without_self : signature_of (header nothing_typed (Class of_class) (method (codes "m") ((codes "self", None) ∷ []) none_mark)) ≡ Some (record { params = []; ret = sort.Nothing })
without_self = refl

-- also in a class without a type
untyped_self : signature_of (header nothing_typed (Class None) (method (codes "m") ((codes "self", None) ∷ []) none_mark)) ≡ Some (record { params = []; ret = sort.Nothing })
untyped_self = refl

-- an `__init__` returns None, and nothing else
init : signature_of (header nothing_typed (Class of_class) (method (codes "__init__") ((codes "self", None) ∷ []) None)) ≡ Some (record { params = []; ret = sort.Nothing })
init = refl

no_init_in_modules : signature_of (header nothing_typed Module (method (codes "__init__") [] None)) ≡ None
no_init_in_modules = refl

init_of_int : def_fault (Class of_class) true 1 (method (codes "__init__") ((codes "self", None) ∷ []) (word (codes "int"))) None ≡ Some message.missing_annotation
init_of_int = refl

special : def_fault (Class of_class) true 1 (method (codes "__str__") [] none_mark) (Some sort.Nothing) ≡ Some (message.outside_profile (codes "__str__"))
special = refl

special_in_modules : def_fault Module true 1 (method (codes "__str__") [] none_mark) (Some sort.Nothing) ≡ None
special_in_modules = refl

underscores : def_fault (Class of_class) true 1 (method (codes "____") ((codes "self", None) ∷ []) none_mark) (Some sort.Nothing) ≡ None
underscores = refl

marked_self : def_fault (Class of_class) true 1 (method (codes "m") ((codes "self", word (codes "C")) ∷ []) none_mark) (Some sort.Nothing) ≡ Some (message.outside_profile (codes "m"))
marked_self = refl

selfless : def_fault (Class of_class) true 1 (method (codes "m") [] none_mark) (Some sort.Nothing) ≡ Some (message.self_missing (codes "m"))
selfless = refl

unmarked : def_fault (Class of_class) true 1 (method (codes "m") ((codes "self", None) ∷ (codes "x", None) ∷ []) none_mark) (Some sort.Nothing) ≡ Some message.missing_annotation
unmarked = refl
