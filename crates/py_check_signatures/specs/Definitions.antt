-- What is wrong with a function definition by itself (Python Language Reference, "Function definitions"; PEP 484).
--
-- The first of these that holds: the name was defined before in the text of its scope, or is a builtin; there is a decorator, or in a
-- class the name is `__x__` for some x but `init`, or the first parameter of a method has an annotation; a method has no first
-- parameter; two parameters have one name; a parameter has the name of a builtin; an annotation is missing, but for the first
-- parameter of a method and what an `__init__` returns, which may be None alone; the function has more than 100 names of its own;
-- a value is due and the end of the body can be reached. Annotations and decorators are parts of a definition: where one of them
-- has no type, nothing is said of the definition.
use Rattle.std.specs.Prelude.{ℕ, Bool, true, false, not, ◌&&◌, ◌||◌, if◌then◌else◌, nat_eq, nat_lt, List, [], ◌∷◌, ◌++◌, length, codes, count_by, find, Option, Some, None, is_some}
use Rattle.std.specs.List.{list_all, starts_with, ends_with}
use Rattle.std.specs.Option.{option_or, option_map}
use Rattle.py_syntax.specs.declared.token.Span.{Span}
use Rattle.py_syntax.specs.Expressions.{ExprTree}
use Rattle.py_syntax.specs.Statements.{FuncTree}
use Rattle.py_syntax_diagnostics.specs.declared.diagnostic.Diag.{Diag}
use Rattle.py_binder.specs.declared.scope.Scope.{Scope}
use Rattle.py_binder.specs.Scope.{contains, param_names}
use Rattle.py_typed.specs.Sorts as sort
use Rattle.py_typed.specs.Sorts.{Sort}
use Rattle.py_check_messages.specs.Seen.{Message, diag}
use Rattle.py_check_messages.specs.Messages as message
use Rattle.py_check_flow.specs.Closed.{is_closed}
use Rattle.py_check_names.specs.Builtins.{builtin_meaning}
use Rattle.py_check_names.specs.Meanings.{is_own}
use Rattle.py_check_signatures.specs.declared.headers.Owner.{Owner}
use Rattle.py_check_signatures.specs.declared.headers.Owner.TheVariants.{Module, Class, UntypedTrait}
use Rattle.py_check_signatures.specs.Headers.{HeaderSorts, asked, is_init}

-- a name that nothing defined before, and no builtin
abbrev pub is_builtin_name : List ℕ → Bool
is_builtin_name name = is_some (builtin_meaning name)

abbrev pub is_new : List (List ℕ) → List ℕ → Bool
is_new earlier name = not (contains earlier name) && not (is_builtin_name name)

-- the names of a function's own: its parameters, and what it binds
abbrev pub own_count : Scope → ℕ
own_count inside = count_by (λ p. is_own p.1) inside.names

-- the first name that stands a second time, behind these
abbrev pub repeated : List (List ℕ) → List (List ℕ) → Option (List ℕ)
repeated before [] = None
repeated before (x ∷ more) = if contains before x then Some x else repeated (before ++ x ∷ []) more

-- ---- methods

-- `__x__` for some x
abbrev pub is_special : List ℕ → Bool
is_special name = nat_lt 4 (length name) && (starts_with nat_eq name (codes "__") && ends_with nat_eq name (codes "__"))

-- a name that no method may have
abbrev pub no_method_name : Owner → List ℕ → Bool
no_method_name Module name = false
no_method_name (Class c) name = is_special name && not (is_init (Class c) name)
no_method_name UntypedTrait name = is_special name && not (is_init UntypedTrait name)

-- an annotation on the first parameter of a method
abbrev pub first_marked : List (List ℕ × Option ExprTree) → Bool
first_marked [] = false
first_marked (p ∷ more) = is_some p.1

abbrev pub own_marked : Owner → List (List ℕ × Option ExprTree) → Bool
own_marked Module params = false
own_marked (Class c) params = first_marked params
own_marked UntypedTrait params = first_marked params

-- a method without a first parameter
abbrev pub lacks_own : Owner → List (List ℕ × Option ExprTree) → Bool
lacks_own (Class c) [] = true
lacks_own UntypedTrait [] = true
lacks_own owner params = false

-- ---- the row

abbrev pub are_marked : List (List ℕ × Option ExprTree) → Bool
are_marked params = list_all (λ p. is_some p.1) params

-- a value is due of a type other than None
abbrev pub gives_value : Option Sort → Bool
gives_value None = false
gives_value (Some sort.Nothing) = false
gives_value (Some t) = true

abbrev pub no_marks : List ExprTree → Bool
no_marks [] = true
no_marks (mark ∷ more) = false

-- of a function of this owner
module _ (owner : Owner) where
  -- each annotation that is asked for is there, and what is returned has this type, if any
  abbrev pub all_marked : FuncTree → Option Sort → Bool
  all_marked f ret = are_marked (asked owner f.params) && is_some ret

  -- a body without its end, or a count past its bound
  abbrev pub body_fault : ℕ → FuncTree → Option Sort → Option Message
  body_fault own f ret =
      if not (all_marked f ret) then Some message.missing_annotation else
      if nat_lt 100 own then Some (message.too_many_names f.name) else
      if gives_value ret && not (is_closed f.body) then Some message.missing_return
      else None

  -- a decorator, a name or an annotation that has no place there
  abbrev pub is_outside : FuncTree → Bool
  is_outside f = not (no_marks f.marks) || (no_method_name owner f.name || own_marked owner f.params)

  -- by the first parameter that stands twice
  abbrev pub fault_by : Bool → ℕ → FuncTree → Option (List ℕ) → Option Sort → Option Message
  fault_by fresh own f twice ret =
      if not fresh then Some (message.already_defined f.name) else
      if is_outside f then Some (message.outside_profile f.name) else
      if lacks_own owner f.params then Some (message.self_missing f.name)
      else option_or (option_map message.duplicate_parameter twice)
      (option_or (option_map message.cannot_assign (find is_builtin_name (param_names f))) (body_fault own f ret))

  -- THE FAULT of a definition, whose name is new or not, of so many names of its own, and of what it returns
  abbrev pub def_fault : Bool → ℕ → FuncTree → Option Sort → Option Message
  def_fault fresh own f ret = fault_by fresh own f (repeated [] (param_names f)) ret

abbrev pub told : Span → Option Message → List Diag
told span None = []
told span (Some m) = diag span m ∷ []

-- of one with these types of annotations, and whose decorators have types or not
abbrev pub def_said : Span → Bool → ℕ → Bool → FuncTree → HeaderSorts → List Diag
def_said span fresh own marked f h = if h.typed && marked then told span (def_fault h.owner fresh own f h.ret) else []
