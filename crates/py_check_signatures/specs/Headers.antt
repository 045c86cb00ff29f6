-- What the annotations of a function definition give and say, and its signature (PEP 484).
--
-- The first parameter of a method has its class as its type, where the class has one, and is no part of the signature. An
-- annotation on it is typed like every other. `__init__` returns None, whether it says so or not; one that says anything else
-- returns nothing that is typed.
use Rattle.std.specs.Prelude.{ℕ, Bool, true, false, ◌&&◌, if◌then◌else◌, List, [], ◌∷◌, ◌++◌, map, drop, codes, Option, Some, None, is_some}
use Rattle.std.specs.List.{list_all, flat_map}
use Rattle.std.specs.Option.{option_map, option_zip}
use Rattle.std.specs.Str.{bytes_eq}
use Rattle.py_syntax.specs.Expressions.{ExprTree}
use Rattle.py_syntax.specs.Statements.{FuncTree}
use Rattle.py_syntax_diagnostics.specs.declared.diagnostic.Diag.{Diag}
use Rattle.py_typed.specs.Sorts as sort
use Rattle.py_typed.specs.Sorts.{Sort}
use Rattle.py_typed.specs.Classes.{Signature}
use Rattle.py_check_context.specs.declared.scope.Meaning.{Meaning}
use Rattle.py_check_messages.specs.Seen.{Seen, silent}
use Rattle.py_check_annotations.specs.Annotations.{annotation, return_annotation}
use Rattle.py_check_signatures.specs.declared.headers.Owner.{Owner}
use Rattle.py_check_signatures.specs.declared.headers.Owner.TheVariants.{Module, Class, UntypedTrait}

-- where it is defined; the types of the parameters by their numbers and of what is returned, where there is one; and whether each
-- annotation that stands there has one
pub record HeaderSorts : Type 0 where
  pub owner : Owner
  pub params : List (Option Sort)
  pub ret : Option Sort
  pub typed : Bool

-- an annotation that is missing is no fault here
abbrev pub has_type : Option ExprTree → Option Sort → Bool
has_type None t = true
has_type (Some mark) t = is_some t

-- ---- methods

-- the type of a method's first parameter, of a class of this number, where that has a type
abbrev pub own_type : Option ℕ → Option Sort
own_type class = option_map sort.Instance class

-- the types of parameters with that of the first
abbrev pub with_own : Option Sort → List (Option Sort) → List (Option Sort)
with_own own [] = []
with_own own (t ∷ more) = own ∷ more

abbrev pub types_at : Owner → List (Option Sort) → List (Option Sort)
types_at Module types = types
types_at (Class c) types = with_own (own_type c) types
types_at UntypedTrait types = with_own None types

-- of a row of parameters those that belong to the signature
abbrev pub asked : {A : Type 0} → Owner → List A → List A
asked Module params = params
asked (Class c) params = drop 1 params
asked UntypedTrait params = drop 1 params

-- the function is an `__init__`
abbrev pub is_init : Owner → List ℕ → Bool
is_init Module name = false
is_init (Class c) name = bytes_eq name (codes "__init__")
is_init UntypedTrait name = bytes_eq name (codes "__init__")

-- what is returned by this annotation of that type: by an `__init__` only None
abbrev pub only_none : Option Sort → Option Sort
only_none (Some sort.Nothing) = Some sort.Nothing
only_none _ = None

abbrev pub none_returned : Option ExprTree → Option Sort → Option Sort
none_returned None t = Some sort.Nothing
none_returned (Some mark) t = only_none t

abbrev pub return_at : Bool → Option ExprTree → Option Sort → Option Sort
return_at init mark t = if init then none_returned mark t else t

-- ---- headers

module _ (meanings : List ℕ → Meaning) where
  abbrev pub marked : Option ExprTree → Seen Sort
  marked None = silent
  marked (Some mark) = annotation meanings mark

  abbrev pub returned : Option ExprTree → Seen Sort
  returned None = silent
  returned (Some mark) = return_annotation meanings mark

  -- of parameters
  abbrev pub param_types : List (List ℕ × Option ExprTree) → List (Option Sort)
  param_types params = map (λ p. (marked p.1).got) params

  abbrev pub params_said : List (List ℕ × Option ExprTree) → List Diag
  params_said params = flat_map (λ p. (marked p.1).said) params

  abbrev pub params_typed : List (List ℕ × Option ExprTree) → Bool
  params_typed params = list_all (λ p. has_type p.1 (marked p.1).got) params

  -- THE HEADER of a definition, and what is said in its annotations
  abbrev pub header : Owner → FuncTree → HeaderSorts
  header owner f = record {
    owner = owner;
    params = types_at owner (param_types f.params);
    ret = return_at (is_init owner f.name) f.ret (returned f.ret).got;
    typed = params_typed f.params && has_type f.ret (returned f.ret).got;
  }

  abbrev pub header_said : FuncTree → List Diag
  header_said f = params_said f.params ++ (returned f.ret).said

-- all, where each is there
abbrev pub all_of : {A : Type 0} → List (Option A) → Option (List A)
all_of [] = Some []
all_of (a ∷ more) = option_map (λ p. p.0 ∷ p.1) (option_zip a (all_of more))

-- THE SIGNATURE: there is none where an annotation is missing or has no type
abbrev pub signature_by : HeaderSorts → Option Signature
signature_by h = option_map (λ p. record { params = p.0; ret = p.1 }) (option_zip (all_of (asked h.owner h.params)) h.ret)

abbrev pub signature_of : HeaderSorts → Option Signature
signature_of h = if h.typed then signature_by h else None
