-- What is known at a place of a text: the types of variables so far, which of them were bound, and the function's own names that
-- are not None (PEP 484; mypy's guide, "Union types").
--
-- An annotated variable has the type of its annotation from the start. Any other has none before its first assignment, which
-- fixes it; where that one is refused, or its value has no type, the variable has none for good. A name that is bound is known
-- not to be None where its value is never None, and a value without a type counts as such.
use Rattle.std.specs.Prelude.{ℕ, Bool, true, false, not, if◌then◌else◌, List, [], ◌∷◌, ◌++◌, Option, Some, None, slice_set}
use Rattle.std.specs.List.{flat_map}
use Rattle.py_syntax.specs.Expressions.{ExprTree}
use Rattle.py_syntax.specs.Statements.{StmtTree}
use Rattle.py_typed.specs.Sorts.{Sort}
use Rattle.py_typed.specs.Narrowing.{is_in, shared, without, may_be_none}
use Rattle.py_check_context.specs.declared.scope.Meaning.{Meaning}
use Rattle.py_check_context.specs.declared.scope.Meaning.TheVariants as meaning
use Rattle.py_check_context.specs.Context.{Context, VarSort, unset, untyped, has, VarSorts, var_at}
use Rattle.py_check_flow.specs.Bindings.{Binding, stmt_bindings}
use Rattle.py_check_operators.specs.Facts.{facts, local_of}

pub record Known : Type 0 where
  pub types : VarSorts
  -- the numbers of the function's own variables, and of the module's, that are bound so far. Parameters are bound from the start,
  -- and in a function so are all variables of the module
  pub locals_bound : List ℕ
  pub globals_bound : List ℕ
  -- the function's own variables that are not None
  pub names : List ℕ

abbrev pub with_names : Known → List ℕ → Known
with_names k names = record { types = k.types; locals_bound = k.locals_bound; globals_bound = k.globals_bound; names = names }

-- ---- one variable is bound

-- its type behind its first assignment, which holds or is refused
abbrev pub first_type : Bool → Option Sort → VarSort
first_type true (Some t) = has t
first_type ok t = untyped

abbrev pub is_unset : VarSort → Bool
is_unset unset = true
is_unset v = false

abbrev pub fix : List VarSort → ℕ → VarSort → List VarSort
fix types i first = if is_unset (var_at types i) then slice_set types i first else types

abbrev pub is_plain : Option Sort → Bool
is_plain None = true
is_plain (Some t) = not (may_be_none t)

-- what was known of the name is forgotten, and known again is that it is not None, where its value never is
abbrev pub rebound : ℕ → Option Sort → List ℕ → List ℕ
rebound i t names = if is_plain t then i ∷ without (i ∷ []) names else without (i ∷ []) names

-- the names that are known behind the binding of a variable: one of the module's own is not among them
abbrev pub names_behind : Meaning → Option Sort → List ℕ → List ℕ
names_behind (meaning.Local i) t names = rebound i t names
names_behind m t names = names

-- to a value of this type, if it has one
abbrev pub bind_variable : Bool → Known → Meaning → Option Sort → Known
bind_variable ok k (meaning.Local i) t = record {
  types = record { locals = fix k.types.locals i (first_type ok t); globals = k.types.globals };
  locals_bound = k.locals_bound ++ i ∷ [];
  globals_bound = k.globals_bound;
  names = rebound i t k.names;
}
bind_variable ok k (meaning.Global i) t = record {
  types = record { locals = k.types.locals; globals = fix k.types.globals i (first_type ok t) };
  locals_bound = k.locals_bound;
  globals_bound = k.globals_bound ++ i ∷ [];
  names = k.names;
}
bind_variable ok k m t = k

-- it was bound before
abbrev pub is_bound : Known → Meaning → Bool
is_bound k (meaning.Local i) = is_in k.locals_bound i
is_bound k (meaning.Global i) = is_in k.globals_bound i
is_bound k m = false

-- what it is to an assignment: its type so far
abbrev pub variable_at : Known → Meaning → VarSort
variable_at k (meaning.Local i) = var_at k.types.locals i
variable_at k (meaning.Global i) = var_at k.types.globals i
variable_at k m = unset

module _ (c : Context) where
  -- ---- the names of targets, bound one behind the other

  abbrev pub bind_name : Bool → Known → Option (List ℕ) → Option Sort → Known
  bind_name ok k None t = k
  bind_name ok k (Some x) t = bind_variable ok k (c.meaning x) t

  -- the names that are known behind a target with this name, if it is one
  abbrev pub known_behind : Option (List ℕ) → Option Sort → List ℕ → List ℕ
  known_behind None t names = names
  known_behind (Some x) t names = names_behind (c.meaning x) t names

  -- to the parts of a value, as far as these are known
  abbrev pub bind_names : Bool → Known → List (Option (List ℕ)) → List Sort → Known
  bind_names ok k [] ts = k
  bind_names ok k (x ∷ xs) [] = bind_names ok (bind_name ok k x None) xs []
  bind_names ok k (x ∷ xs) (t ∷ ts) = bind_names ok (bind_name ok k x (Some t)) xs ts

  -- ---- tests and loops

  -- the facts of a test join what is known
  abbrev pub where_test : Known → Bool → ExprTree → Known
  where_test k outcome e = with_names k (facts c outcome e ++ k.names)

  -- the function's own variables among bindings, and those that a statement binds
  abbrev pub locals_among : List Binding → List ℕ
  locals_among bindings = flat_map (λ b. local_of (c.meaning b.name)) bindings

  abbrev pub locals_in : StmtTree → List ℕ
  locals_in s = locals_among (stmt_bindings s)

  -- what a loop binds is forgotten where it is entered
  abbrev pub entering : Known → StmtTree → Known
  entering k s = with_names k (without (locals_in s) k.names)

-- ---- the ways through an `if`

-- what is known where a test is asked, and the names that are known at all open ends of the arms before it, if there is one
pub record Way : Type 0 where
  pub at : Known
  pub ends : Option (List ℕ)

abbrev pub setting_out : Known → Way
setting_out k = record { at = k; ends = None }

-- with one more end
abbrev pub met : Option (List ℕ) → Bool → List ℕ → Option (List ℕ)
met ends true names = ends
met None false names = Some names
met (Some xs) false names = Some (shared xs names)

-- nothing is known where all ends are closed
abbrev pub common : Option (List ℕ) → List ℕ
common None = []
common (Some names) = names

abbrev pub meeting : Option (List ℕ) → Bool → Known → Known
meeting ends closed end = with_names end (common (met ends closed end.names))

-- behind an arm: its test was false, and the types that its body fixed stay
abbrev pub behind_arm : Context → Way → ExprTree → Bool → Known → Way
behind_arm c w e closed end = record {
  at = with_names end (facts c false e ++ w.at.names);
  ends = met w.ends closed end.names;
}
