-- What decorators and bases are asked for (Python Language Reference, "Function definitions" and "Class definitions").
--
-- A name is only asked to be there, by what it means: a variable is not read. Any other expression is typed like everywhere, with
-- what is known where the definition stands.
use Rattle.std.specs.Prelude.{ℕ, Bool, true, false, not, ◌||◌, List, [], Option, Some, None, is_some}
use Rattle.std.specs.List.{list_all, flat_map}
use Rattle.py_syntax.specs.Expressions.{ExprTree}
use Rattle.py_syntax_diagnostics.specs.declared.diagnostic.Diag.{Diag}
use Rattle.py_check_context.specs.declared.scope.Meaning.{Meaning}
use Rattle.py_check_context.specs.declared.scope.Meaning.TheVariants.{Untyped, Unknown}
use Rattle.py_check_context.specs.Context.{Context, free}
use Rattle.py_check_annotations.specs.Names.{is_unknown, is_untyped}
use Rattle.py_check_flow.specs.Bindings.{name_in}
use Rattle.py_check_places.specs.Places.{Known}
use Rattle.py_check_targets.specs.Targets.{typed_at}

-- a name that is known, and of no import and no class that is refused
abbrev pub is_there : Meaning → Bool
is_there m = not (is_unknown m || is_untyped m)

-- the same of a base, as far as the header of its class does not answer for it: a class may lack a type
abbrev pub is_base_there : Meaning → Bool
is_base_there Unknown = false
is_base_there Untyped = false
is_base_there _ = true

module _ (c : Context) (k : Known) where
  -- what is said in one, by the name that the whole is, if it is one
  abbrev pub asked_said : Option (List ℕ) → ExprTree → List Diag
  asked_said (Some x) e = []
  asked_said None e = (typed_at c k free e).said

  -- WHAT IS SAID in decorators or bases
  abbrev pub decorators_said : List ExprTree → List Diag
  decorators_said es = flat_map (λ e. asked_said (name_in e) e) es

  -- where these names are there
  module _ (there : List ℕ → Bool) where
    abbrev pub asked_typed : Option (List ℕ) → ExprTree → Bool
    asked_typed (Some x) e = there x
    asked_typed None e = is_some (typed_at c k free e).got

    -- whether each of these has a type
    abbrev pub parts_typed : List ExprTree → Bool
    parts_typed es = list_all (λ e. asked_typed (name_in e) e) es

  -- of the decorators of a function
  abbrev pub decorators_typed : List ExprTree → Bool
  decorators_typed es = parts_typed (λ x. is_there (c.meaning x)) es
