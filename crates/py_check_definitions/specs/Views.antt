-- What the program's functions and scopes stand for, and what its walk over definitions says.
use Rattle.std.specs.Prelude.{ℕ, ◌+◌, Bool, false, List, [], ◌∷◌, ◌++◌, length, map, drop, Option, Some, None}
use Rattle.std.specs.List.{zip}
use Rattle.std.specs.Option.{option_map}
use Rattle.std.specs.Str.{bytes_eq}
use Rattle.indexmap.specs.IndexMap.{get}
use Rattle.indexmap.specs.IndexSet.{insert_all, insert_key}
use denote.Ref.{Bor}
use Rattle.py_syntax.specs.declared.expression.Expr.{Expr}
use Rattle.py_syntax.specs.Expressions.{ExprTree, expr_tree}
use Rattle.py_syntax.specs.declared.token.Span.{Span}
use Rattle.py_syntax.specs.Statements.{StmtTree, at, Annot, Def, ClassDef, Import, From, Suite, no_stmts, stmt_then, FuncTree, ClassTree, func_tree}
use Rattle.py_syntax_diagnostics.specs.declared.diagnostic.Diag.{Diag}
use Rattle.py_binder.specs.declared.scope.Scope.{Scope}
use Rattle.py_typed.specs.Sorts.{Sort}
use Rattle.py_check_context.specs.declared.scope.Meaning.{Meaning}
use Rattle.py_check_context.specs.Context.{Context, VarSort}
use Rattle.py_check_flow.specs.Bindings.{name_in}
use Rattle.py_check_names.specs.declared.meanings.ModuleNames.{ModuleNames}
use Rattle.py_check_names.specs.Outline.{may_import_all, held_by, method_in}
use Rattle.py_check_names.specs.Meanings.{meaning_in}
use Rattle.py_check_classes.specs.declared.header.Header.{Header}
use Rattle.py_check_classes.specs.Names.{class_in, numbered}
use Rattle.py_check_classes.specs.Headers.{typed_meaning}
use Rattle.py_check_members.specs.Deeds.{taken_name}
use Rattle.py_check_members.specs.Bodies.{body_said}
use Rattle.py_check_overrides.specs.Views.{verdict}
use Rattle.py_check_signatures.specs.declared.headers.Owner.{Owner}
use Rattle.py_check_signatures.specs.declared.headers.Owner.TheVariants as owner
use Rattle.py_check_signatures.specs.Headers.{header}
use Rattle.py_check_signatures.specs.Definitions.{is_new}
use Rattle.py_check_signatures.specs.Views.{header_sorts, parts}
use Rattle.py_check_places.specs.Places.{Known}
use Rattle.py_check_definitions.specs.declared.functions.Function.{Function}
use Rattle.py_check_definitions.specs.declared.definitions.ClassTables.{ClassTables}
use Rattle.py_check_definitions.specs.declared.decorators.Asked.{Asked}
use Rattle.py_check_definitions.specs.declared.decorators.Asked.TheVariants.{Decorator, Base}
use Rattle.py_check_definitions.specs.Decorators.{is_there, is_base_there, decorators_said}
use Rattle.py_check_definitions.specs.Owners.{class_owner}
use Rattle.py_check_definitions.specs.Classes.{ModuleClasses, class_header_said}
use Rattle.py_check_definitions.specs.Starts.{by_mark, or_param, param_sort}
use Rattle.py_check_definitions.specs.Definitions.{Headed, function_said, attribute_said, import_said, names_given}

abbrev pub headed_of : Function → Headed
headed_of f = record { tree = func_tree f.tree.now; inside = f.inside.now; header = header_sorts f.header }

abbrev pub headed_parts : Function → Headed
headed_parts f = record { tree = parts f.tree.now; inside = f.inside.now; header = header_sorts f.header }

-- functions with their owners and their scopes, one to one
abbrev pub headed_with : (List ℕ → Meaning) → (FuncTree × Owner) × Scope → Headed
headed_with meanings p = record { tree = p.0.0; inside = p.1; header = header meanings p.0.1 p.0.0 }

abbrev pub headed_all : (List ℕ → Meaning) → List FuncTree → List Owner → List Scope → List Headed
headed_all meanings fs owners scopes = map (headed_with meanings) (zip (zip fs owners) scopes)

-- what is said of names, once the classes among them that have a type are known
abbrev pub with_typed : List Header → List ℕ × Meaning → List ℕ × Meaning
with_typed headers p = (p.0, typed_meaning headers p.1)

abbrev pub known_from : List Header → ℕ → List (List ℕ × Meaning) → List (List ℕ × Meaning)
known_from headers n said = map (with_typed headers) (numbered n said)

-- the classes of a module
abbrev pub classes_seen : ClassTables → ModuleClasses
classes_seen t = record { headers = t.headers.now; verdicts = map verdict t.verdicts.now }

-- the names that are there where they are asked so
abbrev pub names_there : Asked → Context → List ℕ → Bool
names_there Decorator c x = is_there (c.meaning x)
names_there Base c x = is_base_there (c.meaning x)

-- the name that a statement in the body of a class takes, put behind these
abbrev pub insert_taken : List (List ℕ) → Option (List ℕ) → List (List ℕ)
insert_taken earlier None = earlier
insert_taken earlier (Some name) = insert_key bytes_eq earlier name

module _ (c : Context) (k : Known) where
  -- of a function, by the scopes of which the first is its own
  abbrev pub first_said : Span → Owner → Bool → List Scope → FuncTree → List Diag
  first_said span whose fresh [] f = []
  first_said span whose fresh (inside ∷ more) f = function_said c k span whose fresh inside f

  -- along the body of a class, each def of which takes its scope off the row
  abbrev pub member_at : Owner → List (List ℕ) → List Scope → StmtTree → List Diag
  member_at whose earlier insides (at (Def name params ret body marks) span) =
      first_said span whose (is_new earlier name) insides (record { name = name; params = params; ret = ret; body = body; marks = marks })
  member_at whose earlier insides (at (Annot target mark None) span) = attribute_said c.meaning (name_in target) mark
  member_at whose earlier insides _ = []

  abbrev pub members_along : Owner → List (List ℕ) → List Scope → Suite → List Diag
  members_along whose earlier insides no_stmts = []
  members_along whose earlier insides (stmt_then s more) =
      member_at whose earlier insides s
      ++ members_along whose (insert_taken earlier (taken_name s)) (drop (length (method_in s)) insides) more

-- where a module has these classes
module _ (classes : ModuleClasses) (c : Context) (k : Known) where
  -- of a class, by the scopes of which the first are those of its methods
  abbrev pub class_along : ℕ → Span → List Scope → ClassTree → List Diag
  class_along n span insides x =
      decorators_said c k x.marks ++ decorators_said c k x.bases
      ++ members_along c k (class_owner classes.headers n) [] insides x.body ++ body_said c.meaning x.body
      ++ class_header_said classes c k n span x

  abbrev pub said_at : List (List ℕ) → ℕ → List Scope → StmtTree → List Diag
  said_at earlier n insides (at (Def name params ret body marks) span) =
      first_said c k span owner.Module (is_new earlier name) insides (record { name = name; params = params; ret = ret; body = body; marks = marks })
  said_at earlier n insides (at (ClassDef name bases body marks) span) =
      class_along n span insides (record { name = name; bases = bases; body = body; marks = marks })
  said_at earlier n insides (at (Import name other) span) = import_said false span
  said_at earlier n insides (at (From name names) span) = import_said (may_import_all name names) span
  said_at earlier n insides _ = []

  -- along definitions, each of which takes the scopes of its functions off the row
  abbrev pub said_along : List (List ℕ) → ℕ → List Scope → List StmtTree → List Diag
  said_along earlier n insides [] = []
  said_along earlier n insides (s ∷ more) =
      said_at earlier n insides s
      ++ said_along (insert_all bytes_eq earlier (names_given s)) (n + length (class_in s)) (drop (length (held_by s)) insides) more

-- the names, the classes and the scopes behind them
abbrev pub names_behind : List (List ℕ) → List StmtTree → List (List ℕ)
names_behind earlier [] = earlier
names_behind earlier (s ∷ more) = names_behind (insert_all bytes_eq earlier (names_given s)) more

abbrev pub classes_behind : ℕ → List StmtTree → ℕ
classes_behind n [] = n
classes_behind n (s ∷ more) = classes_behind (n + length (class_in s)) more

abbrev pub scopes_behind : List Scope → List StmtTree → List Scope
scopes_behind insides [] = insides
scopes_behind insides (s ∷ more) = scopes_behind (drop (length (held_by s)) insides) more

-- an annotation, if there is one
abbrev pub mark_tree : Option (Bor Expr) → Option ExprTree
mark_tree = option_map (λ e. expr_tree e.now)

-- the type of a function's own variable by such annotations, where its parameters have these names and types
abbrev pub sort_by : (List ℕ → Meaning) → (List ℕ → Option (Option ExprTree)) → List (List ℕ) → List (Option Sort) → List ℕ → VarSort
sort_by meanings mark params sorts name = or_param (param_sort params sorts name) (by_mark meanings (mark name))

-- what names mean in a scope
abbrev pub meanings_by : ModuleNames → Scope → List ℕ → Meaning
meanings_by k inside = meaning_in (get bytes_eq k.said) k.variables.keys inside
