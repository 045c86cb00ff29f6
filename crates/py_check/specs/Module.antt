-- THE TYPING OF A MODULE: its diagnostics, and its typed tree (Python Language Reference, "Top-level components"; PEP 484).
--
-- First come all signatures and the members of all classes, so that functions and classes are called from anywhere; then the module's
-- own statements, which fix the types of its variables, and among them its definitions, each with what is known where it stands; and
-- then the bodies of functions by their numbers, methods at the place of their class, each of which knows these, whatever the others
-- do. Functions, classes and variables are known by their numbers.
--
-- The typed tree has every function, class and variable at its number. Where something is wrong there is no answer with a tree, and
-- what has no type stands in it as what says nothing: a body without statements, a signature without parameters, a class without
-- members, a variable that is None.
use Rattle.std.specs.Prelude.{ℕ, ◌+◌, false, List, [], ◌∷◌, ◌++◌, map, length, Option, Some, None, unwrap_or, slice_get}
use Rattle.std.specs.List.{flat_map}
use Rattle.std.specs.Option.{option_and_then}
use Rattle.py_syntax.specs.declared.token.Span.{Span}
use Rattle.py_syntax.specs.Expressions.{ExprTree}
use Rattle.py_syntax.specs.Statements.{Suite, no_stmts, stmt_then}
use Rattle.py_syntax_diagnostics.specs.declared.diagnostic.Diag.{Diag}
use Rattle.py_binder.specs.declared.scope.Scope.{Scope}
use Rattle.py_binder.specs.Scope.{Roles, param_names, module_scope, module_role, function_scope, functions}
use Rattle.py_binder.specs.Faults.{faults}
use Rattle.py_syntax_diagnostics.specs.Order.{by_place}
use Rattle.py_typed.specs.Sorts as sort
use Rattle.py_typed.specs.Sorts.{Sort}
use Rattle.py_typed.specs.Classes.{ClassEntry, Signature}
use Rattle.py_typed.specs.Statements.{Variable, TypedStmt, TypedFunc, TypedModule, TypedSuite, suite_of}
use Rattle.py_check_context.specs.declared.scope.Meaning.{Meaning}
use Rattle.py_check_context.specs.Context.{Context, VarSort}
use Rattle.py_check_context.specs.Members.{Member, Inside}
use Rattle.py_check_flow.specs.Bindings.{suite_bindings}
use Rattle.py_check_messages.specs.Seen.{Seen}
use Rattle.py_check_signatures.specs.declared.headers.Owner.{Owner}
use Rattle.py_check_signatures.specs.declared.headers.Owner.TheVariants as owner
use Rattle.py_check_signatures.specs.Headers.{signature_of, is_init}
use Rattle.py_check_names.specs.Outline.{stmt_definitions, suite_definitions}
use Rattle.py_check_names.specs.Meanings.{variables, own_names, number, meaning_in}
use Rattle.py_check_classes.specs.declared.header.Header.{Header}
use Rattle.py_check_classes.specs.Names.{classes_in}
use Rattle.py_check_classes.specs.Headers.{module_headers}
use Rattle.py_check_members.specs.Members.{Owns, own_members, meanings_inside, member_along, init_along, init_behind_along, class_entries, declaring}
use Rattle.py_check_overrides.specs.Overrides.{verdicts}
use Rattle.py_check_overrides.specs.Own.{own_in}
use Rattle.py_check_values.specs.Returns as ret
use Rattle.py_check_values.specs.Returns.{ReturnSort}
use Rattle.py_check_places.specs.Places.{Known}
use Rattle.py_check_statements.specs.Bodies.{nothing_around, after, block, block_after}
use Rattle.py_check_definitions.specs.Classes.{ModuleClasses}
use Rattle.py_check_definitions.specs.Names.{known_in, module_meaning}
use Rattle.py_check_definitions.specs.Definitions.{Headed, headed_functions, signatures, names_given, definitions_said, inner_definitions_said}
use Rattle.py_check_definitions.specs.Refused.{refusals, or_refused}
use Rattle.py_check_definitions.specs.Starts.{start_sort, own_sort}
use Rattle.py_check_definitions.specs.Variables.{typed_variables, numbers_from}

-- ---- what stands in the typed tree

abbrev pub statements_of : Option (List TypedStmt) → TypedSuite
statements_of typed = suite_of (unwrap_or typed [])

abbrev pub plain_signature : Option Signature → Signature
plain_signature s = unwrap_or s (record { params = []; ret = sort.Nothing })

-- the class that a function stands in, where that has a type
abbrev pub class_of : Owner → Option ℕ
class_of owner.Module = None
class_of (owner.Class c) = c
class_of owner.UntypedTrait = None

-- a function, the types of its own variables behind its body, and its statements, if they are typed
abbrev pub function_by : Headed → List VarSort → Option (List TypedStmt) → TypedFunc
function_by f locals typed = record {
  name = f.tree.name;
  class = class_of f.header.owner;
  params = length f.tree.params;
  locals = typed_variables locals (own_names f.inside);
  ret = unwrap_or f.header.ret sort.Nothing;
  body = statements_of typed;
}

-- a module of these classes, of functions with these headers, of these variables and functions, and of these own statements
abbrev pub module_by : List ClassEntry → List Headed → List Variable → List TypedFunc → TypedSuite → TypedModule
module_by classes fs globals funcs top = record {
  classes = record { classes = classes; signatures = map (λ f. plain_signature (signature_of f.header)) fs };
  globals = globals;
  funcs = funcs;
  top = top;
}

-- ---- contexts

-- what is known of the members of classes, by the numbers of these: what a class has under a name, its `__init__` and the next one
-- behind it, and the place of the statement of its own `__init__` that declares an attribute of a name by an annotation
pub record MembersKnown : Type 0 where
  pub member : ℕ → List ℕ → Option Member
  pub init : ℕ → Option ℕ
  pub next_init : ℕ → Option ℕ
  pub declaring : ℕ → List ℕ → Option Span

-- of the class of a number among these
abbrev pub place_of : Option (List ℕ → Option Span) → List ℕ → Option Span
place_of None name = None
place_of (Some place) name = place name

abbrev pub place_by : List (List ℕ → Option Span) → ℕ → List ℕ → Option Span
place_by places n name = place_of (slice_get places n) name

-- what all scopes of a module share: what its definitions say of names, its variables, the signatures of its functions, and its
-- classes with their members
pub record ModuleContext : Type 0 where
  pub said : List ℕ → Option Meaning
  pub variables : List (List ℕ)
  pub signatures : List (Option Signature)
  pub classes : List ClassEntry
  pub members : MembersKnown

-- where names mean this, in this method, if in one; in a scope; and in the module's own
abbrev pub context_by : (List ℕ → Meaning) → Option Inside → ModuleContext → Context
context_by meanings inside e = record {
  meaning = meanings;
  signatures = e.signatures;
  classes = e.classes;
  member = e.members.member;
  init = e.members.init;
  inside = inside;
}

abbrev pub context_at : ModuleContext → Option Inside → Scope → Context
context_at e method inside = context_by (meaning_in e.said e.variables inside) method e

abbrev pub context_in : ModuleContext → Scope → Context
context_in e inside = context_at e None inside

-- ---- methods

abbrev pub first_name : List (List ℕ × Option ExprTree) → Option (List ℕ)
first_name [] = None
first_name (p ∷ more) = Some p.0

-- of a class without a type nothing is known
abbrev pub declaring_in : MembersKnown → Option ℕ → List ℕ → Option Span
declaring_in w class name = option_and_then (λ n. w.declaring n name) class

abbrev pub method_inside : MembersKnown → Headed → Option ℕ → Inside
method_inside w f class = record {
  class = class;
  first = first_name f.tree.params;
  is_init = is_init f.header.owner f.tree.name;
  declaring = declaring_in w class;
  next_init = option_and_then w.next_init class;
}

-- for `super().__init__` a trait without a type has no `__init__`; nothing else hangs on that in a class without a type
abbrev pub trait_inside : Headed → Inside
trait_inside f = record { class = None; first = first_name f.tree.params; is_init = false; declaring = λ name. None; next_init = None }

-- the method that a function is
abbrev pub inside_by : MembersKnown → Headed → Owner → Option Inside
inside_by w f owner.Module = None
inside_by w f (owner.Class c) = Some (method_inside w f c)
inside_by w f owner.UntypedTrait = Some (trait_inside f)

abbrev pub function_context : ModuleContext → Headed → Context
function_context e f = context_at e (inside_by e.members f f.header.owner) f.inside

-- ---- the module's own statements

module _ (c : Context) (names : List (List ℕ)) (m : Suite) where
  abbrev pub module_start : Known
  module_start = record {
    types = record { locals = []; globals = map (start_sort c.meaning (suite_bindings m)) names };
    locals_bound = [];
    globals_bound = [];
    names = [];
  }

  abbrev pub own_statements : Seen (List TypedStmt)
  own_statements = block c ret.outside nothing_around module_start m

  -- the types of the module's variables behind them
  abbrev pub fixed_sorts : List VarSort
  fixed_sorts = (block_after c module_start m).types.globals

-- ---- what is said along them

-- OF EACH STATEMENT, behind definitions of these names and so many classes: of the definitions in it, with what is known where it
-- begins, and of itself. In every text a definition is a whole statement of the module
module _ (roles : Roles) (classes : ModuleClasses) (c : Context) where
  abbrev pub walk_said : Known → List (List ℕ) → ℕ → Suite → List Diag
  walk_said k earlier n no_stmts = []
  walk_said k earlier n (stmt_then s more) =
      definitions_said roles classes c k earlier n (stmt_definitions s) ++ (block c ret.outside nothing_around k (stmt_then s no_stmts)).said
      ++ walk_said (after c k s) (earlier ++ flat_map names_given (stmt_definitions s)) (n + length (classes_in (stmt_definitions s))) more

-- ---- a function's body

abbrev pub return_of : Option Sort → ReturnSort
return_of None = ret.untyped
return_of (Some t) = ret.gives t

-- where the module's variables have these names and types
module _ (c : Context) (names : List (List ℕ)) (sorts : List VarSort) (f : Headed) where
  -- the parameters are bound, and so are the variables of the module
  abbrev pub function_start : Known
  function_start = record {
    types = record {
      locals = map (own_sort c.meaning (suite_bindings f.tree.body) (param_names f.tree) f.header.params) (own_names f.inside);
      globals = sorts;
    };
    locals_bound = map (number (own_names f.inside)) (param_names f.tree);
    globals_bound = numbers_from 0 names;
    names = [];
  }

  abbrev pub body : Seen (List TypedStmt)
  body = block c (return_of f.header.ret) nothing_around function_start f.tree.body

  abbrev pub body_after : Known
  body_after = block_after c function_start f.tree.body

  abbrev pub typed_function : TypedFunc
  typed_function = function_by f body_after.types.locals body.got

-- ---- all bodies, by the numbers of functions

-- where the module's variables have these types: all bodies begin with them
module _ (e : ModuleContext) (sorts : List VarSort) where
  abbrev pub bodies_said : List Headed → List Diag
  bodies_said fs = flat_map (λ f. (body (function_context e f) e.variables sorts f).said) fs

  abbrev pub typed_functions : List Headed → List TypedFunc
  typed_functions fs = map (λ f. typed_function (function_context e f) e.variables sorts f) fs

-- ---- the whole

-- of these functions and statements, where these names are seen in the module
module _ (e : ModuleContext) (top : Scope) (fs : List Headed) (m : Suite) where
  -- the types of the module's variables behind its own statements
  abbrev pub global_sorts : List VarSort
  global_sorts = fixed_sorts (context_in e top) e.variables m

  -- where names of the module are this, and it has these classes
  abbrev pub statements_said : Roles → ModuleClasses → List Diag
  statements_said roles classes =
      walk_said roles classes (context_in e top) (module_start (context_in e top) e.variables m) [] 0 m ++ bodies_said e global_sorts fs

  -- the variables, the functions and the own statements
  abbrev pub global_variables : List Variable
  global_variables = typed_variables global_sorts e.variables

  abbrev pub functions_by : List TypedFunc
  functions_by = typed_functions e global_sorts fs

  abbrev pub top_by : TypedSuite
  top_by = statements_of (own_statements (context_in e top) e.variables m).got

  abbrev pub typed_parts : TypedModule
  typed_parts = module_by e.classes fs global_variables functions_by top_by

-- ---- classes

-- where the classes have these headers, these members of their own, and these places of declarations
abbrev pub members_known : List Header → Owns → List (List ℕ → Option Span) → MembersKnown
members_known headers owns places = record {
  member = member_along owns headers;
  init = init_along owns headers;
  next_init = init_behind_along owns headers;
  declaring = place_by places;
}

module _ (m : Suite) where
  -- the members that classes have of their own
  abbrev pub module_owns : Owns
  module_owns =
      own_members (module_headers m) (module_meaning m) (meanings_inside (known_in m) (variables (module_scope m)) (map (function_scope (module_role m)) (functions m))) (suite_definitions m)

  abbrev pub module_context : ModuleContext
  module_context = record {
    said = known_in m;
    variables = variables (module_scope m);
    signatures = signatures m;
    classes = class_entries (module_headers m) (suite_definitions m) module_owns;
    members = members_known (module_headers m) module_owns (map (λ c. declaring c.body) (classes_in (suite_definitions m)));
  }

  abbrev pub module_classes : ModuleClasses
  module_classes = record {
    headers = module_headers m;
    verdicts = verdicts (module_headers m) (map (own_in (signatures m)) module_owns);
  }

  -- all that typing says, in the order of its walk, then what stands in bodies and may not, and then the faults of names, which
  -- binding finds and of which typing says nothing
  abbrev pub walked : List Diag
  walked =
      statements_said module_context (module_scope m) (headed_functions m) m (module_role m) module_classes ++ flat_map inner_definitions_said (functions m) ++ faults m

  -- ALL THAT IS SAID
  abbrev pub said : List Diag
  said = or_refused walked (refusals (module_headers m) module_owns 0 (suite_definitions m))

  -- THE DIAGNOSTICS of a module, by their places; at one place the fault of a name comes last, since nothing stands in a name
  abbrev pub diagnostics : List Diag
  diagnostics = by_place said

  -- THE TYPED MODULE
  abbrev pub typed : TypedModule
  typed = typed_parts module_context (module_scope m) (headed_functions m) m
