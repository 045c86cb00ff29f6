-- What the program's contexts stand for, and what its walk over a module's own statements says.
use Rattle.std.specs.Prelude.{ℕ, List, [], ◌++◌, map, Option, None, unwrap_or}
use Rattle.std.specs.Option.{option_map}
use Rattle.std.specs.Str.{bytes_eq}
use Rattle.indexmap.specs.IndexMap.{IndexMap, get}
use Rattle.py_syntax.specs.declared.token.Span.{Span}
use Rattle.py_syntax.specs.Statements.{Suite, no_stmts, stmt_then}
use Rattle.py_syntax_diagnostics.specs.declared.diagnostic.Diag.{Diag}
use Rattle.py_binder.specs.declared.scope.Scope.{Scope}
use Rattle.py_typed.specs.declared.classes.Sig.{Sig}
use Rattle.py_typed.specs.declared.classes.Classes.{Classes}
use Rattle.py_typed.specs.Classes.{class_entry, signature}
use Rattle.py_check_context.specs.declared.scope.Meaning.{Meaning}
use Rattle.py_check_context.specs.declared.scope.Meaning.TheVariants.{Unknown}
use Rattle.py_check_context.specs.Context.{Context}
use Rattle.py_check_context.specs.declared.members.ClassMembers.{ClassMembers}
use Rattle.py_check_context.specs.Members.{member_in, init_in, init_behind}
use Rattle.py_check_names.specs.Outline.{stmt_definitions}
use Rattle.py_check_values.specs.Returns.{outside}
use Rattle.py_check_places.specs.Places.{Known}
use Rattle.py_check_statements.specs.Bodies.{nothing_around, after, block}
use Rattle.py_check.specs.declared.contexts.ModuleContext as declared
use Rattle.py_check_definitions.specs.Classes.{ModuleClasses}
use Rattle.py_check_definitions.specs.Definitions.{Headed}
use Rattle.py_check_definitions.specs.Views.{said_along, names_behind, classes_behind, scopes_behind}
use Rattle.py_check.specs.Module.{MembersKnown, place_by, ModuleContext, context_in, module_start, global_sorts, bodies_said}

abbrev pub places_in : {S : Type 0} → List (IndexMap (List ℕ) Span S) → List (List ℕ → Option Span)
places_in declaring = map (λ d. get bytes_eq d) declaring

abbrev pub members_of : {S : Type 0} → List ClassMembers → List (IndexMap (List ℕ) Span S) → MembersKnown
members_of members declaring = record {
  member = member_in members;
  init = init_in members;
  next_init = init_behind members;
  declaring = place_by (places_in declaring);
}

abbrev pub module_context_of : declared.ModuleContext → ModuleContext
module_context_of e = record {
  said = get bytes_eq e.known.now.said;
  variables = e.known.now.variables.keys;
  signatures = map (option_map signature) e.signatures.now;
  classes = map class_entry e.classes.now.list;
  members = members_of e.members.now e.declaring.now;
}

-- where names mean this, in no function
abbrev pub context_of : {S : Type 0} → IndexMap (List ℕ) Meaning S → List (Option Sig) → Classes → List ClassMembers → Context
context_of names sigs classes members = record {
  meaning = λ x. unwrap_or (get bytes_eq names x) Unknown;
  signatures = map (option_map signature) sigs;
  classes = map class_entry classes.list;
  member = member_in members;
  init = init_in members;
  inside = None;
}

-- along a module's own statements, whose functions have these scopes, where it has these classes
module _ (classes : ModuleClasses) (c : Context) where
  abbrev pub walk_along : Known → List (List ℕ) → ℕ → List Scope → Suite → List Diag
  walk_along k earlier n insides no_stmts = []
  walk_along k earlier n insides (stmt_then s more) =
      said_along classes c k earlier n insides (stmt_definitions s) ++ (block c outside nothing_around k (stmt_then s no_stmts)).said
      ++ walk_along (after c k s) (names_behind earlier (stmt_definitions s)) (classes_behind n (stmt_definitions s)) (scopes_behind insides (stmt_definitions s)) more

  -- from where the module begins
  abbrev pub own_along : List (List ℕ) → List Scope → Suite → List Diag
  own_along names insides m = walk_along (module_start c names m) [] 0 insides m

-- and then of the bodies of functions
abbrev pub statements_along : ModuleClasses → ModuleContext → Scope → List Scope → List Headed → Suite → List Diag
statements_along classes e top insides fs m =
    own_along classes (context_in e top) e.variables insides m ++ bodies_said e (global_sorts e top fs m) fs
