-- What is said of a module's definitions and imports where they stand, and the signatures of its functions (Python Language
-- Reference, "Function definitions", "Class definitions" and "The import statement"; PEP 484).
--
-- The parts of a definition are typed where it stands, with what is known there: decorators and annotations, and of a class
-- decorators and bases. Where each of them has a type, the definition is asked for its own rule, and where one has none nothing is
-- said of it. Annotations are seen in the module's scope, and the signature of a function hangs on them alone. A name is new where
-- no definition and no import earlier in the text has it. An import is of names that may be imported, each under its own name.
-- Classes are known by their numbers, in the order of the text. In the body of a class each def is a method, whose name is new
-- where no def and no declared attribute earlier in that body has it, and each attribute that is declared there has its annotation
-- typed. What may not stand there, and what is declared a second time, is said of the body as a whole.
use Rattle.std.specs.Prelude.{ℕ, ◌+◌, Bool, true, false, List, [], ◌∷◌, ◌++◌, map, length, Option, Some, None}
use Rattle.std.specs.List.{flat_map, zip}
use Rattle.py_syntax.specs.declared.token.Span.{Span}
use Rattle.py_syntax.specs.Expressions.{ExprTree}
use Rattle.py_syntax.specs.Statements.{StmtTree, at, Annot, Def, ClassDef, Import, From, Suite, no_stmts, stmt_then, FuncTree, ClassTree}
use Rattle.py_syntax_diagnostics.specs.declared.diagnostic.Diag.{Diag}
use Rattle.py_binder.specs.declared.scope.Scope.{Scope}
use Rattle.py_binder.specs.Scope.{Roles, module_role, function_scope, functions}
use Rattle.py_typed.specs.Classes.{Signature}
use Rattle.py_check_context.specs.declared.scope.Meaning.{Meaning}
use Rattle.py_check_context.specs.Context.{Context}
use Rattle.py_check_messages.specs.Seen.{diag}
use Rattle.py_check_messages.specs.Messages as message
use Rattle.py_check_flow.specs.Bindings.{name_in}
use Rattle.py_check_annotations.specs.Annotations.{annotation}
use Rattle.py_check_names.specs.Outline.{said_by, may_import_all, suite_definitions}
use Rattle.py_check_signatures.specs.declared.headers.Owner.{Owner}
use Rattle.py_check_signatures.specs.declared.headers.Owner.TheVariants as owner
use Rattle.py_check_signatures.specs.Headers.{HeaderSorts, header, header_said, signature_of}
use Rattle.py_check_signatures.specs.Definitions.{is_new, own_count, def_said}
use Rattle.py_check_classes.specs.Names.{class_in}
use Rattle.py_check_members.specs.Deeds.{taken_name}
use Rattle.py_check_members.specs.Bodies.{body_said}
use Rattle.py_check_places.specs.Places.{Known}
use Rattle.py_check_definitions.specs.Decorators.{decorators_typed, decorators_said}
use Rattle.py_check_definitions.specs.Names.{module_meaning}
use Rattle.py_check_definitions.specs.Owners.{class_owner, owners}
use Rattle.py_check_definitions.specs.Classes.{ModuleClasses, class_header_said}

-- a function with its scope, and whose it is and what its annotations give
pub record Headed : Type 0 where
  pub tree : FuncTree
  pub inside : Scope
  pub header : HeaderSorts

abbrev pub headed : Roles → (List ℕ → Meaning) → FuncTree × Owner → Headed
headed roles meanings p = record { tree = p.0; inside = function_scope roles p.0; header = header meanings p.1 p.0 }

-- ---- what is said of one definition, where this is known

-- behind these names the name that a statement in the body of a class takes, if it takes one
abbrev pub with_taken : List (List ℕ) → Option (List ℕ) → List (List ℕ)
with_taken earlier None = earlier
with_taken earlier (Some name) = earlier ++ name ∷ []

-- in the annotation of an attribute of this name, if it is one
abbrev pub attribute_said : (List ℕ → Meaning) → Option (List ℕ) → ExprTree → List Diag
attribute_said meanings None mark = []
attribute_said meanings (Some name) mark = (annotation meanings mark).said

module _ (c : Context) (k : Known) where
  -- OF A FUNCTION of this owner, with these names inside, whose own name is new or not: first of its parts
  abbrev pub function_said : Span → Owner → Bool → Scope → FuncTree → List Diag
  function_said span whose fresh inside f =
      decorators_said c k f.marks ++ header_said c.meaning f
      ++ def_said span fresh (own_count inside) (decorators_typed c k f.marks) f (header c.meaning whose f)

-- where a module has these roles
module _ (roles : Roles) (c : Context) (k : Known) where
  -- OF A STATEMENT in the body of a class, behind these names there
  abbrev pub member_said : Owner → List (List ℕ) → StmtTree → List Diag
  member_said whose earlier (at (Def name params ret body marks) span) =
      function_said c k span whose (is_new earlier name) (function_scope roles (record { name = name; params = params; ret = ret; body = body; marks = marks }))
      (record { name = name; params = params; ret = ret; body = body; marks = marks })
  member_said whose earlier (at (Annot target mark None) span) = attribute_said c.meaning (name_in target) mark
  member_said whose earlier _ = []

  abbrev pub members_said : Owner → List (List ℕ) → Suite → List Diag
  members_said whose earlier no_stmts = []
  members_said whose earlier (stmt_then s more) =
      member_said whose earlier s ++ members_said whose (with_taken earlier (taken_name s)) more

  -- OF THE CLASS of a number: of its parts, of its body, and of its header and its members
  abbrev pub class_said : ModuleClasses → ℕ → Span → ClassTree → List Diag
  class_said classes n span x =
      decorators_said c k x.marks ++ decorators_said c k x.bases
      ++ members_said (class_owner classes.headers n) [] x.body ++ body_said c.meaning x.body
      ++ class_header_said classes c k n span x

abbrev pub import_said : Bool → Span → List Diag
import_said true span = []
import_said false span = diag span message.outside_import ∷ []

-- the names that a definition or an import gives
abbrev pub names_given : StmtTree → List (List ℕ)
names_given s = map (λ p. p.0) (said_by 0 s)

-- where a module has these roles and classes
module _ (roles : Roles) (classes : ModuleClasses) (c : Context) (k : Known) where
  -- behind these names and so many classes, which stand earlier in the text
  abbrev pub definition_said : List (List ℕ) → ℕ → StmtTree → List Diag
  definition_said earlier n (at (Def name params ret body marks) span) =
      function_said c k span owner.Module (is_new earlier name) (function_scope roles (record { name = name; params = params; ret = ret; body = body; marks = marks }))
      (record { name = name; params = params; ret = ret; body = body; marks = marks })
  definition_said earlier n (at (ClassDef name bases body marks) span) =
      class_said roles c k classes n span (record { name = name; bases = bases; body = body; marks = marks })
  definition_said earlier n (at (Import name other) span) = import_said false span
  definition_said earlier n (at (From name names) span) = import_said (may_import_all name names) span
  definition_said earlier n _ = []

  abbrev pub definitions_said : List (List ℕ) → ℕ → List StmtTree → List Diag
  definitions_said earlier n [] = []
  definitions_said earlier n (s ∷ more) =
      definition_said earlier n s ++ definitions_said (earlier ++ names_given s) (n + length (class_in s)) more

-- ---- in a function's body

-- nothing is imported or defined there
abbrev pub inner_said : StmtTree → List Diag
inner_said (at (Def name params ret body marks) span) = diag span (message.outside_profile name) ∷ []
inner_said (at (ClassDef name bases body marks) span) = diag span (message.outside_profile name) ∷ []
inner_said (at (Import name other) span) = diag span message.outside_import ∷ []
inner_said (at (From name names) span) = diag span message.outside_import ∷ []
inner_said _ = []

abbrev pub inner_definitions_said : FuncTree → List Diag
inner_definitions_said f = flat_map inner_said (suite_definitions f.body)

-- ---- over the module

module _ (m : Suite) where
  -- the functions by their numbers
  abbrev pub headed_functions : List Headed
  headed_functions = map (headed (module_role m) (module_meaning m)) (zip (functions m) (owners m))

  -- THE SIGNATURES of functions by their numbers: some have none
  abbrev pub signatures : List (Option Signature)
  signatures = map (λ f. signature_of f.header) headed_functions
