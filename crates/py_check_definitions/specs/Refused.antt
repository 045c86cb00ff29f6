-- What is refused where nothing is said of a module.
--
-- The parts of definitions can hang on one another: a decorator that calls its own function, which has no signature, silences it.
-- So that no module is without a typed tree and without a diagnostic, each function with decorators is outside the profile where
-- nothing at all is said of a module, and so is each class that is not whole: one without a type, or with an attribute that has none.
use Rattle.std.specs.Prelude.{ℕ, ◌+◌, Bool, true, false, ◌&&◌, if◌then◌else◌, List, [], ◌∷◌, ◌++◌, length, slice_get}
use Rattle.std.specs.List.{list_all}
use Rattle.py_syntax.specs.declared.token.Span.{Span}
use Rattle.py_syntax.specs.Expressions.{ExprTree}
use Rattle.py_syntax.specs.Statements.{StmtTree, at, Def, ClassDef, Suite, no_stmts, stmt_then, ClassTree}
use Rattle.py_syntax_diagnostics.specs.declared.diagnostic.Diag.{Diag}
use Rattle.py_check_context.specs.Members.{Member, attribute, method}
use Rattle.py_check_messages.specs.Seen.{diag}
use Rattle.py_check_messages.specs.Messages as message
use Rattle.py_check_classes.specs.declared.header.Header.{Header}
use Rattle.py_check_classes.specs.Names.{class_in}
use Rattle.py_check_classes.specs.Headers.{has_type}
use Rattle.py_check_members.specs.Members.{own_at}

abbrev pub decorated_said : Span → List ℕ → List ExprTree → List Diag
decorated_said span name [] = []
decorated_said span name (mark ∷ marks) = diag span (message.outside_profile name) ∷ []

-- a function in the body of a class, and all of them
abbrev pub method_refused : StmtTree → List Diag
method_refused (at (Def name params ret body marks) span) = decorated_said span name marks
method_refused _ = []

abbrev pub methods_refused : Suite → List Diag
methods_refused no_stmts = []
methods_refused (stmt_then s more) = method_refused s ++ methods_refused more

-- a class that is whole or not, and the functions in its body
abbrev pub unless_whole : Bool → Span → List ℕ → List Diag
unless_whole whole span name = if whole then [] else diag span (message.outside_profile name) ∷ []

abbrev pub class_refused : Bool → Span → ClassTree → List Diag
class_refused whole span x = unless_whole whole span x.name ++ methods_refused x.body

-- a definition, where a class is whole or not
abbrev pub refused : Bool → StmtTree → List Diag
refused whole (at (Def name params ret body marks) span) = decorated_said span name marks
refused whole (at (ClassDef name bases body marks) span) =
    class_refused whole span (record { name = name; bases = bases; body = body; marks = marks })
refused whole _ = []

-- ---- whole classes

-- a method, or an attribute with a type
abbrev pub is_whole_member : Member → Bool
is_whole_member (attribute t) = true
is_whole_member (method f) = true
is_whole_member _ = false

abbrev pub are_whole : List (List ℕ × Member) → Bool
are_whole members = list_all (λ p. is_whole_member p.1) members

-- where classes have these headers, and these members of their own
module _ (headers : List Header) (owns : List (List (List ℕ × Member))) where
  -- THE CLASS of a number is whole
  abbrev pub is_whole : ℕ → Bool
  is_whole n = has_type (slice_get headers n) && are_whole (own_at owns n)

  -- WHAT IS REFUSED of definitions, behind so many classes
  abbrev pub refusals : ℕ → List StmtTree → List Diag
  refusals n [] = []
  refusals n (s ∷ more) = refused (is_whole n) s ++ refusals (n + length (class_in s)) more

-- where nothing is said
abbrev pub or_refused : List Diag → List Diag → List Diag
or_refused [] refused = refused
or_refused (d ∷ said) refused = d ∷ said
