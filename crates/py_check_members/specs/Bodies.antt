-- What is said of the statements of the body of a class, but for what its defs and its annotations say themselves (Python Language
-- Reference, "Class definitions").
--
-- A def, a name with an annotation and without a value, `pass`, and a text alone may stand there. Of every other statement this alone is
-- said, and nothing of its parts. A declaration that declares nothing, since its name is declared above it in the text of the class, is said to be,
-- where its annotation has a type.
use Rattle.std.specs.Prelude.{ℕ, ◌+◌, Bool, true, false, if◌then◌else◌, List, [], ◌∷◌, ◌++◌, None, is_some}
use Rattle.py_syntax.specs.declared.token.Span.{Span}
use Rattle.py_syntax.specs.Expressions as e
use Rattle.py_syntax.specs.Expressions.{ExprTree}
use Rattle.py_syntax.specs.Statements.{StmtTree, at, Do, Annot, Pass, Def, Suite, no_stmts, stmt_then}
use Rattle.py_syntax_diagnostics.specs.declared.diagnostic.Diag.{Diag}
use Rattle.py_check_context.specs.declared.scope.Meaning.{Meaning}
use Rattle.py_check_messages.specs.Seen.{diag}
use Rattle.py_check_messages.specs.Messages as message
use Rattle.py_check_annotations.specs.Annotations.{annotation}
use Rattle.py_check_flow.specs.Bindings.{name_in}
use Rattle.py_check_members.specs.Deeds.{Deed, declares, Event, class_events}
use Rattle.py_check_members.specs.Members.{is_declaration}

-- ---- statements that may not stand there

abbrev pub is_text : ExprTree → Bool
is_text (e.at (e.Str text) span) = true
is_text _ = false

abbrev pub may_stand : StmtTree → Bool
may_stand (at (Def name params ret body marks) span) = true
may_stand (at (Annot target mark None) span) = is_some (name_in target)
may_stand (at Pass span) = true
may_stand (at (Do a) span) = is_text a
may_stand _ = false

abbrev pub place_of : StmtTree → Span
place_of (at node span) = span

abbrev pub outside_said : StmtTree → List Diag
outside_said s = if may_stand s then [] else diag (place_of s) message.outside_class_body ∷ []

abbrev pub all_outside_said : Suite → List Diag
all_outside_said no_stmts = []
all_outside_said (stmt_then s more) = outside_said s ++ all_outside_said more

-- ---- declarations that declare nothing

-- where names mean this in the module
module _ (meanings : List ℕ → Meaning) where
  abbrev pub repeated_said : ExprTree → Span → List ℕ → List Diag
  repeated_said mark place name =
      if is_some (annotation meanings mark).got then diag place (message.already_defined name) ∷ [] else []

  abbrev pub refused_by : Event → Deed → List Diag
  refused_by v (declares mark) = repeated_said mark v.place v.name
  refused_by v _ = []

  -- of an event that declares its name, or not
  abbrev pub said_unless : Bool → Event → List Diag
  said_unless found v = if found then [] else refused_by v v.deed

  abbrev pub refused_said : List Event → ℕ → Event → List Diag
  refused_said events i v = said_unless (is_declaration events i v) v

  abbrev pub refused_from : List Event → ℕ → List Event → List Diag
  refused_from events i [] = []
  refused_from events i (v ∷ more) = refused_said events i v ++ refused_from events (i + 1) more

  -- WHAT IS SAID of the body of a class
  abbrev pub body_said : Suite → List Diag
  body_said body = all_outside_said body ++ refused_from (class_events 0 body) 0 (class_events 0 body)
