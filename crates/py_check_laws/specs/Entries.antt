-- WHERE THE ENTRIES OF A STATEMENT STAND: at its own place, or they are those of its parts.
--
-- All that is said of a statement is taken as a function of its place, so that of a statement and a part that begins with the same
-- token these laws say which of the two an entry is of. A list of entries is put in order by their places, and what was said first at
-- one place stays first there: at one place entries come outer first.
use Rattle.std.specs.Prelude.{◌≡◌, ℕ, Bool, true, false, List, ◌++◌, map, Option, Some, None, ◌⊎◌}
use Rattle.py_syntax.specs.declared.token.Span.{Span}
use Rattle.py_syntax.specs.Expressions.{ExprTree}
use Rattle.py_syntax.specs.Statements as node
use Rattle.py_syntax.specs.Statements.{StmtNode}
use Rattle.py_syntax_diagnostics.specs.declared.diagnostic.Diag.{Diag}
use Rattle.py_check_context.specs.Members.{Inside}
use Rattle.py_check_context.specs.Context.{Context}
use Rattle.py_check_messages.specs.Seen.{Message, diag}
use Rattle.py_check_values.specs.Returns.{ReturnSort}
use Rattle.py_check_places.specs.Places.{Known}
use Rattle.py_check_targets.specs.Attributes.{own_attribute, declares_at}
use Rattle.py_check_statements.specs.Bodies.{node_statement}
use Rattle.py_check_statements.specs.declared.bodies.Around.{Around}

abbrev pub is_for : StmtNode → Bool
is_for (node.For target e body) = true
is_for n = false

-- a statement at this place is the one that declares an attribute of the object that an `__init__` sets up
abbrev pub is_declaring : Option Inside → Option (ExprTree × List ℕ) → Span → Bool
is_declaring i None place = false
is_declaring i (Some p) place = declares_at i p.1 place

abbrev pub declares_there : Context → StmtNode → Span → Bool
declares_there c (node.Annot target mark e) place = is_declaring c.inside (own_attribute c.inside target) place
declares_there c n place = false

-- all that is said of a statement, wherever it stands: these messages at its own place, which hang on that place only by whether the
-- statement there declares an attribute; or else what is said of its parts, which hangs nowhere on the place. So where a statement has
-- an entry, nothing is said of its parts. Only a `for` may have both, since its entry silences nothing in its body: its own stands in
-- front of all that is said there
abbrev pub StatementOwnOrOfParts : Type 0
StatementOwnOrOfParts =
    (c : Context) (ret : ReturnSort) (a : Around) (k : Known) (n : StmtNode)
    → (((ms : Bool → List Message) × ((place : Span) → (node_statement c ret a k place n).said ≡ map (diag place) (ms (declares_there c n place)))) ⊎ ((place other : Span) → (node_statement c ret a k place n).said ≡ (node_statement c ret a k other n).said))
    ⊎ ((is_for n ≡ true) × ((ms : List Message) × (parts : List Diag) × ((place : Span) → (node_statement c ret a k place n).said ≡ map (diag place) ms ++ parts)))
