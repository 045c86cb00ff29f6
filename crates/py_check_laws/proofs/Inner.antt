-- A body of which nothing is said holds no definitions and no imports.
use Rattle.std.proofs.Common.{◌≡◌, ◌∙◌, List, [], ◌++◌, refl, ap₂, sym}
use Rattle.std.proofs.lemmas.Grind.{flat_map-append}
use Rattle.std.specs.List.{flat_map}
use Rattle.py_syntax.specs.Statements as s
use Rattle.py_syntax.specs.Statements.{StmtTree, StmtNode, Suite, Arms, Handlers, MaybeSuite}
use Rattle.py_syntax.specs.declared.token.Span.{Span}
use Rattle.py_syntax_diagnostics.specs.declared.diagnostic.Diag.{Diag}
use Rattle.py_check_names.specs.Outline.{stmt_definitions, node_definitions, suite_definitions, arms_definitions, handlers_definitions, last_definitions}
use Rattle.py_check_definitions.specs.Definitions.{inner_said}
use Rattle.py_check_expressions_laws.proofs.Loud.{none_before, none_behind}

abbrev said_of : List StmtTree → List Diag
said_of = flat_map inner_said

two : (a b : List StmtTree) → said_of (a ++ b) ≡ [] → (said_of a ≡ [] → a ≡ []) → (said_of b ≡ [] → b ≡ []) → a ++ b ≡ []
two a b h p q =
    let e = sym (flat_map-append inner_said a b) ∙ h in
    ap₂ (λ (x y : List StmtTree). x ++ y) (p (none_before (said_of a) (said_of b) e)) (q (none_behind (said_of a) (said_of b) e))

mutual
  stmt_none : (x : StmtTree) → said_of (stmt_definitions x) ≡ [] → stmt_definitions x ≡ []
  stmt_none (s.at node span) h = node_none node span h

  node_none : (node : StmtNode) (span : Span) → said_of (node_definitions node span) ≡ [] → node_definitions node span ≡ []
  node_none (s.Def name params ret body marks) span h = absurd (cc)
  node_none (s.ClassDef name bases body marks) span h = absurd (cc)
  node_none (s.Import name other) span h = absurd (cc)
  node_none (s.From name names) span h = absurd (cc)
  node_none (s.If arms other) span h = two (arms_definitions arms) (suite_definitions other) h (arms_none arms) (suite_none other)
  node_none (s.While test body) span h = suite_none body h
  node_none (s.For target a body) span h = suite_none body h
  node_none (s.Try body hs last) span h =
      two (suite_definitions body) (handlers_definitions hs ++ last_definitions last) h (suite_none body) (λ q. two (handlers_definitions hs) (last_definitions last) q (handlers_none hs) (last_none last))
  node_none _ span h = refl

  pub suite_none : (body : Suite) → said_of (suite_definitions body) ≡ [] → suite_definitions body ≡ []
  suite_none s.no_stmts h = refl
  suite_none (s.stmt_then x more) h = two (stmt_definitions x) (suite_definitions more) h (stmt_none x) (suite_none more)

  arms_none : (arms : Arms) → said_of (arms_definitions arms) ≡ [] → arms_definitions arms ≡ []
  arms_none s.no_arms h = refl
  arms_none (s.arm_then test body more) h = two (suite_definitions body) (arms_definitions more) h (suite_none body) (arms_none more)

  handlers_none : (hs : Handlers) → said_of (handlers_definitions hs) ≡ [] → handlers_definitions hs ≡ []
  handlers_none s.no_handlers h = refl
  handlers_none (s.handler_then class name body span more) h = two (suite_definitions body) (handlers_definitions more) h (suite_none body) (handlers_none more)

  last_none : (last : MaybeSuite) → said_of (last_definitions last) ≡ [] → last_definitions last ≡ []
  last_none s.no_suite h = refl
  last_none (s.some_suite body) h = suite_none body h
