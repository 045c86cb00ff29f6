-- The typing of a module, as the command takes it.
use Rattle.std.specs.Prelude.{List, map, None}
use Rattle.py_syntax.specs.Statements.{Suite}
use Rattle.py_syntax_diagnostics.specs.declared.diagnostic.Diag.{Diag}
use Rattle.py_typed.specs.Statements.{TypedModule}
use Rattle.py_check.specs.Module.{diagnostics, typed}
use Rattle.py_parser_source.specs.Entries.{Entry}

-- the entry of a diagnostic
abbrev pub entry_at : Diag → Entry
entry_at d = record { line = d.span.line; text = d.text; code = d.code; note = None }

-- what is wrong with the names and types of a module, by place
unfoldable pub types_said : Suite → List Entry
types_said m = map entry_at (diagnostics m)

-- the typed module of a tree
unfoldable pub typed_tree : Suite → TypedModule
typed_tree m = typed m
