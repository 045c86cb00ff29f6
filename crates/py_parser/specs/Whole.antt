-- A module, as it was read.
use Rattle.std.specs.Prelude.{List, Result, Ok, Err}
use Rattle.py_syntax.specs.declared.statement.Module.{Module}
use Rattle.py_syntax.specs.declared.statement.Stmt.{Stmt}
use Rattle.py_syntax.specs.declared.token.Token.{Token}
use Rattle.py_syntax.specs.Statements.{Suite, body_tree, module_tree}
use Rattle.py_parser_grammar.specs.declared.place.Place.{Place}
use Rattle.py_parser_grammar.specs.Faults.{Says, tree, syntax, profile, too_deep}
use Rattle.py_parser_cursor.specs.declared.fault.ParseError.{ParseError}
use Rattle.py_parser_cursor.specs.declared.fault.ParseError.TheVariants as fault

abbrev pub body_seen : List Stmt × Place → Suite × Place
body_seen x = (body_tree x.0, x.1)

-- a fault is what the tokens are, by the grammar; of want of memory nothing is said
abbrev pub IsRightFault : List Token → ParseError → Type 0
IsRightFault ts (fault.Syntax i) = Says ts (syntax i)
IsRightFault ts (fault.Profile i) = Says ts (profile i)
IsRightFault ts (fault.TooDeep i) = Says ts (too_deep i)
IsRightFault ts fault.Memory = Unit {0}

-- THE PROMISE: the answer is what the tokens are, by the grammar, unless memory ran out.
abbrev pub IsRight : List Token → Result Module ParseError → Type 0
IsRight ts (Ok m) = Says ts (tree (module_tree m))
IsRight ts (Err e) = IsRightFault ts e
