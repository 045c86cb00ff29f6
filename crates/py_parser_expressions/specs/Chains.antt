-- Chains of comparisons, as they are read.
use Rattle.std.specs.Prelude.{List}
use Rattle.py_syntax.specs.declared.expression.CmpOp.{CmpOp}
use Rattle.py_syntax.specs.declared.token.Token.{Token}
use Rattle.py_syntax.specs.Expressions.{ExprTree}
use Rattle.py_parser_grammar.specs.declared.place.Place.{Place}
use Rattle.py_parser_grammar.specs.Grammar as g
use Rattle.py_parser_grammar.specs.Grammar.{COMP_MORE}
use Rattle.py_parser_grammar.specs.Reader.{Outcome}
use Rattle.py_parser_grammar.specs.Readings.{reads_many}

-- any number of comparisons, each an operator with its operand
unfoldable pub reads_comparisons : List Token → Place → Outcome (List (CmpOp × ExprTree))
reads_comparisons ts p = reads_many ts (g.sym COMP_MORE) p
