use Rattle.std.proofs.Common.{◌≡◌, ◌-◌, length, map}
use Rattle.py_syntax.specs.Statements.{param_tree}
use Rattle.py_parser_grammar.specs.Grammar.{PARAM}
use Rattle.py_parser_expressions.specs.Rows.{fronted, reads_row}
use Rattle.py_parser_cursor.specs.Moves.{MovesUpTo}
use Rattle.py_parser.proofs.define.params.Given as goal

abbrev pub invariant-params : goal.invariant-params
invariant-params l = record {
  so_far : reads_row l.tokens PARAM l.fn.place ≡ fronted (map param_tree l.found) (reads_row l.tokens PARAM l.next);
  moves : MovesUpTo l.tokens l.fn.place l.next;
}

abbrev pub decreases-params : goal.decreases-params
decreases-params l = length l.tokens - l.next.at
