use Rattle.std.proofs.Common.{◌≡◌, ◌-◌, length, map}
use Rattle.py_syntax.specs.Expressions.{expr_tree}
use Rattle.py_parser_grammar.specs.Grammar.{BOR}
use Rattle.py_parser_cursor.specs.Moves.{MovesUpTo}
use Rattle.py_parser_expressions.specs.Parsed.{AreExprs}
use Rattle.py_parser_expressions.specs.Rows.{fronted, reads_trees}
use Rattle.py_parser_expressions.proofs.target.operands.Given as goal

abbrev pub invariant-operands : goal.invariant-operands
invariant-operands l = record {
  so_far : fronted (map expr_tree l.fn.front.list) (reads_trees l.tokens BOR l.fn.place) ≡ fronted (map expr_tree l.found.list) (reads_trees l.tokens BOR l.next);
  moves : MovesUpTo l.tokens l.fn.place l.next;
  row : AreExprs l.found;
}

abbrev pub decreases-operands : goal.decreases-operands
decreases-operands l = length l.tokens - l.next.at
