use Rattle.std.proofs.Common.{◌≡◌, ◌≢◌, ◌+◌, length, ◌-◌, ◌*◌, [], map}
use Rattle.py_syntax.specs.Expressions.{expr_tree, arg_tree, entry_tree, comparison_tree}
use Rattle.py_parser_grammar.specs.Grammar.{TEST, NOT, FACTOR, ARG, ENTRY}
use Rattle.py_parser_grammar.specs.Readings.{reads_expr}
use Rattle.py_parser_expressions.specs.Chains.{reads_comparisons}
use Rattle.py_parser_expressions.specs.Heads.{head_of, AreHeads}
use Rattle.py_parser_cursor.specs.Operators.{sym_of, more_of}
use Rattle.py_parser_expressions.specs.Parsed.{piece_of, Moves, AreExprs, AreArgs, AreEntries, AreComparisons}
use Rattle.py_parser_cursor.specs.Moves.{MovesTo, MovesUpTo}
use Rattle.py_parser_expressions.specs.Prefixes.{prefixes, conditionals, reads_condition}
use Rattle.py_parser_expressions.specs.Rows.{fronted, reads_row, reads_trees}
use Rattle.py_parser_expressions.proofs.ChainReading.{reads_behind}
use Rattle.py_parser_expressions.proofs.ComparisonReading.{rest}
use Rattle.py_parser_expressions.proofs.Ranks.{rank_of}
use Rattle.py_parser_expressions.proofs.+expression.Given as goal

abbrev pub decreases-expression::test : goal.decreases-expression::test
decreases-expression::test l = (length l.tokens.now - l.place.at) * 32 + 20

abbrev pub decreases-expression::tests : goal.decreases-expression::tests
decreases-expression::tests l = (length l.tokens.now - l.place.at) * 32 + 21

abbrev pub decreases-expression::items : goal.decreases-expression::items
decreases-expression::items l = (length l.tokens.now - l.place.at) * 32 + 21

abbrev pub decreases-trailer::arguments : goal.decreases-trailer::arguments
decreases-trailer::arguments l = (length l.tokens.now - l.place.at) * 32 + 22

abbrev pub decreases-trailer::argument : goal.decreases-trailer::argument
decreases-trailer::argument l = (length l.tokens.now - l.place.at) * 32 + 21

abbrev pub decreases-display::entries : goal.decreases-display::entries
decreases-display::entries l = (length l.tokens.now - l.place.at) * 32 + 22

abbrev pub decreases-display::entry : goal.decreases-display::entry
decreases-display::entry l = (length l.tokens.now - l.place.at) * 32 + 21

abbrev pub decreases-chain::comparison : goal.decreases-chain::comparison
decreases-chain::comparison l = (length l.tokens.now - l.place.at) * 32 + 14

abbrev pub decreases-chain::not_test : goal.decreases-chain::not_test
decreases-chain::not_test l = (length l.tokens.now - l.place.at) * 32 + 15

abbrev pub decreases-chain::factor : goal.decreases-chain::factor
decreases-chain::factor l = (length l.tokens.now - l.place.at) * 32 + 4

abbrev pub decreases-display::atom : goal.decreases-display::atom
decreases-display::atom l = (length l.tokens.now - l.place.at) * 32 + 1

abbrev pub decreases-display::group : goal.decreases-display::group
decreases-display::group l = (length l.tokens.now - l.place.at) * 32 + 0

abbrev pub decreases-expression::alternative : goal.decreases-expression::alternative
decreases-expression::alternative l = (length l.tokens.now - l.place.at) * 32 + 1

abbrev pub decreases-chain::chain : goal.decreases-chain::chain
decreases-chain::chain l = (length l.tokens.now - l.place.at) * 32 + (rank_of l.level + 1)

abbrev pub decreases-chain::operand : goal.decreases-chain::operand
decreases-chain::operand l = (length l.tokens.now - l.place.at) * 32 + rank_of l.level

abbrev pub decreases-chain::grow : goal.decreases-chain::grow
decreases-chain::grow l = (length l.tokens.now - l.left.place.at) * 32 + 3

abbrev pub decreases-trailer::trailer : goal.decreases-trailer::trailer
decreases-trailer::trailer l = (length l.tokens.now - l.left.place.at) * 32 + 2

abbrev pub decreases-chain::compare : goal.decreases-chain::compare
decreases-chain::compare l = (length l.tokens.now - l.row.place.at) * 32

abbrev pub decreases-expression::chain_behind : goal.decreases-expression::chain_behind
decreases-expression::chain_behind l = (length l.tokens.now - l.place.at) * 32 + 0

abbrev pub decreases-expression::test_behind : goal.decreases-expression::test_behind
decreases-expression::test_behind l = (length l.tokens.now - l.place.at) * 32 + 0

abbrev pub decreases-chain::operand_behind : goal.decreases-chain::operand_behind
decreases-chain::operand_behind l = (length l.tokens.now - l.place.at) * 32 + 0

abbrev pub decreases-trailer::call_of : goal.decreases-trailer::call_of
decreases-trailer::call_of l = (length l.tokens.now - l.left.place.at) * 32 + 1

abbrev pub decreases-trailer::index_of : goal.decreases-trailer::index_of
decreases-trailer::index_of l = (length l.tokens.now - l.left.place.at) * 32 + 1

abbrev pub decreases-trailer::bracketed_arguments : goal.decreases-trailer::bracketed_arguments
decreases-trailer::bracketed_arguments l = (length l.tokens.now - l.place.at) * 32 + 0

abbrev pub decreases-trailer::bracketed_index : goal.decreases-trailer::bracketed_index
decreases-trailer::bracketed_index l = (length l.tokens.now - l.place.at) * 32 + 0

abbrev pub decreases-chain::comparisons : goal.decreases-chain::comparisons
decreases-chain::comparisons l = (length l.tokens.now - l.place.at) * 32 + 1

abbrev pub decreases-display::list : goal.decreases-display::list
decreases-display::list l = (length l.tokens.now - l.place.at) * 32 + 0

abbrev pub decreases-display::dict : goal.decreases-display::dict
decreases-display::dict l = (length l.tokens.now - l.place.at) * 32 + 0

abbrev pub invariant-expression::test-heads : goal.invariant-expression::test-heads
invariant-expression::test-heads l = record {
  so_far : reads_expr l.tokens TEST l.fn.place ≡ conditionals (map head_of l.heads.items) (reads_condition l.tokens (piece_of l.last) l.last.place);
  heads : AreHeads l.heads.items;
  moves : Moves l.tokens l.fn.place l.last;
}

abbrev pub decreases-expression::test-heads : goal.decreases-expression::test-heads
decreases-expression::test-heads l = length l.tokens - l.last.place.at

abbrev pub invariant-expression::items-items : goal.invariant-expression::items-items
invariant-expression::items-items l = record {
  so_far : fronted (map expr_tree l.fn.front.list) (reads_trees l.tokens TEST l.fn.place) ≡ fronted (map expr_tree l.found.list) (reads_trees l.tokens TEST l.next);
  moves : MovesUpTo l.tokens l.fn.place l.next;
  row : AreExprs l.found;
}

abbrev pub decreases-expression::items-items : goal.decreases-expression::items-items
decreases-expression::items-items l = length l.tokens - l.next.at

abbrev pub invariant-chain::chain-growth : goal.invariant-chain::chain-growth
invariant-chain::chain-growth l = record {
  so_far : reads_expr l.tokens (sym_of l.level) l.fn.place ≡ reads_behind l.tokens (more_of l.level) (piece_of l.left) l.left.place;
  moves : Moves l.tokens l.fn.place l.left;
}

abbrev pub decreases-chain::chain-growth : goal.decreases-chain::chain-growth
decreases-chain::chain-growth l = length l.tokens - l.left.place.at

abbrev pub invariant-trailer::arguments-arguments : goal.invariant-trailer::arguments-arguments
invariant-trailer::arguments-arguments l = record {
  so_far : reads_row l.tokens ARG l.fn.place ≡ fronted (map arg_tree l.found.list) (reads_row l.tokens ARG l.next);
  moves : MovesUpTo l.tokens l.fn.place l.next;
  row : AreArgs l.found;
}

abbrev pub decreases-trailer::arguments-arguments : goal.decreases-trailer::arguments-arguments
decreases-trailer::arguments-arguments l = length l.tokens - l.next.at

abbrev pub invariant-display::entries-entries : goal.invariant-display::entries-entries
invariant-display::entries-entries l = record {
  so_far : reads_row l.tokens ENTRY l.fn.place ≡ fronted (map entry_tree l.found.list) (reads_row l.tokens ENTRY l.next);
  moves : MovesUpTo l.tokens l.fn.place l.next;
  row : AreEntries l.found;
}

abbrev pub decreases-display::entries-entries : goal.decreases-display::entries-entries
decreases-display::entries-entries l = length l.tokens - l.next.at

abbrev pub invariant-chain::not_test-nots : goal.invariant-chain::not_test-nots
invariant-chain::not_test-nots l = record {
  so_far : reads_expr l.tokens NOT l.fn.place ≡ prefixes l.tokens l.fn.place.at (l.inner.at - l.fn.place.at) (reads_expr l.tokens NOT l.inner);
  moves : MovesUpTo l.tokens l.fn.place l.inner;
}

abbrev pub decreases-chain::not_test-nots : goal.decreases-chain::not_test-nots
decreases-chain::not_test-nots l = length l.tokens - l.inner.at

abbrev pub invariant-chain::factor-signs : goal.invariant-chain::factor-signs
invariant-chain::factor-signs l = record {
  so_far : reads_expr l.tokens FACTOR l.fn.place ≡ prefixes l.tokens l.fn.place.at (l.inner.at - l.fn.place.at) (reads_expr l.tokens FACTOR l.inner);
  moves : MovesUpTo l.tokens l.fn.place l.inner;
}

abbrev pub decreases-chain::factor-signs : goal.decreases-chain::factor-signs
decreases-chain::factor-signs l = length l.tokens - l.inner.at

abbrev pub invariant-chain::comparisons-comparisons : goal.invariant-chain::comparisons-comparisons
invariant-chain::comparisons-comparisons l = record {
  so_far : reads_comparisons l.tokens l.fn.place ≡ fronted (map comparison_tree l.more.list) (rest l.tokens l.more.place);
  some : map comparison_tree l.more.list ≢ [];
  moves : MovesTo l.tokens l.fn.place l.more.place;
  row : AreComparisons l.more;
}

abbrev pub decreases-chain::comparisons-comparisons : goal.decreases-chain::comparisons-comparisons
decreases-chain::comparisons-comparisons l = length l.tokens - l.more.place.at
