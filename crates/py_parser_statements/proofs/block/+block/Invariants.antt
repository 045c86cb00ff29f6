use Rattle.std.proofs.Common.{◌≡◌, ◌+◌, length, ◌-◌, ◌*◌, [], ◌∷◌, map}
use Rattle.py_syntax.specs.Statements.{stmt_tree, arm_tree, handler_tree}
use Rattle.py_parser_statements.specs.Blocks.{reads_stmts, reads_arms, reads_handlers}
use Rattle.py_parser_nodes.specs.Parts.{arm_boxed}
use Rattle.py_parser_cursor.specs.Moves.{MovesUpTo}
use Rattle.py_parser_statements.proofs.block.+block.Given as goal

abbrev pub decreases-stmt : goal.decreases-stmt
decreases-stmt l = (length l.tokens.now - l.place.at) * 4 + 2

abbrev pub decreases-compound : goal.decreases-compound
decreases-compound l = (length l.tokens.now - l.place.at) * 4 + 1

abbrev pub decreases-block : goal.decreases-block
decreases-block l = (length l.tokens.now - l.place.at) * 4 + 3

abbrev pub decreases-suite : goal.decreases-suite
decreases-suite l = (length l.tokens.now - l.place.at) * 4 + 0

abbrev pub decreases-stmts : goal.decreases-stmts
decreases-stmts l = (length l.tokens.now - l.place.at) * 4 + 3

abbrev pub decreases-arm : goal.decreases-arm
decreases-arm l = (length l.tokens.now - l.place.at) * 4 + 0

abbrev pub decreases-if_stmt : goal.decreases-if_stmt
decreases-if_stmt l = (length l.tokens.now - l.place.at) * 4 + 0

abbrev pub decreases-arms : goal.decreases-arms
decreases-arms l = (length l.tokens.now - l.place.at) * 4 + 0

abbrev pub decreases-else_block : goal.decreases-else_block
decreases-else_block l = (length l.tokens.now - l.place.at) * 4 + 0

abbrev pub decreases-while_stmt : goal.decreases-while_stmt
decreases-while_stmt l = (length l.tokens.now - l.place.at) * 4 + 0

abbrev pub decreases-for_stmt : goal.decreases-for_stmt
decreases-for_stmt l = (length l.tokens.now - l.place.at) * 4 + 0

abbrev pub decreases-try_stmt : goal.decreases-try_stmt
decreases-try_stmt l = (length l.tokens.now - l.place.at) * 4 + 0

abbrev pub decreases-handled : goal.decreases-handled
decreases-handled l = (length l.tokens.now - l.place.at) * 4 + 2

abbrev pub decreases-finally : goal.decreases-finally
decreases-finally l = (length l.tokens.now - l.place.at) * 4 + 0

abbrev pub decreases-handlers : goal.decreases-handlers
decreases-handlers l = (length l.tokens.now - l.place.at) * 4 + 1

abbrev pub decreases-handler : goal.decreases-handler
decreases-handler l = (length l.tokens.now - l.place.at) * 4 + 0

abbrev pub invariant-stmts-stmts : goal.invariant-stmts-stmts
invariant-stmts-stmts l = record {
  so_far : reads_stmts l.tokens (map stmt_tree l.fn.front) l.fn.place ≡ reads_stmts l.tokens (map stmt_tree l.found) l.place;
  moves : MovesUpTo l.tokens l.fn.place l.place;
}

abbrev pub decreases-stmts-stmts : goal.decreases-stmts-stmts
decreases-stmts-stmts l = length l.tokens - l.place.at

abbrev pub invariant-arms-arms : goal.invariant-arms-arms
invariant-arms-arms l = record {
  so_far : reads_arms l.tokens (arm_boxed l.fn.first ∷ []) l.fn.place ≡ reads_arms l.tokens (map arm_tree l.found) l.place;
  moves : MovesUpTo l.tokens l.fn.place l.place;
}

abbrev pub decreases-arms-arms : goal.decreases-arms-arms
decreases-arms-arms l = length l.tokens - l.place.at

abbrev pub invariant-handlers-handlers : goal.invariant-handlers-handlers
invariant-handlers-handlers l = record {
  so_far : reads_handlers l.tokens (handler_tree l.fn.first.value ∷ []) l.fn.place ≡ reads_handlers l.tokens (map handler_tree l.found) l.place;
  moves : MovesUpTo l.tokens l.fn.place l.place;
}

abbrev pub decreases-handlers-handlers : goal.decreases-handlers-handlers
decreases-handlers-handlers l = length l.tokens - l.place.at
