use Rattle.std.proofs.Common.{map, ap, sym, ◌∙◌, arith}
use Rattle.std.proofs.lemmas.List.{map-append}
use Rattle.py_syntax.specs.Statements.{stmt_tree, arm_tree, handler_tree}
use Rattle.py_parser_statements.specs.Blocks.{reads_stmts, reads_arms, reads_handlers}
use Rattle.py_parser_statements.specs.Statements.{stmts_seen, arm_seen, handler_seen}
use Rattle.py_parser_statements.proofs.BlockReading.{stmts_more, arms_more, handlers_more}
use Rattle.py_parser_statements.proofs.block.+block.Goals as goal

pub stmts-stmts-preserved : goal.stmts-stmts-preserved
stmts-stmts-preserved t c =
    let ts = c.args.tokens.now in
    let more = c.in_ok-more.more in
    let next = c.in_ok-more.next in
    record {
      so_far =
          c.stmts.invariant.so_far
          ∙ stmts_more ts (map stmt_tree c.stmts.found) c.stmts.place (stmts_seen (more, next)) (sym c.begins_stmt.ensures ∙ c.stmts-test.true) c.in_ok-more.ensures.read
          ∙ ap (λ l. reads_stmts ts l next) (sym (ap (map stmt_tree) c.in_ok-found.ensures ∙ map-append stmt_tree c.stmts.found more));
      moves = record {
        on = omega (arith, c.stmts.invariant.moves.on, c.in_ok-more.ensures.moves.on);
        within = λ h. c.in_ok-more.ensures.moves.within;
      };
    }

pub arms-arms-preserved : goal.arms-arms-preserved
arms-arms-preserved t c =
    let ts = c.args.tokens.now in
    let more = c.in_ok-more.more in
    let behind = c.in_ok-more.behind in
    record {
      so_far =
          c.arms.invariant.so_far
          ∙ arms_more ts (map arm_tree c.arms.found) c.arms.place (c.in_ok-next.field-0-0.now, c.in_ok-next.next) (arm_seen (more, behind))
          (sym c.sees_key.ensures ∙ c.arms-test.true) c.in_ok-next.ensures.read c.in_ok-more.ensures.read
          ∙ ap (λ l. reads_arms ts l behind) (sym c.in_ok-found-2.ensures);
      moves = record {
        on = omega (arith, c.arms.invariant.moves.on, c.in_ok-next.ensures.at, c.in_ok-more.ensures.moves.on);
        within = λ h. c.in_ok-more.ensures.moves.within;
      };
    }

pub handlers-handlers-preserved : goal.handlers-handlers-preserved
handlers-handlers-preserved t c =
    let ts = c.args.tokens.now in
    let more = c.in_ok-more.more in
    let behind = c.in_ok-more.behind in
    record {
      so_far =
          c.handlers.invariant.so_far
          ∙ handlers_more ts (map handler_tree c.handlers.found) c.handlers.place (handler_seen (more, behind)) (sym c.sees_key.ensures ∙ c.handlers-test.true) c.in_ok-more.ensures.read
          ∙ ap (λ l. reads_handlers ts l behind) (sym c.in_ok-found-2.ensures);
      moves = record {
        on = omega (arith, c.handlers.invariant.moves.on, c.in_ok-more.ensures.moves.on);
        within = λ h. c.in_ok-more.ensures.moves.within;
      };
    }
