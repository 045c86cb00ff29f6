use Rattle.std.proofs.Common.{map, Ok, ap, sym, ◌∙◌, arith}
use Rattle.py_syntax.specs.Expressions.{expr_tree}
use Rattle.py_parser_grammar.specs.Grammar.{BOR}
use Rattle.py_parser_expressions.specs.Parsed.{seen, exprs_seen}
use Rattle.py_parser_expressions.specs.Rows.{fronted, reads_trees}
use Rattle.py_parser_expressions.proofs.RowReading.{trees_more, trees_last, trees_comma_fails}
use Rattle.py_parser_cursor.proofs.Faults.{exit_gives}
use Rattle.py_parser_expressions.proofs.target.operands.Goals as goal

pub operands-preserved : goal.operands-preserved
operands-preserved c =
    let ts = c.args.tokens.now in
    let item = c.in_ok-item.item in
    let place_is = c.in_ok-found.ensures.place in
    let at_is = ap (λ p. p.at) place_is in
    record {
      so_far =
          c.operands.invariant.so_far
          ∙ trees_more ts BOR c.operands.next (map expr_tree c.operands.found.list) (seen item) (c.in_ok-behind.field-0-0.now, c.in_ok-behind.behind)
          (sym c.begins_operand.ensures ∙ c.operands-test.true) c.in_ok-item.ensures.read
          (rw (← place_is) (sym c.sees_sign.ensures ∙ c.if-not-sees_sign.false)) (rw (← place_is) c.in_ok-behind.ensures.read)
          ∙ ap (λ l. fronted l (reads_trees ts BOR c.in_ok-behind.behind)) (sym c.in_ok-found.ensures.list);
      moves = record {
        on = omega (arith, at_is, c.operands.invariant.moves.on, c.in_ok-item.ensures.moves.on, c.in_ok-behind.ensures.at);
        within = λ h. c.in_ok-behind.ensures.within;
      };
      row = c.in_ok-found.ensures.row;
    }

pub returns-then-not-sees_sign-clause-read : goal.returns-then-not-sees_sign-clause-read
returns-then-not-sees_sign-clause-read c =
    let ts = c.args.tokens.now in
    let item = c.in_ok-item.item in
    let found = c.in_ok-found.found in
    let place_is = c.in_ok-found.ensures.place in
    c.operands.invariant.so_far
    ∙ trees_last ts BOR c.operands.next (map expr_tree c.operands.found.list) (seen item)
    (sym c.begins_operand.ensures ∙ c.operands-test.true) c.in_ok-item.ensures.read (rw (← place_is) (sym c.sees_sign.ensures ∙ c.if-not-sees_sign.true))
    ∙ ap (λ l. Ok (l, item.place)) (sym c.in_ok-found.ensures.list)
    ∙ ap (λ p. Ok (map expr_tree found.list, p)) (sym place_is)

pub returns-in_err-behind-clause-read : goal.returns-in_err-behind-clause-read
returns-in_err-behind-clause-read c =
    let place_is = c.in_ok-found.ensures.place in
    exit_gives exprs_seen _ _ _ c.from_residual-in_err-behind.ensures.1
    (rw c.operands.invariant.so_far
    (trees_comma_fails c.args.tokens.now BOR c.operands.next (map expr_tree c.operands.found.list) (seen c.in_ok-item.item) _
    (sym c.begins_operand.ensures ∙ c.operands-test.true) c.in_ok-item.ensures.read
    (rw (← place_is) (sym c.sees_sign.ensures ∙ c.if-not-sees_sign.false)) (rw place_is at c.in_err-behind.ensures.read)))
