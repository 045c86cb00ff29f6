use Rattle.std.proofs.Common.{map, Ok, ap, sym, ◌∙◌, arith}
use Rattle.py_syntax.specs.Statements.{param_tree}
use Rattle.py_parser_grammar.specs.Grammar.{PARAM}
use Rattle.py_parser_expressions.specs.Rows.{fronted, reads_row}
use Rattle.py_parser.specs.Definitions.{param_seen, params_seen}
use Rattle.py_parser_expressions.proofs.RowReading.{row_more, row_last, comma_fails}
use Rattle.py_parser_cursor.proofs.Faults.{exit_gives}
use Rattle.py_parser.proofs.define.params.Goals as goal

pub params-preserved : goal.params-preserved
params-preserved c =
    let ts = c.args.tokens.now in
    let more = c.in_ok-more.more in
    let behind = c.in_ok-more.behind in
    let after = c.in_ok-after.after in
    record {
      so_far =
          c.params.invariant.so_far
          ∙ row_more ts PARAM c.params.next (map param_tree c.params.found) (param_seen (more, behind)) (c.in_ok-after.field-0-0.now, after)
          (sym c.sees.ensures ∙ c.params-test.true) c.in_ok-more.ensures.read (sym c.sees_sign.ensures ∙ c.if-not-sees_sign.false) c.in_ok-after.ensures.read
          ∙ ap (λ l. fronted l (reads_row ts PARAM after)) (sym c.in_ok-found.ensures);
      moves = record {
        on = omega (arith, c.params.invariant.moves.on, c.in_ok-more.ensures.moves.on, c.in_ok-after.ensures.at);
        within = λ h. c.in_ok-after.ensures.within;
      };
    }

pub returns-then-not-sees_sign-clause-read : goal.returns-then-not-sees_sign-clause-read
returns-then-not-sees_sign-clause-read c =
    let more = c.in_ok-more.more in
    let behind = c.in_ok-more.behind in
    c.params.invariant.so_far
    ∙ row_last c.args.tokens.now PARAM c.params.next (map param_tree c.params.found) (param_seen (more, behind))
    (sym c.sees.ensures ∙ c.params-test.true) c.in_ok-more.ensures.read (sym c.sees_sign.ensures ∙ c.if-not-sees_sign.true)
    ∙ ap (λ l. Ok (l, behind)) (sym c.in_ok-found.ensures)

pub returns-in_err-after-clause-read : goal.returns-in_err-after-clause-read
returns-in_err-after-clause-read c =
    exit_gives params_seen _ _ _ c.from_residual-in_err-after.ensures.1
    (rw c.params.invariant.so_far
    (comma_fails c.args.tokens.now PARAM c.params.next (map param_tree c.params.found) (param_seen (c.in_ok-more.more, c.in_ok-more.behind)) _
    (sym c.sees.ensures ∙ c.params-test.true) c.in_ok-more.ensures.read (sym c.sees_sign.ensures ∙ c.if-not-sees_sign.false) c.in_err-after.ensures.read))
