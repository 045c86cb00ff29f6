use Rattle.std.proofs.Common.{map, ap, sym, ◌∙◌, arith}
use Rattle.py_syntax.specs.Statements.{stmt_tree}
use Rattle.py_parser_statements.specs.Statements.{stmt_seen, stmts_seen, reads_line}
use Rattle.py_parser_cursor.proofs.Faults.{exit_gives}
use Rattle.py_parser_statements.proofs.LineReading.{line_more, line_trail, small_fails}
use Rattle.py_parser_statements.proofs.simple.line.Goals as goal

pub smalls-preserved : goal.smalls-preserved
smalls-preserved c =
    let ts = c.args.tokens.now in
    let more = c.in_ok-more.more in
    let behind = c.in_ok-more.behind in
    record {
      so_far =
          c.smalls.invariant.so_far
          ∙ line_more ts (map stmt_tree c.smalls.found) c.smalls.place (c.in_ok-next.field-0-0.now, c.in_ok-next.next) (stmt_seen (more, behind))
          (sym c.sees_sign.ensures ∙ c.smalls-test.true) c.in_ok-next.ensures.read
          (sym c.begins_small.ensures ∙ c.if-not-begins_small.false) c.in_ok-more.ensures.read
          ∙ ap (λ l. reads_line ts l behind) (sym c.in_ok-found.ensures);
      moves = record {
        on = omega (arith, c.smalls.invariant.moves.on, c.in_ok-next.ensures.at, c.in_ok-more.ensures.moves.on);
        within = λ h. c.in_ok-more.ensures.moves.within;
      };
    }

pub returns-then-not-begins_small-clause-read : goal.returns-then-not-begins_small-clause-read
returns-then-not-begins_small-clause-read c =
    c.smalls.invariant.so_far
    ∙ line_trail c.args.tokens.now (map stmt_tree c.smalls.found) c.smalls.place (c.in_ok-next.field-0-0.now, c.in_ok-next.next)
    (sym c.sees_sign.ensures ∙ c.smalls-test.true) c.in_ok-next.ensures.read (sym c.begins_small.ensures ∙ c.if-not-begins_small.true)

pub returns-in_err-more-clause-read : goal.returns-in_err-more-clause-read
returns-in_err-more-clause-read c =
    exit_gives stmts_seen _ _ _ c.from_residual-in_err-more.ensures.1
    (rw c.smalls.invariant.so_far
    (small_fails c.args.tokens.now (map stmt_tree c.smalls.found) c.smalls.place (c.in_ok-next.field-0-0.now, c.in_ok-next.next) _
    (sym c.sees_sign.ensures ∙ c.smalls-test.true) c.in_ok-next.ensures.read (sym c.begins_small.ensures ∙ c.if-not-begins_small.false) c.in_err-more.ensures.read))
