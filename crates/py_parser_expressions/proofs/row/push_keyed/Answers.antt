use Rattle.std.proofs.Common.{◌≡◌, map, max, ap, ◌∙◌, arith}
use Rattle.std.proofs.lemmas.List.{map-append}
use Rattle.py_syntax.specs.Expressions.{arg_tree, expr_tree, arguments_of}
use Rattle.py_parser_grammar.specs.Levels.{level, arguments_level}
use Rattle.py_parser_expressions.proofs.Rows.{keyed_push, keyed_arg}
use Rattle.py_parser_expressions.proofs.row.push_keyed.Goals as goal

pub returns-clause-row : goal.returns-clause-row
returns-clause-row c =
    let is = c.in_ok-push.ensures.ok in
    let all : arguments_level (arguments_of (map arg_tree c.push.new.self)) ≡ max (arguments_level (arguments_of (map arg_tree c.args.row.list))) (max (level (expr_tree c.into_inner.result)) (level (expr_tree c.into_inner-2.result))) =
    ap (λ l. arguments_level (arguments_of (map arg_tree l))) is
    ∙ simp (map-append, keyed_arg) (keyed_push (map arg_tree c.args.row.list) (expr_tree c.into_inner.result) (expr_tree c.into_inner-2.result)) in
    let key = ap (λ x. level (expr_tree x)) c.into_inner.ensures in
    let value = ap (λ x. level (expr_tree x)) c.into_inner-2.ensures in
    record { level = omega (arith, all, key, value, c.max.ensures, c.max-level.ensures); small = omega (arith, c.max.ensures, c.max-level.ensures) }
