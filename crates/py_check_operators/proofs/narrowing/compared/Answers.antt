use Rattle.std.proofs.Common.{sym, ◌∙◌}
use Rattle.py_syntax.specs.Expressions.{expr_tree}
use Rattle.py_check_context.specs.Context.{context}
use Rattle.py_check_operators.specs.Facts.{subject}
use Rattle.py_check_operators.proofs.FactLemmas.{more_than_one}
use Rattle.py_check_operators.proofs.narrowing.compared.Goals as goal

pub returns-in-len2-up : goal.returns-in-len2-up
returns-in-len2-up c =
    c.new-in-len2-up.ensures.items
    ∙ sym (more_than_one c.args.outcome (subject (context c.args.scope.now) (expr_tree c.args.who.now)) c.args.cs.now c.in-len2-up.len_at_least)
