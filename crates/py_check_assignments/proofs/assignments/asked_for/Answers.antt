use Rattle.py_check_context.specs.Context.{context}
use Rattle.py_syntax.specs.Expressions.{expr_tree}
use Rattle.py_check_places.specs.Views.{known_at}
use Rattle.py_check_assignments.proofs.AssignmentLemmas.{is_asked_for_so}
use Rattle.py_check_assignments.proofs.assignments.asked_for.Goals as goal

pub returns : goal.returns
returns c =
    is_asked_for_so (context c.args.scope.now) (known_at c.args.place.now) (expr_tree c.args.target.now) c.asked_type.result c.in_ok-aims.aims c.is_row.result c.is_row.ensures c.in_ok-aims.ensures.0 c.asked_type.ensures
