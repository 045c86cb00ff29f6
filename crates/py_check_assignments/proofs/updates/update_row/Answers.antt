use Rattle.py_syntax.specs.Expressions.{expr_tree}
use Rattle.std.specs.Prelude.{None}
use Rattle.py_check_context.specs.Context.{context, free}
use Rattle.py_check_places.specs.Views.{known_at}
use Rattle.py_check_targets.specs.Targets.{aims_behind, typed_at}
use Rattle.py_check_assignments.specs.Assignments.{row_refused}
use Rattle.py_check_assignments.proofs.AssignmentLemmas.{row_says}
use Rattle.py_check_assignments.proofs.updates.update_row.Goals as goal

pub returns : goal.returns
returns c =
    let scope = context c.args.scope.now in
    let known = known_at c.args.place.now in
    row_says c.args.span (row_refused scope.classes) (aims_behind scope known (expr_tree c.args.target.now) None) (typed_at scope known free (expr_tree c.args.e.now)) c.in_ok-aims.aims c.in_ok-e.e c.refuse_row.result c.args.faults.now c.aims_behind.new.faults c.typed_at.new.faults c.refuse_row.new.faults
    c.in_ok-aims.ensures c.in_ok-e.ensures c.refuse_row.ensures
