use Rattle.std.proofs.Common.{◌∙◌, sym}
use Rattle.py_syntax.specs.Expressions.{expr_tree}
use Rattle.py_check_context.specs.Context.{context}
use Rattle.py_check_places.specs.Views.{known_at}
use Rattle.py_check_assignments.proofs.AssignmentLemmas.{one_says}
use Rattle.py_check_assignments.proofs.assignments.typed_assignment.Goals as goal

pub returns-else-is_row-clause-told : goal.returns-else-is_row-clause-told
returns-else-is_row-clause-told c =
    one_says (λ a. a.kind) c.one_target.result (context c.args.scope.now) (known_at c.args.place.now) c.args.span (expr_tree c.args.target.now) (expr_tree c.args.e.now) c.args.faults.now c.one_target.new.faults
    (sym c.is_row.ensures ∙ c.if-is_row.false) c.one_target.ensures.told
