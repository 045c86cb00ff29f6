use Rattle.std.proofs.Common.{rules, ◌≡◌, None}
use Rattle.py_syntax.specs.Expressions.{expr_tree}
use Rattle.py_check_context.specs.Context.{context, free}
use Rattle.py_check_places.specs.Views.{known_at}
use Rattle.py_check_targets.specs.Targets.{updated_lacking, typed_at}
use Rattle.py_check_assignments.proofs.UpdateLemmas.{without_operands, with_operands}
use Rattle.py_check_assignments.proofs.updates.update_lacking.Goals as goal

pub returns-in_default : goal.returns-in_default
returns-in_default c =
    let scope = context c.args.scope.now in
    let known = known_at c.args.place.now in
    let none : c.typed_operands.result ≡ None = search rules in
    without_operands c.args.span (updated_lacking scope.classes c.args.own.name.now) (typed_at scope known free (expr_tree c.args.own.object.now)) (typed_at scope known free (expr_tree c.args.e.now)) c.in_ok-object.object c.in_ok-e.e c.typed_operands.result c.args.faults.now c.typed_at.new.faults c.typed_at-2.new.faults
    c.in_ok-object.ensures c.in_ok-e.ensures c.typed_operands.ensures none

pub returns : goal.returns
returns c =
    let scope = context c.args.scope.now in
    let known = known_at c.args.place.now in
    with_operands c.args.span (updated_lacking scope.classes c.args.own.name.now) (typed_at scope known free (expr_tree c.args.own.object.now)) (typed_at scope known free (expr_tree c.args.e.now)) c.in_ok-object.object c.in_ok-e.e c.typed_operands.result c.in-Some.operands c.updated_lacking.result c.args.faults.now c.typed_at.new.faults c.typed_at-2.new.faults c.updated_lacking.new.faults
    c.in_ok-object.ensures c.in_ok-e.ensures c.typed_operands.ensures c.in-Some.is c.updated_lacking.ensures
