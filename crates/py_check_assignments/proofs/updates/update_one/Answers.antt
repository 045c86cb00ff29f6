use Rattle.std.proofs.Common.{rules, ◌≡◌, None}
use Rattle.py_syntax.specs.Expressions.{expr_tree}
use Rattle.py_check_context.specs.Context.{context, free}
use Rattle.py_check_flow.specs.Bindings.{name_in}
use Rattle.py_check_places.specs.Shapes.{is_access}
use Rattle.py_check_places.specs.Views.{known_at}
use Rattle.py_check_targets.specs.Targets.{read_aim, updated, typed_at}
use Rattle.py_check_assignments.proofs.UpdateLemmas.{without_operands, with_operands}
use Rattle.py_check_assignments.proofs.updates.update_one.Goals as goal

pub returns-in_default : goal.returns-in_default
returns-in_default c =
    let scope = context c.args.scope.now in
    let known = known_at c.args.place.now in
    let target = expr_tree c.args.target.now in
    let none : c.typed_operands.result ≡ None = search rules in
    without_operands c.args.span (updated scope.classes c.args.span c.args.op (read_aim scope known (name_in target) (is_access target))) (typed_at scope known free target) (typed_at scope known free (expr_tree c.args.e.now)) c.in_ok-read.read c.in_ok-e.e c.typed_operands.result c.args.faults.now c.typed_at.new.faults c.typed_at-2.new.faults
    c.in_ok-read.ensures c.in_ok-e.ensures c.typed_operands.ensures none

pub returns : goal.returns
returns c =
    let scope = context c.args.scope.now in
    let known = known_at c.args.place.now in
    let target = expr_tree c.args.target.now in
    with_operands c.args.span (updated scope.classes c.args.span c.args.op (read_aim scope known (name_in target) (is_access target))) (typed_at scope known free target) (typed_at scope known free (expr_tree c.args.e.now)) c.in_ok-read.read c.in_ok-e.e c.typed_operands.result c.in-Some.operands c.operation.result c.args.faults.now c.typed_at.new.faults c.typed_at-2.new.faults c.operation.new.faults
    c.in_ok-read.ensures c.in_ok-e.ensures c.typed_operands.ensures c.in-Some.is c.operation.ensures
