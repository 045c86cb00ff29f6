use Rattle.std.proofs.Common.{◌≡◌, rules, map, None, subst₂}
use Rattle.py_syntax.specs.Expressions.{expr_tree}
use Rattle.py_typed.specs.declared.expression.TExpr.{TExpr}
use Rattle.py_typed.specs.Sorts.{sort}
use Rattle.py_typed.specs.Classes.{class_entry}
use Rattle.py_typed.specs.Expressions.{TypedExpr}
use Rattle.py_check_context.specs.Context.{context}
use Rattle.py_check_flow.specs.Bindings.{name_in}
use Rattle.py_check_messages.specs.Seen.{Tells, judged}
use Rattle.py_check_operators.specs.Operators.{arithmetic_type}
use Rattle.py_check_places.specs.Shapes.{is_access}
use Rattle.py_check_values.specs.Aims.{Aim}
use Rattle.py_check_targets.specs.Targets.{read_aim}
use Rattle.py_check_places.specs.Views.{known_at}
use Rattle.py_check_targets.specs.Views.{boxed_aim, boxed_sort}
use Rattle.py_check_assignments.proofs.UpdateLemmas.{refused_says, holds_says}
use Rattle.py_check_assignments.proofs.updates.operation.Goals as goal

pub returns-in_default : goal.returns-in_default
returns-in_default c =
    let classes = map class_entry c.args.scope.now.classes.now.list in
    let target = expr_tree c.args.target.now in
    let aim : TypedExpr → Aim = read_aim (context c.args.scope.now) (known_at c.args.place.now) (name_in target) (is_access target) in
    let Told : TExpr → TExpr → Type 0 = λ a b. Tells boxed_sort c.in_ok-ty.field-0 c.args.faults.now c.result_type.new.faults (judged c.args.span (arithmetic_type classes c.args.op (sort a.ty) (sort b.ty))) in
    let none : c.in_ok-ty.field-0 ≡ None = search rules in
    refused_says classes c.args.span c.args.op aim c.args.operands.read.value c.args.operands.e.value c.in_ok-ty.field-0 c.args.faults.now c.result_type.new.faults (subst₂ Told c.deref.ensures c.deref-2.ensures c.in_ok-ty.ensures) none

pub returns : goal.returns
returns c =
    let classes = map class_entry c.args.scope.now.classes.now.list in
    let target = expr_tree c.args.target.now in
    let aim : TypedExpr → Aim = read_aim (context c.args.scope.now) (known_at c.args.place.now) (name_in target) (is_access target) in
    let Told : TExpr → TExpr → Type 0 = λ a b. Tells boxed_sort c.in_ok-ty.field-0 c.args.faults.now c.result_type.new.faults (judged c.args.span (arithmetic_type classes c.args.op (sort a.ty) (sort b.ty))) in
    holds_says classes c.args.span c.args.op aim c.args.operands.read.value c.args.operands.e.value c.in_ok-ty.field-0 c.in-Some.ty (boxed_aim c.in_ok-aim.aim) c.updated_to.result c.args.faults.now c.result_type.new.faults c.updated_to.new.faults
    (subst₂ Told c.deref.ensures c.deref-2.ensures c.in_ok-ty.ensures) c.in-Some.is c.in_ok-aim.ensures c.updated_to.ensures
