use Rattle.std.proofs.Common.{◌≡◌, rules, map, Some}
use Rattle.py_syntax.specs.Expressions.{expr_tree, arg_tree, arguments_of}
use Rattle.py_check_context.specs.Context.{context}
use Rattle.py_check_places.specs.Views.{known_at}
use Rattle.py_check_loops.specs.Loops.{range_arguments}
use Rattle.py_check_loops.proofs.CourseLemmas.{over_range}
use Rattle.py_check_loops.proofs.course.course_of.Goals as goal

pub returns-in-Some : goal.returns-in-Some
returns-in-Some c =
    let A = arguments_of (map arg_tree c.in-Some.args.now) in
    let is : Some A ≡ range_arguments (context c.args.scope.now) (expr_tree c.args.e.now) = search (rules, c.range_arguments.ensures) in
    over_range (context c.args.scope.now) (known_at c.args.place.now) c.args.e.now c.over_range.result c.args.faults.now c.over_range.new.faults A is c.over_range.ensures
