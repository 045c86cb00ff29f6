use Rattle.py_syntax.specs.Expressions.{expr_tree}
use Rattle.py_check_context.specs.Context.{context}
use Rattle.py_check_places.specs.Views.{known_at}
use Rattle.py_check_targets.proofs.SeenLemmas.{same_seen}
use Rattle.py_check_loops.specs.Loops.{course}
use Rattle.py_check_loops.specs.Views.{course_seen}
use Rattle.py_check_loops.proofs.head.gone_over.Goals as goal

pub returns : goal.returns
returns c =
    same_seen course_seen c.in_ok-course.course c.new-said.result c.course_of.new.faults (course (context c.args.scope.now) (known_at c.args.place.now) (expr_tree c.args.e.now)) c.new-said.ensures c.in_ok-course.ensures
