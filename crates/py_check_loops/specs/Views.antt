-- What the program's loops stand for.
use Rattle.std.specs.Prelude.{List, map}
use Rattle.std.specs.Option.{option_map}
use Rattle.std.specs.declared.boxed.Box.{Box}
use Rattle.std.specs.declared.alloc.Global.{Global}
use Rattle.py_typed.specs.Statements.{TypedTarget, typed_target}
use Rattle.py_check_messages.specs.Seen.{Seen}
use Rattle.py_check_coercions.specs.Boxes.{boxed}
use Rattle.py_check_loops.specs.declared.course.Course as declared
use Rattle.py_check_loops.specs.declared.course.Course.TheVariants as case
use Rattle.py_check_loops.specs.declared.head.Head.{Head}
use Rattle.py_check_loops.specs.declared.head.GoneOver.{GoneOver}
use Rattle.py_check_loops.specs.Loops.{Course, numbers, value}

abbrev pub course_seen : declared.Course → Course
course_seen (case.Numbers a b) = numbers (option_map boxed a) (boxed b)
course_seen (case.Value e) = value (boxed e)

abbrev pub head_seen : Head → List TypedTarget × Course
head_seen h = (map typed_target h.targets, course_seen h.course)

abbrev pub boxed_head : Box Head Global → List TypedTarget × Course
boxed_head h = head_seen h.value

abbrev pub over_seen : GoneOver → Seen Course
over_seen over = record { got = option_map course_seen over.course; said = over.said }
