-- What the program's heads of except clauses stand for.
use Rattle.std.specs.Prelude.{List, Option}
use Rattle.std.specs.Option.{option_map}
use Rattle.std.specs.declared.boxed.Box.{Box}
use Rattle.std.specs.declared.alloc.Global.{Global}
use Rattle.value_core.specs.declared.exception.ExcClass.{ExcClass}
use Rattle.py_typed.specs.Statements.{TypedTarget, typed_target}
use Rattle.py_check_exceptions.specs.declared.handlers.Head.{Head}

abbrev pub head_seen : Head → List ExcClass × Option TypedTarget
head_seen h = (h.classes, option_map typed_target h.name)

abbrev pub boxed_handler_head : Box Head Global → List ExcClass × Option TypedTarget
boxed_handler_head h = head_seen h.value
