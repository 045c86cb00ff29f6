-- The head of a `for`: what it goes over, its targets, and what is known where its body begins (Python Language Reference, "The for
-- statement").
--
-- What is gone over is evaluated where the loop is entered. Behind that the names that the loop binds are dropped, and only then the
-- targets are looked at, with what the items make known. All names of the target are bound, whether the head holds or is refused.
-- Nothing is asked of what is gone over.
use Rattle.std.specs.Prelude.{List, Option, Some, None, is_some}
use Rattle.py_syntax.specs.declared.token.Span.{Span}
use Rattle.py_syntax.specs.Expressions.{ExprTree}
use Rattle.py_syntax.specs.Statements.{StmtTree}
use Rattle.py_typed.specs.Sorts.{Sort}
use Rattle.py_typed.specs.Statements.{TypedTarget}
use Rattle.py_check_context.specs.Context.{Context}
use Rattle.py_check_messages.specs.Seen.{Seen, both, rule, made}
use Rattle.py_check_places.specs.Places.{Known, entering}
use Rattle.py_check_places.specs.Shapes.{is_row, is_flat, bind_target}
use Rattle.py_check_targets.specs.Targets.{targets_of, aims_behind}
use Rattle.py_check_loops.specs.Loops.{Course, course, course_items, head}

-- the type of the items, if there are such
abbrev pub some_items : Option Course → Option Sort
some_items None = None
some_items (Some w) = course_items w

module _ (c : Context) where
  -- the targets, and what is gone over, of the loop that the statement s is
  abbrev pub for_head : Known → StmtTree → Span → ExprTree → ExprTree → Seen (List TypedTarget × Course)
  for_head k s span target e =
      made (λ p. (targets_of p.0, p.1))
      (rule span (head c.classes (is_flat target) (is_row target)) (both (aims_behind c (entering c k s) target (some_items (course c k e).got)) (course c k e)))

  -- what is known where the body begins
  abbrev pub in_for : Known → StmtTree → Span → ExprTree → ExprTree → Known
  in_for k s span target e =
      bind_target c (is_some (for_head k s span target e).got) (entering c k s) target (some_items (course c k e).got)
