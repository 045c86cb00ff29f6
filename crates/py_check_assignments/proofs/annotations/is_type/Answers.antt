use Rattle.py_typed.specs.Sorts.{sort}
use Rattle.py_syntax.specs.Expressions.{expr_tree}
use Rattle.py_check_context.specs.Context.{context}
use Rattle.py_check_annotations.specs.Annotations.{annotation}
use Rattle.py_check_assignments.proofs.RefusalLemmas.{shown}
use Rattle.py_check_assignments.proofs.annotations.is_type.Goals as goal

pub returns : goal.returns
returns c =
    shown sort c.in_ok-t.t c.is_some-typed.result c.args.faults.now c.annotation.new.faults (annotation (context c.args.scope.now).meaning (expr_tree c.args.mark.now)) c.in_ok-t.ensures c.is_some-typed.ensures
