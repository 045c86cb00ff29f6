use Rattle.std.proofs.Common.{◌≡◌, ◌++◌, IfOk, sym, subst}
use Rattle.py_syntax.specs.Statements.{ClassTree}
use Rattle.py_check_classes.proofs.HeaderLemmas.{class_tree_at}
use Rattle.py_check_definitions.specs.Refused.{class_refused}
use Rattle.py_check_definitions.proofs.refused.refuse_class.Goals as goal

pub returns : goal.returns
returns c =
    let P : ClassTree → Type 0 = λ t. IfOk c.refuse_parts.result (λ done. c.refuse_parts.new.faults ≡ c.args.faults.now ++ class_refused c.args.whole c.args.span t) in
    subst P (sym (class_tree_at c.args.c.now)) c.refuse_parts.ensures
