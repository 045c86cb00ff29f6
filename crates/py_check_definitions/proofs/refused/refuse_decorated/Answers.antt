use Rattle.std.proofs.Common.{◌≡◌, ◌++◌, IfOk, sym, subst}
use Rattle.py_syntax.specs.Statements.{FuncTree}
use Rattle.py_binder.proofs.DefinitionLemmas.{func_tree_at}
use Rattle.py_check_definitions.specs.Refused.{decorated_said}
use Rattle.py_check_definitions.proofs.refused.refuse_decorated.Goals as goal

pub returns : goal.returns
returns c =
    let P : FuncTree → Type 0 = λ t. IfOk c.refuse_marked.result (λ done. c.refuse_marked.new.faults ≡ c.args.faults.now ++ decorated_said c.args.span t.name t.marks) in
    subst P (sym (func_tree_at c.args.f.now)) c.refuse_marked.ensures
