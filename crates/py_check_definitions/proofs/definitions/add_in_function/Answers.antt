use Rattle.std.proofs.Common.{◌≡◌, ◌++◌, ◌∙◌, List, IfOk, Bor, ap, sym, subst}
use Rattle.std.specs.List.{flat_map}
use Rattle.py_syntax.specs.declared.statement.Stmt.{Stmt}
use Rattle.py_syntax.specs.Statements.{StmtTree, FuncTree, body_tree}
use Rattle.py_binder.proofs.DefinitionLemmas.{func_tree_at}
use Rattle.py_check_names.specs.Walked.{trees}
use Rattle.py_check_names.specs.Outline.{suite_definitions}
use Rattle.py_check_definitions.specs.Definitions.{inner_said}
use Rattle.py_check_definitions.proofs.definitions.add_in_function.Goals as goal

pub returns : goal.returns
returns c =
    let P : List StmtTree → Type 0 = λ l. IfOk c.add_all_inner.result (λ done. c.add_all_inner.new.faults ≡ c.args.faults.now ++ flat_map inner_said l) in
    subst P
    (ap (λ (l : List (Bor Stmt)). trees l) c.as_slice-2.ensures.value
    ∙ c.in_ok-found.ensures
    ∙ ap (λ l. suite_definitions (body_tree l)) c.as_slice.ensures
    ∙ ap (λ (t : FuncTree). suite_definitions t.body) (sym (func_tree_at c.args.f.now)))
    c.add_all_inner.ensures
