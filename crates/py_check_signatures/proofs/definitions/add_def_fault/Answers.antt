use Rattle.std.proofs.Common.{◌≡◌, ◌++◌, IfOk, sym, subst}
use Rattle.py_syntax.specs.Statements.{FuncTree}
use Rattle.py_binder.proofs.DefinitionLemmas.{func_tree_at}
use Rattle.py_check_signatures.specs.Views.{header_sorts}
use Rattle.py_check_signatures.specs.Definitions.{def_said}
use Rattle.py_check_signatures.proofs.definitions.add_def_fault.Goals as goal

pub returns : goal.returns
returns c =
    let P : FuncTree → Type 0 = λ t. IfOk c.add_fault.result (λ done. c.add_fault.new.faults ≡ c.args.faults.now ++ def_said c.args.span c.args.fresh c.args.own c.args.marked t (header_sorts c.args.header.now)) in
    subst P (sym (func_tree_at c.args.f.now)) c.add_fault.ensures
