use Rattle.std.proofs.Common.{◌≡◌, ◌++◌, IfOk, sym, subst}
use Rattle.py_syntax.specs.Statements.{FuncTree}
use Rattle.py_binder.proofs.DefinitionLemmas.{func_tree_at}
use Rattle.py_check_context.specs.Context.{context}
use Rattle.py_check_signatures.specs.Views.{header_sorts}
use Rattle.py_check_signatures.specs.Headers.{header, header_said}
use Rattle.py_check_signatures.proofs.headers.header_of.Goals as goal

pub returns-clause-header : goal.returns-clause-header
returns-clause-header c =
    let P : FuncTree → Type 0 = λ t. IfOk c.read.result (λ h. header_sorts h ≡ header (context c.args.scope.now).meaning c.args.owner t) in
    subst P (sym (func_tree_at c.args.f.now)) c.read.ensures.header

pub returns-clause-told : goal.returns-clause-told
returns-clause-told c =
    let P : FuncTree → Type 0 = λ t. IfOk c.read.result (λ h. c.read.new.faults ≡ c.args.faults.now ++ header_said (context c.args.scope.now).meaning t) in
    subst P (sym (func_tree_at c.args.f.now)) c.read.ensures.told
