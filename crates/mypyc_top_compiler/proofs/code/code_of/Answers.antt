use Rattle.std.proofs.Common.{◌∙◌}
use Rattle.py_typed.specs.Statements.{typed_module}
use Rattle.mypyc_top_compiler.proofs.Values.{if_ok}
use Rattle.mypyc_top_compiler.proofs.CodeLemmas.{same_does, following_is_faithful}
use Rattle.mypyc_top_compiler.proofs.code.code_of.Goals as goal

pub returns : goal.returns
returns c =
    let m = typed_module c.args.checked.now in
    let built = c.in_ok-program.ensures in
    let tested = c.in_ok-tested.ensures in
    let edged = c.in_ok-edged.ensures in
    let does = same_does m c.in_ok-program.program c.in_ok-tested.tested built.means tested.kept in
    if_ok c.insert_counts.result _ _
    (λ code follows. following_is_faithful m c.in_ok-tested.tested c.in_ok-edged.edged.program code does (tested.tests.globals ∙ built.globals) edged.layout edged.kept follows)
    c.insert_counts.ensures.follows
