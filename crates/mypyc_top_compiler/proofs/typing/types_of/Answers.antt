use Rattle.py_syntax.specs.Statements.{module_tree}
use Rattle.mypyc_top_compiler.proofs.TypeLemmas.{diags_told, diags_are_some}
use Rattle.mypyc_top_compiler.proofs.typing.types_of.Goals as goal

pub returns-in-Err-Diags-clause-tells : goal.returns-in-Err-Diags-clause-tells
returns-in-Err-Diags-clause-tells c =
    let refused = rw c.in-Err-Diags.field-0-is at c.in-Err-Diags.ensures in
    (diags_told (module_tree c.args.parsed.now) c.in-Err-Diags.diags refused, diags_are_some (module_tree c.args.parsed.now) c.in-Err-Diags.diags refused)
