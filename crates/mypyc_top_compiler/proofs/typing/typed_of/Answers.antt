use Rattle.py_syntax.specs.Statements.{module_tree}
use Rattle.py_typed.specs.declared.checked.Checked.{Checked}
use Rattle.py_typed.specs.Statements.{typed_module}
use Rattle.mypyc_top_compiler.proofs.FaultLemmas.{uncompiled_tells}
use Rattle.mypyc_top_compiler.proofs.typing.typed_of.Goals as goal

pub returns-in-Some-clause-tells : goal.returns-in-Some-clause-tells
returns-in-Some-clause-tells c =
    uncompiled_tells Checked c.args.mode (module_tree c.args.parsed.now) (typed_module c.in_ok-checked.checked) c.in_ok-form_not_compiled.field-0 c.in-Some.unbuilt c.in_ok-checked.ensures.tells c.in_ok-checked.ensures.typed c.in_ok-form_not_compiled.ensures c.in-Some.is
