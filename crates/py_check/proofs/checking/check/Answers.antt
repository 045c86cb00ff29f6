use Rattle.std.proofs.Common.{ap}
use Rattle.py_syntax.specs.Statements.{module_tree, body_tree}
use Rattle.py_typed.specs.Statements.{typed_module}
use Rattle.py_check.proofs.WholeLemmas.{answer}
use Rattle.py_check.proofs.checking.check.Goals as goal

pub returns : goal.returns
returns c =
    let t = c.in_ok-typing.typing in
    answer (module_tree c.args.m.now) (body_tree c.as_slice.result.now) (ap body_tree c.as_slice.ensures) t.faults c.in_ok-typing.ensures.told (typed_module t.checked) c.in_ok-typing.ensures.typed c.by_faults.result c.by_faults.ensures
