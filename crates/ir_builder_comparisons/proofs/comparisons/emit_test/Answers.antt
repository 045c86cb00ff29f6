use Rattle.ir_builder_comparisons.proofs.Common.{Reg, ok_map, compared_sort, tested, compares, as_two}
use Rattle.py_typed.specs.Sorts.{Bool}
use Rattle.ir_builder_comparisons.proofs.comparisons.emit_test.Goals as goal

pub returns-clause-made : goal.returns-clause-made
returns-clause-made c =
    let t = compared_sort c.args.compared in
    ok_map _ _ _ (λ (r : Reg) a. as_two t t Bool (compares (tested c.args.test)) _ _ r.0 c.args.x c.args.y a) c.emit_operation.ensures.made
