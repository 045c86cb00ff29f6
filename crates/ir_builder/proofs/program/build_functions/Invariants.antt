use Rattle.ir_builder.proofs.Common.{map, take, typed_module, typed_func, AllBuilt}
use Rattle.ir_builder.proofs.program.build_functions.Given as goal

abbrev pub invariant-loop-f : goal.invariant-loop-f
invariant-loop-f l = AllBuilt (typed_module l.checked) (map typed_func (take l.f-index l.functions)) l.made.items
