use Rattle.std.proofs.Common.{refl}
use Rattle.py_check.specs.Module.{module_context}
use Rattle.py_check.proofs.Bindings.{module_fixes}
use Rattle.py_check_laws.proofs.laws.statements_of_a_module_fix_types.Goals as goal

pub returns : goal.returns
returns c = λ m i x at. module_fixes (module_context m) m refl i x at
