use Rattle.std.proofs.Common.{refl}
use Rattle.py_binder.specs.Scope.{module_scope}
use Rattle.py_check_definitions.specs.Definitions.{headed_functions}
use Rattle.py_check.specs.Module.{function_context, global_sorts, module_context}
use Rattle.py_check.proofs.Bindings.{all_fixed, body_keeps}
use Rattle.py_check_laws.proofs.laws.bodies_fix_no_types.Goals as goal

pub returns : goal.returns
returns c = λ m f. body_keeps (function_context (module_context m) f) (module_context m).variables (global_sorts (module_context m) (module_scope m) (headed_functions m) m) f (all_fixed (module_context m) m refl)
