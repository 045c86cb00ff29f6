use Rattle.std.proofs.Common.{◌≡◌, List, take}
use Rattle.std.specs.Prelude.{map}
use Rattle.std.specs.HashMap.{get_by}
use Rattle.std.specs.Str.{bytes_eq}
use Rattle.c_core.specs.declared.code.CFunc.{CFunc}
use Rattle.c_runner_table.specs.Targets.{AreNumbers, functions_of}
use Rattle.c_runner_table.proofs.naming.functions_by_class.Given as goal

abbrev pub invariant-loop-class : goal.invariant-loop-class
invariant-loop-class l = (functions : List CFunc) → AreNumbers functions (λ q. get_by (λ k. bytes_eq q k.now) l.numbers) → l.found ≡ map (functions_of functions) (take l.class-index l.classes)
