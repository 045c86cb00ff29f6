use Rattle.std.proofs.Common.{◌≡◌, List, take}
use Rattle.std.specs.Prelude.{map}
use Rattle.std.specs.HashMap.{get_by}
use Rattle.std.specs.Str.{bytes_eq}
use Rattle.c_core.specs.declared.code.CFunc.{CFunc}
use Rattle.c_core.specs.Functions.{number_of}
use Rattle.c_runner_table.specs.Targets.{AreNumbers}
use Rattle.c_runner_table.proofs.naming.functions_named.Given as goal

abbrev pub invariant-loop-name : goal.invariant-loop-name
invariant-loop-name l = (functions : List CFunc) → AreNumbers functions (λ q. get_by (λ k. bytes_eq q k.now) l.numbers) → l.found ≡ map (number_of functions) (take l.name-index l.names)
