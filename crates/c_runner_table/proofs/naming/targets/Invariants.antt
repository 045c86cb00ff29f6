use Rattle.std.proofs.Common.{◌≡◌, take}
use Rattle.std.specs.Prelude.{map}
use Rattle.std.specs.HashMap.{get_by}
use Rattle.std.specs.Str.{bytes_eq}
use Rattle.c_core.specs.declared.code.Code.{Code}
use Rattle.c_core.specs.Functions.{label_places}
use Rattle.c_runner_table.specs.Targets.{AreNumbers, AreGlobals, AreClasses, target_of}
use Rattle.c_runner_table.proofs.naming.targets.Given as goal

abbrev pub invariant-loop-line : goal.invariant-loop-line
invariant-loop-line l = (code : Code) → AreNumbers code.funcs (λ q. get_by (λ k. bytes_eq q k.now) l.numbers) → AreGlobals code.globals (λ q. get_by (λ k. bytes_eq q k.now) l.globals) → AreClasses code.classes (λ q. get_by (λ k. bytes_eq q k.now) l.classes) → l.targets ≡ map (target_of code (label_places l.lines)) (take l.line-index l.lines)
