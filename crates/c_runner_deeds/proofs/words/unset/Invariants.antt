use Rattle.std.proofs.Common.{◌≡◌, None, take}
use Rattle.std.specs.Prelude.{map}
use Rattle.c_runner_deeds.specs.States.{held_of}
use Rattle.c_runner_deeds.proofs.words.unset.Given as goal

abbrev pub invariant-loop-global : goal.invariant-loop-global
invariant-loop-global l = map held_of l.places ≡ map (λ g. None) (take l._global-index l.globals)
