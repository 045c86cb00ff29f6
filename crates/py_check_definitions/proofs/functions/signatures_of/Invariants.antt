use Rattle.std.proofs.Common.{◌≡◌, ◌++◌, map, drop}
use Rattle.std.specs.Option.{option_map}
use Rattle.py_typed.specs.Classes.{signature}
use Rattle.py_check_signatures.specs.Headers.{signature_of}
use Rattle.py_check_definitions.specs.Views.{headed_of}
use Rattle.py_check_definitions.proofs.functions.signatures_of.Given as goal

abbrev pub invariant-loop-f : goal.invariant-loop-f
invariant-loop-f l =
    map (option_map signature) l.signatures.items ++ map (λ f. signature_of f.header) (map headed_of (drop l.f-index l.functions))
    ≡ map (λ f. signature_of f.header) (map headed_of l.functions)
