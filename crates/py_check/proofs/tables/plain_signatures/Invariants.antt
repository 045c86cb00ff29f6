use Rattle.std.proofs.Common.{◌≡◌, ◌++◌, map, drop}
use Rattle.py_typed.specs.Classes.{signature}
use Rattle.py_check_signatures.specs.Headers.{signature_of}
use Rattle.py_check_definitions.specs.Views.{headed_of}
use Rattle.py_check.specs.Module.{plain_signature}
use Rattle.py_check.proofs.tables.plain_signatures.Given as goal

abbrev pub invariant-loop-f : goal.invariant-loop-f
invariant-loop-f l =
    map signature l.all ++ map (λ f. plain_signature (signature_of f.header)) (map headed_of (drop l.f-index l.functions))
    ≡ map (λ f. plain_signature (signature_of f.header)) (map headed_of l.functions)
