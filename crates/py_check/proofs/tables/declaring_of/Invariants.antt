use Rattle.std.proofs.Common.{◌≡◌, ◌++◌, map, drop}
use Rattle.py_check_names.specs.Walked.{trees}
use Rattle.py_check_classes.specs.Names.{classes_in}
use Rattle.py_check_members.specs.Members.{declaring}
use Rattle.py_check.specs.Parts.{places_in}
use Rattle.py_check.proofs.tables.declaring_of.Given as goal

abbrev pub invariant-loop-s : goal.invariant-loop-s
invariant-loop-s l =
    places_in l.all ++ map (λ c. declaring c.body) (classes_in (trees (drop l.s-index l.definitions))) ≡ map (λ c. declaring c.body) (classes_in (trees l.definitions))
