use Rattle.std.proofs.Common.{◌≡◌, ◌++◌, drop}
use Rattle.py_check_context.specs.Context.{context}
use Rattle.py_check_names.specs.Walked.{trees}
use Rattle.py_check_places.specs.Views.{known_at}
use Rattle.py_check_definitions.specs.Views.{classes_seen, said_along, names_behind, classes_behind, scopes_behind}
use Rattle.py_check_definitions.proofs.definitions.add_definitions.Given as goal

abbrev pub invariant-loop-s : goal.invariant-loop-s
invariant-loop-s l =
    record {
      told : l.faults ++ said_along (classes_seen l.classes) (context l.scope) (known_at l.place) l.earlier.names.keys l.earlier.classes l.rest (trees (drop l.s-index l.definitions))
          ≡ l.fn.faults ++ said_along (classes_seen l.classes) (context l.scope) (known_at l.place) l.fn.earlier.names.keys l.fn.earlier.classes l.insides (trees l.definitions);
      names : names_behind l.earlier.names.keys (trees (drop l.s-index l.definitions)) ≡ names_behind l.fn.earlier.names.keys (trees l.definitions);
      classes : classes_behind l.earlier.classes (trees (drop l.s-index l.definitions)) ≡ classes_behind l.fn.earlier.classes (trees l.definitions);
      scopes : scopes_behind l.rest (trees (drop l.s-index l.definitions)) ≡ scopes_behind l.insides (trees l.definitions);
    }
