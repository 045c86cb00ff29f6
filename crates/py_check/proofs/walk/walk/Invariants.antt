use Rattle.std.proofs.Common.{◌≡◌, ◌++◌, [], map, drop}
use Rattle.std.specs.Option.{option_map}
use Rattle.py_syntax.specs.Statements.{body_tree}
use Rattle.py_typed.specs.Statements.{typed_stmt}
use Rattle.py_check_context.specs.Context.{context}
use Rattle.py_check_messages.specs.Rows.{appended}
use Rattle.py_check_values.specs.Returns.{outside}
use Rattle.py_check_places.specs.Views.{known_at}
use Rattle.py_check_statements.specs.Bodies.{nothing_around, block, block_after}
use Rattle.py_check_definitions.specs.Views.{classes_seen}
use Rattle.py_check.specs.Parts.{walk_along}
use Rattle.py_check.proofs.walk.walk.Given as goal

abbrev pub invariant-loop-s : goal.invariant-loop-s
invariant-loop-s l =
    record {
      typed : appended (option_map (map typed_stmt) l.typed) (block (context l.scope) outside nothing_around (known_at l.place) (body_tree (drop l.s-index l.body))).got
          ≡ (block (context l.scope) outside nothing_around (known_at l.fn.place) (body_tree l.body)).got;
      told : l.faults ++ walk_along (classes_seen l.classes) (context l.scope) (known_at l.place) l.earlier.names.keys l.earlier.classes l.rest (body_tree (drop l.s-index l.body))
          ≡ l.fn.faults ++ walk_along (classes_seen l.classes) (context l.scope) (known_at l.fn.place) [] 0 l.insides (body_tree l.body);
      known : block_after (context l.scope) (known_at l.place) (body_tree (drop l.s-index l.body))
          ≡ block_after (context l.scope) (known_at l.fn.place) (body_tree l.body);
    }
