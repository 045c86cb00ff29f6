use Rattle.std.proofs.Common.{map}
use Rattle.std.specs.Option.{option_map, option_copied}
use Rattle.py_syntax.specs.Expressions.{expr_tree}
use Rattle.py_typed.specs.Sorts.{sort}
use Rattle.py_check_context.specs.Context.{context}
use Rattle.py_check_places.specs.Views.{known_at}
use Rattle.py_check_values.specs.Aims.{aim_seen}
use Rattle.py_check_targets.specs.Targets.{aims_behind}
use Rattle.py_check_assignments.proofs.RefusalLemmas.{shown}
use Rattle.py_check_assignments.proofs.parts.has_aims_behind.Goals as goal

pub returns : goal.returns
returns c =
    shown (map aim_seen) c.in_ok-aims.aims c.is_some.result c.args.faults.now c.aims_behind.new.faults
    (aims_behind (context c.args.scope.now) (known_at c.args.place.now) (expr_tree c.args.target.now) (option_map sort (option_copied c.args.t))) c.in_ok-aims.ensures c.is_some.ensures
