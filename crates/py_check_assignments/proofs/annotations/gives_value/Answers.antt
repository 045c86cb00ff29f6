use Rattle.std.proofs.Common.{rules, ◌≡◌}
use Rattle.std.specs.Option.{option_map, option_copied}
use Rattle.py_syntax.specs.Expressions.{expr_tree}
use Rattle.py_typed.specs.Sorts.{sort}
use Rattle.py_check_context.specs.Context.{context}
use Rattle.py_check_places.specs.Views.{known_at}
use Rattle.py_check_assignments.proofs.AssignmentLemmas.{gives_says}
use Rattle.py_check_assignments.proofs.annotations.gives_value.Goals as goal

pub returns-clause-told : goal.returns-clause-told
returns-clause-told c =
    let name = c.in_ok-name.name in
    let type : option_map sort (option_copied c.as_ref.result) ≡ option_map sort c.in_ok-t.t = search (rules, c.as_ref.ensures) in
    gives_says (λ a. a.kind) c.with_value-assignment.result (context c.args.scope.now) (known_at c.args.place.now) c.args.span c.args.x.now name.name.now name.bound (expr_tree c.args.mark.now) (expr_tree c.args.e.now) name.aim c.in_ok-t.t (option_map sort (option_copied c.as_ref.result)) c.args.faults.now c.annotation.new.faults c.with_value-assignment.new.faults
    c.in_ok-name.ensures.name c.in_ok-name.ensures.bound c.in_ok-name.ensures.aim c.in_ok-t.ensures type c.with_value-assignment.ensures.told
