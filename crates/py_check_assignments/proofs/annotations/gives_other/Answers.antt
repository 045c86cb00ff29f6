use Rattle.std.proofs.Common.{rules, ◌≡◌, ◌∙◌, ap}
use Rattle.std.specs.Option.{option_map, option_copied}
use Rattle.py_syntax.specs.Expressions.{expr_tree}
use Rattle.py_typed.specs.Sorts.{sort}
use Rattle.py_typed.specs.Expressions.{TypedExpr, type_of}
use Rattle.py_check_context.specs.Context.{context}
use Rattle.py_check_messages.specs.Seen.{Seen}
use Rattle.py_check_coercions.specs.Boxes.{boxed}
use Rattle.py_check_places.specs.Views.{known_at}
use Rattle.py_check_assignments.specs.Views.{given_seen}
use Rattle.py_check_assignments.proofs.AssignmentLemmas.{other_says}
use Rattle.py_check_assignments.proofs.annotations.gives_other.Goals as goal

pub returns-in-Ok-clause-told : goal.returns-in-Ok-clause-told
returns-in-Ok-clause-told c =
    let scope = context c.args.scope.now in
    let given = c.in_ok-given.given in
    let type : option_map sort (option_copied c.as_ref-t.result) ≡ option_map type_of (option_map boxed given.e) = search (rules, c.as_ref-t.ensures, c.in_ok-value.ensures) in
    other_says scope (known_at c.args.place.now) c.args.span (expr_tree c.args.target.now) (expr_tree c.args.mark.now) (expr_tree c.args.e.now) (given_seen given) (option_map sort (option_copied c.as_ref-t.result)) c.args.faults.now c.refuse_given.new.faults
    c.in_ok-given.ensures.value type c.in-Ok.ensures

pub returns-in-Ok-clause-value : goal.returns-in-Ok-clause-value
returns-in-Ok-clause-value c =
    c.in_ok-value.ensures ∙ ap (λ (s : Seen TypedExpr). option_map type_of s.got) c.in_ok-given.ensures.value
