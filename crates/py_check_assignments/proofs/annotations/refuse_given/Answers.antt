use Rattle.std.proofs.Common.{◌≡◌, ◌∙◌, ◌&&◌, ap, sym}
use Rattle.std.specs.Option.{option_map, option_copied}
use Rattle.py_syntax.specs.Expressions.{expr_tree}
use Rattle.py_typed.specs.Sorts.{sort}
use Rattle.py_check_context.specs.Context.{context}
use Rattle.py_check_messages.specs.Seen.{both}
use Rattle.py_check_annotations.specs.Annotations.{annotation}
use Rattle.py_check_places.specs.Views.{known_at}
use Rattle.py_check_targets.specs.Targets.{aims_behind}
use Rattle.py_check_assignments.specs.Views.{given_seen}
use Rattle.py_check_assignments.proofs.RefusalLemmas.{both_shown, refused_with_last}
use Rattle.py_check_assignments.proofs.annotations.refuse_given.Goals as goal
use Rattle.py_check_assignments.proofs.annotations.refuse_given.Goals.{then-placed, else-placed}

pub returns : goal.returns
returns c =
    let scope = context c.args.scope.now in
    let s = aims_behind scope (known_at c.args.place.now) (expr_tree c.args.target.now) (option_map sort (option_copied c.args.t)) in
    let t = annotation scope.meaning (expr_tree c.args.mark.now) in
    let placed = c.in_ok-placed.placed in
    let marked = c.in_ok-marked.marked in
    let joined : c.if-placed.complete ≡ (placed && marked) = elim c.if-placed.branch [
      | then-placed w ↦ w.complete-is ∙ ap (λ b. b && marked) (sym w.if-placed.true)
      | else-placed w ↦ w.complete-is ∙ w.if-placed.false ∙ ap (λ b. b && marked) (sym w.if-placed.false)
    ] in
    let shown = both_shown s t placed marked c.if-placed.complete c.args.faults.now c.has_aims_behind.new.faults c.is_type.new.faults joined c.in_ok-placed.ensures c.in_ok-marked.ensures in
    refused_with_last c.args.span (both s t) (given_seen c.args.given) c.if-placed.complete c.refuse_behind.result c.args.faults.now c.is_type.new.faults c.refuse_behind.new.faults shown c.refuse_behind.ensures
