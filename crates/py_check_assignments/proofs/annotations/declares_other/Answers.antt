use Rattle.std.proofs.Common.{◌≡◌, ◌∙◌, ◌&&◌, ap, sym}
use Rattle.py_syntax.specs.Expressions.{expr_tree}
use Rattle.py_check_context.specs.Context.{context}
use Rattle.py_check_messages.specs.Seen.{both}
use Rattle.py_check_annotations.specs.Annotations.{annotation}
use Rattle.py_check_places.specs.Views.{known_at}
use Rattle.py_check_targets.specs.Targets.{target_aims}
use Rattle.py_check_assignments.proofs.RefusalLemmas.{both_shown, refused_last}
use Rattle.py_check_assignments.proofs.annotations.declares_other.Goals as goal
use Rattle.py_check_assignments.proofs.annotations.declares_other.Goals.{then-placed, else-placed}

pub returns : goal.returns
returns c =
    let scope = context c.args.scope.now in
    let s = target_aims scope (known_at c.args.place.now) (expr_tree c.args.target.now) in
    let t = annotation scope.meaning (expr_tree c.args.mark.now) in
    let placed = c.in_ok-placed.placed in
    let marked = c.in_ok-marked.marked in
    let joined : c.if-placed.complete ≡ (placed && marked) = elim c.if-placed.branch [
      | then-placed w ↦ w.complete-is ∙ ap (λ b. b && marked) (sym w.if-placed.true)
      | else-placed w ↦ w.complete-is ∙ w.if-placed.false ∙ ap (λ b. b && marked) (sym w.if-placed.false)
    ] in
    let shown = both_shown s t placed marked c.if-placed.complete c.args.faults.now c.has_aims.new.faults c.is_type.new.faults joined c.in_ok-placed.ensures c.in_ok-marked.ensures in
    refused_last c.args.span (both s t) c.if-placed.complete c.refuse.result c.args.faults.now c.is_type.new.faults c.refuse.new.faults shown c.refuse.ensures
