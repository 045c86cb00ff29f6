use Rattle.std.proofs.Common.{◌≡◌, ◌∙◌, ◌&&◌, ap, sym}
use Rattle.py_check_coercions.specs.Boxes.{boxed}
use Rattle.py_check_assignments.specs.Views.{given_seen}
use Rattle.py_check_assignments.proofs.RefusalLemmas.{given_shown, value_refused}
use Rattle.py_check_assignments.proofs.parts.refuse_behind.Goals as goal
use Rattle.py_check_assignments.proofs.parts.refuse_behind.Goals.{then-complete, else-complete}

pub returns : goal.returns
returns c =
    let complete = c.args.complete in
    let typed = c.is_some-typed.result in
    let joined : c.if-complete.whole ≡ (complete && typed) = elim c.if-complete.branch [
      | then-complete w ↦ w.whole-is ∙ ap (λ b. b && typed) (sym w.if-complete.true)
      | else-complete w ↦ w.whole-is ∙ w.if-complete.false ∙ ap (λ b. b && typed) (sym w.if-complete.false)
    ] in
    value_refused c.args.span (given_seen c.args.given) complete typed c.if-complete.whole c.refuse.result c.args.faults.now c.put_behind.new.faults c.refuse.new.faults joined
    (given_shown boxed c.args.given.e typed c.args.given.said c.args.faults.now c.put_behind.new.faults c.is_some-typed.ensures c.in_ok-put_behind.ensures) c.refuse.ensures
