use Rattle.std.proofs.Common.{◌∙◌, ◌+◌, arith, cond, sym, ap}
use Rattle.c_text.proofs.LabelLemmas.{count_push, labels_fit}
use Rattle.c_text.proofs.lines.Lines.and.Goals as goal
use Rattle.c_text.proofs.lines.Lines.and.Goals.{then-is_label, else-is_label}

pub prove-unreachable-requires : goal.prove-unreachable-requires
prove-unreachable-requires c =
    omega (arith, labels_fit c.self.inside.lines c.push.new.self c.args.line c.self.inside.labels c.in_ok-push.ensures.ok c.self.invariant)

pub invariant_of-result : goal.invariant_of-result
invariant_of-result c =
    let labels = c.self.inside.labels in
    count_push c.self.inside.lines c.push.new.self c.args.line labels c.if-is_label.labels c.is_label-is_label.result c.in_ok-push.ensures.ok c.self.invariant c.is_label-is_label.ensures (elim c.if-is_label.branch [
      | then-is_label w ↦ w.labels-is ∙ sym (ap (λ b. cond b (labels + 1) labels) w.if-is_label.true)
      | else-is_label w ↦ w.labels-is ∙ sym (ap (λ b. cond b (labels + 1) labels) w.if-is_label.false)
    ])
