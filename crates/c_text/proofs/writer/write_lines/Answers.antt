use Rattle.std.proofs.Common.{◌+◌, ◌++◌, ◌∷◌, ◌∙◌, [], arith, cond, sym, ap, take}
use Rattle.std.proofs.lemmas.List.{take_all, take_more}
use Rattle.c_text.specs.Written.{lines_written}
use Rattle.c_text.proofs.LabelLemmas.{count_push}
use Rattle.c_text.proofs.Writing.{same_text}
use Rattle.c_text.proofs.WrittenLemmas.{line_broken, line_more}
use Rattle.c_text.proofs.writer.write_lines.Goals as goal
use Rattle.c_text.proofs.writer.write_lines.Goals.{then-is_label, else-is_label}

pub returns-in_err-write_line : goal.returns-in_err-write_line
returns-in_err-write_line g c =
    line_broken c.args.vars.now _ _ _ _ _ _ _ c.as_slice-line-items.ensures c.loop-line.invariant.counted c.loop-line-test.true c.line-item.is c.from_residual.ensures.0 c.loop-line.invariant.written c.in_err-write_line.ensures

pub loop-line-preserved : goal.loop-line-preserved
loop-line-preserved g c =
    let labels = c.loop-line.labels in
    let xs = c.as_slice-line-items.result.now in
    let i = c.loop-line.line-index in
    record {
      written = line_more c.args.vars.now xs i labels c.line-item.result _ c.loop-line.invariant.counted c.loop-line-test.true c.line-item.is c.loop-line.invariant.written c.in_ok-write_line.ensures;
      counted = count_push (take i xs) (take (i + 1) xs) c.line-item.result labels c.if-is_label.labels c.is_label.result (take_more xs i c.line-item.result c.loop-line-test.true ∙ ap (λ y. take i xs ++ y ∷ []) (sym c.line-item.is)) c.loop-line.invariant.counted c.is_label.ensures (elim c.if-is_label.branch [
        | then-is_label w ↦ w.labels-is ∙ sym (ap (λ b. cond b (labels + 1) labels) w.if-is_label.true)
        | else-is_label w ↦ w.labels-is ∙ sym (ap (λ b. cond b (labels + 1) labels) w.if-is_label.false)
      ]);
      few = elim c.if-is_label.branch [ then-is_label w ↦ omega (arith, c.loop-line.invariant.few) | else-is_label w ↦ omega (arith, c.loop-line.invariant.few) ];
    }

pub returns : goal.returns
returns g c =
    same_text (ap (lines_written c.args.vars.now 0) (take_all _ _ c.loop-line-test.false ∙ c.as_slice-line-items.ensures)) c.loop-line.invariant.written
