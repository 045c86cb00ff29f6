use Rattle.std.proofs.Common.{◌∙◌, ◌+◌, ◌∷◌, [], map, drop, length, refl, sym, ap, arith, length-append}
use Rattle.class_layout_members.proofs.RowLemmas.{from_place}
use Rattle.py_check_classes.specs.Headers.{entry}
use Rattle.py_check_overrides.specs.Overrides as spec
use Rattle.py_check_overrides.specs.Overrides.{verdicts_behind}
use Rattle.py_check_overrides.specs.Views.{owns, verdict}
use Rattle.py_check_overrides.proofs.JudgeLemmas.{verdicts_on, told_next, read_good}
use Rattle.py_check_overrides.proofs.judge.verdicts.Goals as goal

pub loop-header-preserved : goal.loop-header-preserved
loop-header-preserved c =
    let headers = c.args.classes.now.headers.now in
    let classes = map entry headers in
    let all = owns c.args.classes.now.members.now in
    let i = c.loop-header.header-index in
    let h = c.header-item.result in
    let xs = c.loop-header.verdicts in
    let v = c.in_ok-judged.judged.verdict in
    let put = c.in_ok-push.ensures.ok in
    let here = from_place headers i h c.loop-header-test.true c.header-item.is in
    let seen = c.as_slice.ensures in
    let many = ap length put ∙ length-append xs (v ∷ []) in
    let counted = c.loop-header.invariant.counted in
    let placed = c.loop-header.invariant.placed in
    let longer = c.in_ok-add.ensures.length in
    record {
      verdicts =
          verdicts_on classes all xs c.push.new.self v put h (drop (i + 1) headers) _ (c.in_ok-judged.ensures.verdict ∙ ap (λ l. spec.verdict classes all (map verdict l) h) seen)
          (sym (ap (verdicts_behind classes all (map verdict xs)) here) ∙ c.loop-header.invariant.verdicts);
      counted = omega (arith, many, counted);
      placed = omega (arith, many, placed, longer);
      lines = c.in_ok-add.ensures.lines;
      told =
          told_next classes all xs c.push.new.self v put c.loop-header.lines c.add.new.self c.in_ok-judged.judged (length c.loop-header.lines.line_of) placed refl c.loop-header.invariant.told
          (read_good classes all c.loop-header.lines c.in_ok-judged.judged (ap length seen ∙ sym placed) c.in_ok-judged.ensures.judged)
          c.in_ok-add.ensures.old c.in_ok-add.ensures.new;
    }
