use Rattle.std.proofs.Common.{rules, ◌≡◌, ◌∙◌, true, false, map, refl, sym, ap, arith}
use Rattle.py_typed.specs.Classes.{class_entry}
use Rattle.class_layout.specs.Merging.{is_below}
use Rattle.class_layout.proofs.LayoutLemmas.{next_falls, all_fall}
use Rattle.class_layout.proofs.order.bases_fall.Goals as goal

pub returns-then-not-is_row_below : goal.returns-then-not-is_row_below
returns-then-not-is_row_below c =
    let n = c.loop-number.number in
    let no : c.is_row_below.result ≡ false = first_of (search (rules, c.if-not-is_row_below.true), grind (arith, c.if-not-is_row_below.true)) in
    record {
      holds = λ e. absurd (cc);
      complete = λ tree. sym no ∙ c.is_row_below.ensures ∙ ap (is_below n) c.bases_at.ensures ∙ tree.falls n;
    }

pub loop-number-preserved : goal.loop-number-preserved
loop-number-preserved c =
    let n = c.loop-number.number in
    let yes : c.is_row_below.result ≡ true = first_of (search (rules, c.if-not-is_row_below.false), grind (arith, c.if-not-is_row_below.false)) in
    next_falls (map class_entry c.args.classes.now) n c.loop-number.invariant (sym (c.is_row_below.ensures ∙ ap (is_below n) c.bases_at.ensures) ∙ yes)

pub returns : goal.returns
returns c =
    record {
      holds = λ e. all_fall c.args.classes.now c.loop-number.number (omega (arith, c.loop-number-test.false)) c.loop-number.invariant;
      complete = λ tree. refl;
    }
