use Rattle.std.proofs.Common.{map, ap, sym, ◌∙◌, arith}
use Rattle.py_syntax.specs.Expressions.{expr_tree}
use Rattle.py_parser.specs.Definitions.{reads_marks}
use Rattle.py_parser.proofs.DefinitionReading.{marks_more}
use Rattle.py_parser.proofs.define.marks.Goals as goal

pub marks-preserved : goal.marks-preserved
marks-preserved c =
    let ts = c.args.tokens.now in
    let more = c.in_ok-more.more in
    let behind = c.in_ok-more.behind in
    record {
      so_far =
          c.marks.invariant.so_far
          ∙ marks_more ts (map expr_tree c.marks.found) c.marks.place _ (sym c.sees_sign.ensures ∙ c.marks-test.true) c.in_ok-more.ensures.read
          ∙ ap (λ l. reads_marks ts l behind) (sym c.in_ok-found-2.ensures);
      moves = record {
        on = omega (arith, c.marks.invariant.moves.on, c.in_ok-more.ensures.moves.on);
        within = λ h. c.in_ok-more.ensures.moves.within;
      };
    }
