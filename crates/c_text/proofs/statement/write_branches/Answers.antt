use Rattle.std.proofs.Common.{◌∙◌, ◌++◌, ap}
use Rattle.std.specs.Prelude.{codes}
use Rattle.std.specs.Fmt.{decimal}
use Rattle.c_text.proofs.Writing.{same_text}
use Rattle.c_text.proofs.statement.write_branches.Goals as goal

pub returns : goal.returns
returns g c =
    let second = c.number_word-second.result.now in
    same_text (ap (λ t. codes ") goto CPyL" ++ (t ++ (codes "; else goto CPyL" ++ second))) c.number_word-first.ensures
    ∙ ap (λ t. codes ") goto CPyL" ++ (decimal c.args.first ++ (codes "; else goto CPyL" ++ t))) c.number_word-second.ensures)
    c.write_words.ensures
