use Rattle.std.proofs.Common.{◌∙◌, ◌++◌, ap}
use Rattle.std.specs.Prelude.{codes}
use Rattle.c_core.specs.Text.{var_text}
use Rattle.c_text.proofs.Writing.{same_text}
use Rattle.c_text.proofs.statement.write_count.Goals as goal

pub returns : goal.returns
returns g c =
    let verb = c.args.verb.now in
    same_text (ap (λ t. c.counter_word-counter.result.now ++ (verb ++ (codes "(" ++ t))) (c.variable_words-counted.ensures.before (codes ")"))
    ∙ ap (λ t. t ++ (verb ++ (codes "(" ++ (var_text c.args.vars.now c.args.place ++ codes ")")))) c.counter_word-counter.ensures)
    c.write_words.ensures
