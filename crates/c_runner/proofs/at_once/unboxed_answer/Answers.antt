use Rattle.std.proofs.Common.{sym, ap, ◌∙◌, Ok}
use Rattle.std.proofs.lemmas.Int.{to_z-of_z}
use Rattle.std.specs.Int.{w128}
use Rattle.c_core.specs.Step.{tagged_effect, unboxed}
use Rattle.c_runner_deeds.specs.Deeds.{then_done}
use Rattle.cell_heap.specs.Contents.{number_of, word_of}
use Rattle.c_runner.proofs.AtOnceLemmas.{some_as, unboxed_too}
use Rattle.c_runner.proofs.at_once.unboxed_answer.Goals as goal

pub returns-in-Ok-clause-says : goal.returns-in-Ok-clause-says
returns-in-Ok-clause-says c =
    some_as c.short_word.result _ _
    (λ word e. ap (then_done (λ q. unboxed q.0 q.1)) c.in-Ok.ensures.found ∙ ap Ok (unboxed_too (number_of c.in-Ok.field-0-0) c.in-Ok.n (word_of word) (ap tagged_effect (sym (to_z-of_z w128 c.in-Ok.n (search))) ∙ e)))
    c.short_word.ensures.says
