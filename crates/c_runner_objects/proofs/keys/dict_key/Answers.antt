use Rattle.std.proofs.Common.{sym, ap, ◌∙◌, Ok}
use Rattle.std.specs.Prelude.{map}
use Rattle.cell_heap.specs.Contents.{number_of, word_of}
use Rattle.c_runner_deeds.specs.States.{seen}
use Rattle.c_runner_objects.proofs.DictLemmas.{pairs_there}
use Rattle.c_runner_objects.proofs.keys.dict_key.Goals as goal

pub returns-in-Ok-clause-found : goal.returns-in-Ok-clause-found
returns-in-Ok-clause-found c =
    c.in-Ok.ensures.found
    ∙ ap (λ ps. Ok ((number_of c.in-Ok.dict, ps), word_of c.in-Ok.key)) (sym (pairs_there (seen c.args.state.now).cells (map word_of c.args.state.now.top.vars) c.args.args.now _ c.in-Ok.ensures.found))
