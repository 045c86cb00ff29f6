use Rattle.std.proofs.Common.{ap, ◌∙◌}
use Rattle.std.specs.Prelude.{map}
use Rattle.c_core.specs.Functions.{number_of}
use Rattle.c_runner_table.proofs.TableLemmas.{class_functions}
use Rattle.c_runner_table.proofs.naming.class_functions.Goals as goal

pub returns : goal.returns
returns c =
    λ functions known.
    class_functions functions c.args.class.now _ _
    (c.in_ok-own.ensures functions known ∙ ap (map (number_of functions)) c.as_slice.ensures)
    (c.in_ok-traits.ensures functions known ∙ ap (map (λ t. map (number_of functions) t.1)) c.as_slice-2.ensures)
