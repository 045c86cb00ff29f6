use Rattle.std.proofs.Common.{ap, ◌∙◌}
use Rattle.c_runner_table.specs.Targets.{callee_of, named_of}
use Rattle.c_runner_table.proofs.TableLemmas.{call_line}
use Rattle.c_runner_table.proofs.naming.line_target.Goals as goal

pub returns-in-Call : goal.returns-in-Call
returns-in-Call c =
    λ code known found typed.
    call_line code c.args.labels.now c.args.line.now _ _ _ _ _ c.in-Call.is
    (c.callee_named.ensures code.funcs known ∙ ap (callee_of code.funcs) c.as_str.ensures)
    (c.first_named.ensures code found typed ∙ ap (named_of code) c.as_slice.ensures)
