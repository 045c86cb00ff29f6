use Rattle.std.proofs.Common.{ap, ◌∙◌}
use Rattle.std.specs.Prelude.{map}
use Rattle.c_runner_table.specs.Targets.{functions_of}
use Rattle.c_runner_table.proofs.TableLemmas.{tables}
use Rattle.c_runner_table.proofs.naming.table_by.Goals as goal

pub returns : goal.returns
returns c =
    tables c.args.code.now _ _ c.in_ok-lines.ensures
    (c.in_ok-classes.ensures c.args.code.now.funcs c.requires ∙ ap (map (functions_of c.args.code.now.funcs)) c.as_slice.ensures)
