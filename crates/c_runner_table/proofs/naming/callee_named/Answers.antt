use Rattle.std.proofs.Common.{sym, ap, ◌∙◌}
use Rattle.std.specs.Option.{option_map}
use Rattle.c_runner_table.specs.declared.naming.Callee.TheVariants as callee
use Rattle.c_core.specs.Functions.{function_named}
use Rattle.c_runner_table.specs.Targets.{callee_among}
use Rattle.c_runner_table.proofs.TableLemmas.{no_primitive}
use Rattle.c_runner_table.proofs.naming.callee_named.Goals as goal

pub returns-in-None-function_named : goal.returns-in-None-function_named
returns-in-None-function_named c =
    λ functions known. sym (no_primitive functions c.args.name.now c.in-None.ensures ∙ ap (option_map callee.Function) (sym (c.in-None-function_named.ensures functions known)))

pub returns-in-Some-function_named : goal.returns-in-Some-function_named
returns-in-Some-function_named c =
    λ functions known. sym (no_primitive functions c.args.name.now c.in-None.ensures ∙ ap (option_map callee.Function) (sym (c.in-Some-function_named.ensures functions known)))

pub returns-in-Some : goal.returns-in-Some
returns-in-Some c =
    λ functions known. ap (λ o. callee_among o (function_named functions c.args.name.now)) c.in-Some.ensures
