use Rattle.std.proofs.Common.{sym, ap, ◌∙◌}
use Rattle.std.specs.Option.{option_flatten}
use Rattle.c_core.specs.Functions.{method_at}
use Rattle.c_runner.proofs.MethodLemmas.{no_functions, own_found}
use Rattle.c_runner.proofs.methods.own_method.Goals as goal

pub returns-in-None : goal.returns-in-None
returns-in-None c = no_functions c.args._code.now c.args.class (method_at c.args.number) c.args.classes.now c.requires (sym c.in-None.ensures.value)

pub returns-in-Some : goal.returns-in-Some
returns-in-Some c =
    c.flatten.ensures
    ∙ ap option_flatten (c.copied.ensures ∙ c.get-in-Some.ensures.value)
    ∙ own_found c.args._code.now c.args.class c.args.classes.now c.in-Some.methods.now c.args.number c.requires (sym c.in-Some.ensures.value)
