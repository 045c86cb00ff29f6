use Rattle.c_text.proofs.VariableLemmas.{variable_of_found, no_variable_of}
use Rattle.c_text.proofs.variable.variable_of.Goals as goal

pub returns-in-Some : goal.returns-in-Some
returns-in-Some c = variable_of_found c.args.vars.now c.in-Some.name.now c.args.word.now c.args.kind c.of_name_and_kind.result c.of_name_and_kind.ensures c.in-Some.ensures

pub returns-in-None : goal.returns-in-None
returns-in-None c = no_variable_of c.args.vars.now c.args.word.now c.args.kind c.in-None.ensures
