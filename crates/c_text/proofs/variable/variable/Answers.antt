use Rattle.c_text.proofs.VariableLemmas.{variable_found, no_variable}
use Rattle.c_text.proofs.variable.variable.Goals as goal

pub returns-in-Some : goal.returns-in-Some
returns-in-Some c = variable_found c.args.vars.now c.in-Some.name.now c.args.word.now c.of_name.result c.of_name.ensures c.in-Some.ensures

pub returns-in-None : goal.returns-in-None
returns-in-None c = no_variable c.args.vars.now c.args.word.now c.in-None.ensures
