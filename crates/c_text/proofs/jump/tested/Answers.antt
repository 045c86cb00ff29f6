use Rattle.std.proofs.Common.{Some, None}
use Rattle.c_text.proofs.StatementReads.{test_of_variable, test_of_error, test_of_none}
use Rattle.c_text.proofs.jump.tested.Goals as goal

pub returns-in-None : goal.returns-in-None
returns-in-None c =
    test_of_variable c.args.vars.now c.args.inside.now c.args.first c.args.second None c.requires.named c.requires.plain c.in_default.ensures c.requires.fit c.in-None.ensures

pub returns-in_default-kind_of_error : goal.returns-in_default-kind_of_error
returns-in_default-kind_of_error c =
    test_of_none c.args.vars.now c.in-Some.word.now c.in-Some.error.now c.args.inside.now c.args.first c.args.second c.requires.named c.requires.plain c.in-Some.ensures c.in_default-kind_of_error.ensures

pub returns-in-Some-variable_of : goal.returns-in-Some-variable_of
returns-in-Some-variable_of c =
    test_of_error c.args.vars.now c.in-Some.word.now c.in-Some.error.now c.args.inside.now c.args.first c.args.second c.in-Some-kind_of_error.kind (Some c.in-Some-variable_of.place) c.requires.named c.requires.plain c.in-Some.ensures c.in-Some-kind_of_error.ensures c.requires.fit c.in-Some-variable_of.ensures

pub returns-in-None-variable_of : goal.returns-in-None-variable_of
returns-in-None-variable_of c =
    test_of_error c.args.vars.now c.in-Some.word.now c.in-Some.error.now c.args.inside.now c.args.first c.args.second c.in-Some-kind_of_error.kind None c.requires.named c.requires.plain c.in-Some.ensures c.in-Some-kind_of_error.ensures c.requires.fit c.in-None-variable_of.ensures
