use Rattle.std.proofs.Common.{ℕ, List, Some, None, IfOk, subst}
use Rattle.c_text.specs.Statements.{Reads, assignment_text}
use Rattle.c_text.proofs.StatementReads.{no_call_assigned, variable_assigned, literal_assigned}
use Rattle.c_text.proofs.line.assigned.Goals as goal

pub returns-in-Some-word_and_inside : goal.returns-in-Some-word_and_inside
returns-in-Some-word_and_inside c =
    subst (λ (t : List ℕ). IfOk c.called.result (Reads c.args.vars.now (assignment_text c.args.vars.now c.args.place t))) c.in-Some-word_and_inside.ensures.whole c.called.ensures

pub returns-in-None : goal.returns-in-None
returns-in-None c = no_call_assigned c.args.vars.now c.args.place c.args.value.now c.in-Some.field-0.now c.requires.named c.requires.declared c.in-Some.ensures c.in-None.ensures

pub returns-in-None-variable : goal.returns-in-None-variable
returns-in-None-variable c = variable_assigned c.args.vars.now c.args.place c.args.value.now c.in-Some-behind.field-0.now None c.requires.named c.requires.declared c.in-Some-behind.ensures c.in-None-variable.ensures

pub returns-in-Some-literal : goal.returns-in-Some-literal
returns-in-Some-literal c =
    literal_assigned c.args.vars.now c.args.place c.args.value.now (Some c.in-Some-literal.literal) c.requires.named c.requires.declared c.in_default.ensures c.in_default-behind.ensures c.in-Some-literal.ensures.finds c.in-Some-literal.ensures.spelled

pub returns-in-None-literal : goal.returns-in-None-literal
returns-in-None-literal c =
    literal_assigned c.args.vars.now c.args.place c.args.value.now None c.requires.named c.requires.declared c.in_default.ensures c.in_default-behind.ensures c.in-None-literal.ensures.finds c.in-None-literal.ensures.spelled
