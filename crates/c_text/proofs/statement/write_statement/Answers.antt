use Rattle.std.proofs.Common.{ap, sym}
use Rattle.c_core.specs.Text.{statement_text}
use Rattle.c_text.proofs.Writing.{same_text}
use Rattle.c_text.proofs.statement.write_statement.Goals as goal

pub returns-in-Move : goal.returns-in-Move
returns-in-Move g c = same_text (ap (statement_text c.args.vars.now) (sym c.in-Move.is)) c.write_move.ensures

pub returns-in-Lit : goal.returns-in-Lit
returns-in-Lit g c = same_text (ap (statement_text c.args.vars.now) (sym c.in-Lit.is)) c.write_assignment.ensures

pub returns-in-Call : goal.returns-in-Call
returns-in-Call g c = same_text (ap (statement_text c.args.vars.now) (sym c.in-Call.is)) c.write_call.ensures

pub returns-in-Virtual : goal.returns-in-Virtual
returns-in-Virtual g c = same_text (ap (statement_text c.args.vars.now) (sym c.in-Virtual.is)) c.write_virtual.ensures

pub returns-in-TraitCall : goal.returns-in-TraitCall
returns-in-TraitCall g c = same_text (ap (statement_text c.args.vars.now) (sym c.in-TraitCall.is)) c.write_trait_call.ensures

pub returns-in-Goto : goal.returns-in-Goto
returns-in-Goto g c = same_text (ap (statement_text c.args.vars.now) (sym c.in-Goto.is)) c.write_jump.ensures

pub returns-in-If : goal.returns-in-If
returns-in-If g c = same_text (ap (statement_text c.args.vars.now) (sym c.in-If.is)) c.write_test.ensures

pub returns-in-IfError : goal.returns-in-IfError
returns-in-IfError g c = same_text (ap (statement_text c.args.vars.now) (sym c.in-IfError.is)) c.write_error_test.ensures

pub returns-in-Turn : goal.returns-in-Turn
returns-in-Turn g c = same_text (ap (statement_text c.args.vars.now) (sym c.in-Turn.is)) c.write_word.ensures

pub returns-in-Return : goal.returns-in-Return
returns-in-Return g c = same_text (ap (statement_text c.args.vars.now) (sym c.in-Return.is)) c.write_return.ensures

pub returns-in-Inc : goal.returns-in-Inc
returns-in-Inc g c = same_text (ap (statement_text c.args.vars.now) (sym c.in-Inc.is)) c.write_count.ensures

pub returns-in-Dec : goal.returns-in-Dec
returns-in-Dec g c = same_text (ap (statement_text c.args.vars.now) (sym c.in-Dec.is)) c.write_count-in-Dec.ensures

pub returns-in-XDec : goal.returns-in-XDec
returns-in-XDec g c = same_text (ap (statement_text c.args.vars.now) (sym c.in-XDec.is)) c.write_count-in-XDec.ensures
