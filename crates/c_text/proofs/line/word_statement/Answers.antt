use Rattle.std.proofs.Common.{None, sym, ◌∙◌}
use Rattle.std.proofs.lemmas.Bool.{false≢true}
use Rattle.c_text.proofs.StatementReads.{turn_reads, count_reads, call_reads}
use Rattle.c_text.proofs.line.word_statement.Goals as goal

pub returns-then-is : goal.returns-then-is
returns-then-is c =
    turn_reads c.args.vars.now c.args.word.now c.args.inside.now c.requires.begins.0 c.requires.plain c.requires.begins.1 (c.is.ensures.0 c.if-is.true)

pub returns-in_default : goal.returns-in_default
returns-in_default c =
    call_reads c.args.vars.now c.args.word.now c.args.inside.now c.requires.begins.0 c.call_of.result c.requires.plain c.requires.begins.1 (λ e. false≢true (sym c.if-is.false ∙ c.is.ensures.1 e)) c.in_default.ensures c.call_of.ensures.spelled c.call_of.ensures.finds

pub returns-in-None : goal.returns-in-None
returns-in-None c =
    count_reads c.args.vars.now c.args.word.now c.args.inside.now c.requires.begins.0 c.in-Some.count c.in-Some.kind None c.requires.plain c.requires.begins.1 c.in-Some.ensures.0 c.in-Some.ensures.1 c.in-None.ensures
