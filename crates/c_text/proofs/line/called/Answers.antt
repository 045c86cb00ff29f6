use Rattle.std.proofs.Common.{sym, ◌∙◌}
use Rattle.std.proofs.lemmas.Bool.{false≢true}
use Rattle.c_text.proofs.StatementReads.{call_assigned, trait_assigned, virtual_assigned}
use Rattle.c_text.proofs.line.called.Goals as goal

pub returns-then-is : goal.returns-then-is
returns-then-is c =
    virtual_assigned c.args.vars.now c.args.place c.args.word.now c.args.inside.now c.requires.begins.0 c.virtual_call.result c.requires.named c.requires.declared c.requires.plain c.requires.begins.1 (c.is.ensures.0 c.if-is.true) c.virtual_call.ensures.spelled c.virtual_call.ensures.finds

pub returns-then-is-2 : goal.returns-then-is-2
returns-then-is-2 c =
    trait_assigned c.args.vars.now c.args.place c.args.word.now c.args.inside.now c.requires.begins.0 c.trait_call.result c.requires.named c.requires.declared c.requires.plain c.requires.begins.1 (c.is-else-is.ensures.0 c.if-is-2.true) c.trait_call.ensures.spelled c.trait_call.ensures.finds

pub returns-else-is-2 : goal.returns-else-is-2
returns-else-is-2 c =
    call_assigned c.args.vars.now c.args.place c.args.word.now c.args.inside.now c.requires.begins.0 c.call_of.result c.requires.named c.requires.declared c.requires.plain c.requires.begins.1 (λ e. false≢true (sym c.if-is.false ∙ c.is.ensures.1 e)) (λ e. false≢true (sym c.if-is-2.false ∙ c.is-else-is.ensures.1 e)) c.call_of.ensures.spelled c.call_of.ensures.finds
