use Rattle.std.proofs.Common.{◌∙◌, sym}
use Rattle.std.proofs.lemmas.Bool.{false≢true}
use Rattle.c_text.proofs.StatementReads.{no_error}
use Rattle.c_text.proofs.jump.kind_of_error.Goals as goal

pub returns-else-is-4 : goal.returns-else-is-4
returns-else-is-4 c =
    no_error c.args.text.now (λ e. false≢true (sym c.if-is.false ∙ c.is.ensures.1 e)) (λ e. false≢true (sym c.if-is-2.false ∙ c.is-else-is.ensures.1 e)) (λ e. false≢true (sym c.if-is-3.false ∙ c.is-else-is-2.ensures.1 e)) (λ e. false≢true (sym c.if-is-4.false ∙ c.is-else-is-3.ensures.1 e))
