use Rattle.ir_builder_statements.proofs.Common.{◌∙◌, sym, ap, Some, maybe_typed, Surrounding, setting_of, around_by}
use Rattle.ir_builder_statements.proofs.BodyLemmas.{return_code}
use Rattle.ir_builder_statements.proofs.LinedLemmas.{pieces_then}
use Rattle.ir_builder_statements.proofs.simple.emit_return.Goals as goal

pub close-requires : goal.close-requires
close-requires c = record { fits = (tt, c.in_ok-r.ensures.computes.type ∙ ap Some (sym (ap (λ (g : Surrounding). g.ret) c.in_ok-r.ensures.kept.among ∙ c.requires.result))) }

pub returns-clause-works : goal.returns-clause-works
returns-clause-works c =
    return_code (setting_of c.args.site) (maybe_typed c.args.value.now) _ _ _ c.in_ok-r.r c.requires.alone c.requires.room c.in_ok-r.ensures.computes c.in_ok-close.ensures.closed

pub returns-clause-lined : goal.returns-clause-lined
returns-clause-lined c = pieces_then c.in_ok-r.ensures.lined (around_by c.args.site.line _ _ c.in_ok-close.ensures.kept (c.in_ok-close.ensures.lined c.args.site.line tt))
