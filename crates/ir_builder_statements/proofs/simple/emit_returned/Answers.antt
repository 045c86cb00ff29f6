use Rattle.ir_builder_statements.proofs.Common.{Reg, ok_map, setting_of, always, around_by, ok_lined}
use Rattle.ir_builder_statements.proofs.BodyLemmas.{none_returned, value_returned}
use Rattle.ir_builder_statements.proofs.LinedLemmas.{none_lined, some_lined}
use Rattle.ir_builder_statements.proofs.simple.emit_returned.Goals as goal

pub returns-in-Some-clause-computes : goal.returns-in-Some-clause-computes
returns-in-Some-clause-computes c =
    ok_map _ _ _ (λ (r : Reg) q. value_returned (setting_of c.args.site) _ c.in-Some.e _ _ r c.in-Some.is q) c.emit_expression.ensures.emitted

pub returns-in-None-clause-computes : goal.returns-in-None-clause-computes
returns-in-None-clause-computes c =
    ok_map _ _ _ (λ (r : Reg) a. none_returned (setting_of c.args.site) _ _ _ r c.in-None.is a) c.literal.ensures.added

pub returns-in-Some-clause-lined : goal.returns-in-Some-clause-lined
returns-in-Some-clause-lined c =
    ok_lined _ _ _ _ (λ (r : Reg) q z. some_lined (setting_of c.args.site) c.args.site.line c.args.value.now c.in-Some.e _ _ r.0 c.in-Some.is q z) c.emit_expression.ensures.emitted c.emit_expression.ensures.lined

pub returns-in-None-clause-lined : goal.returns-in-None-clause-lined
returns-in-None-clause-lined c =
    always _ _ (none_lined (setting_of c.args.site) c.args.site.line c.args.value.now _ _ c.in-None.is (around_by c.args.site.line _ _ c.literal.ensures.kept c.literal.ensures.lined))
