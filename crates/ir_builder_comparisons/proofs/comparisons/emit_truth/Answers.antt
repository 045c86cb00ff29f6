use Rattle.ir_builder_comparisons.proofs.Common.{sym, ◌∙◌, subst, sort, Reg, rtype_of, HasType, ok_map}
use Rattle.ir_builder_comparisons.proofs.TruthLemmas.{compared_type, truth_at, bool_stays}
use Rattle.ir_builder_comparisons.proofs.comparisons.emit_truth.Goals as goal

pub emit_compared_truth-requires : goal.emit_compared_truth-requires
emit_compared_truth-requires c = subst (λ u. HasType c.args.b.now c.args.x.0 (rtype_of u)) (compared_type (sort c.args.t.now) c.in-Some.compared (sym c.compared_by.ensures ∙ c.in-Some.is)) c.requires.value

pub returns-in-Some-clause-found : goal.returns-in-Some-clause-found
returns-in-Some-clause-found c = ok_map _ _ _ (λ (r : Reg) a. truth_at (sort c.args.t.now) c.in-Some.compared _ _ r.0 _ (sym c.compared_by.ensures ∙ c.in-Some.is) a) c.emit_compared_truth.ensures.found

pub returns-in-None-clause-found : goal.returns-in-None-clause-found
returns-in-None-clause-found c = bool_stays (sort c.args.t.now) _ _ c.requires.written (sym c.compared_by.ensures ∙ c.in-None.is) c.requires.value
