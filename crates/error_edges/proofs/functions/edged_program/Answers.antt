use Rattle.std.proofs.Common.{sym, subst, ap, ◌∙◌, ◌++◌, ◌∷◌, [], append_assoc}
use Rattle.error_edges.specs.Edged.{AreEdged}
use Rattle.error_edges.proofs.FunctionLemmas.{each_more}
use Rattle.error_edges.proofs.functions.edged_program.Goals as goal

pub loop-func-preserved : goal.loop-func-preserved
loop-func-preserved c = record {
  can_next = tt;
  is_finite = tt;
  each = subst (AreEdged _) (sym c.in_ok-push.ensures.items) (each_more c.loop-func.yielded c.loop-func.edged.items c.in-Some.func c.in_ok-with_edges.with_edges c.loop-func.invariant.each c.in_ok-with_edges.ensures);
  left = append_assoc c.loop-func.yielded (c.in-Some.func ∷ []) c.next.new.self.rest.items ∙ ap (λ l. c.loop-func.yielded ++ l) (sym c.in-Some.ensures.steps.0) ∙ c.loop-func.invariant.left;
}
