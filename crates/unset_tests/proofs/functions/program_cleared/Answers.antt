use Rattle.std.proofs.Common.{sym, subst, ap, ◌∙◌, ◌++◌, ◌∷◌, [], append_assoc}
use Rattle.unset_tests.specs.Alike.{AreEach}
use Rattle.unset_tests.specs.Cleared.{IsCleared}
use Rattle.unset_tests.proofs.Each.{each_more}
use Rattle.unset_tests.proofs.functions.program_cleared.Goals as goal

pub loop-func-preserved : goal.loop-func-preserved
loop-func-preserved c = record {
  can_next = tt;
  is_finite = tt;
  each = subst (AreEach IsCleared _) (sym c.in_ok-push.ensures.items) (each_more IsCleared c.loop-func.yielded c.loop-func.done.items c.in-Some.func c.in_ok-cleared.cleared c.loop-func.invariant.each c.in_ok-cleared.ensures);
  left = append_assoc c.loop-func.yielded (c.in-Some.func ∷ []) c.next.new.self.rest.items ∙ ap (λ l. c.loop-func.yielded ++ l) (sym c.in-Some.ensures.steps.0) ∙ c.loop-func.invariant.left;
}
