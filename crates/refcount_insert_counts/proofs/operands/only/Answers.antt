use Rattle.std.proofs.Common.{◌∙◌, ◌++◌, ◌∷◌, [], sym, ap, subst}
use Rattle.std.specs.Prelude.{nat_eq}
use Rattle.liveness.specs.Paths.{is_target}
use Rattle.refcount_insert_counts.specs.Counts.{AreOnce}
use Rattle.refcount_insert_counts.proofs.Times.{once_one}
use Rattle.refcount_insert_counts.proofs.operands.only.Goals as goal

pub returns-in_ok-push-in-Some : goal.returns-in_ok-push-in-Some
returns-in_ok-push-in-Some c =
    subst (λ t. AreOnce (is_target t) c.push.new.self.items) (sym c.in-Some.is) (subst (AreOnce (nat_eq c.in-Some.r)) (sym (c.in_ok-push-in-Some.ensures.items ∙ ap (λ z. z ++ c.in-Some.r ∷ []) c.new-all.ensures.items)) (once_one c.in-Some.r))
