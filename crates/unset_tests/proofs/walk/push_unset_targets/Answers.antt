use Rattle.std.proofs.Common.{◌≡◌, ◌++◌, subst, OnOk}
use Rattle.unset_tests.proofs.Walking.{other_targets}
use Rattle.unset_tests.proofs.walk.push_unset_targets.Goals as goal

pub returns-in_default : goal.returns-in_default
returns-in_default c =
    subst (λ z. OnOk c.push_targets.result (c.push_targets.new.work.items ≡ c.args.work.now.items ++ z)) (other_targets c.args.r c.args.last c.in_default.not-IfError) c.push_targets.ensures
