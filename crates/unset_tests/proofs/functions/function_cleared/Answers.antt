use Rattle.unset_tests.specs.Emptied.{IsEmptied}
use Rattle.unset_tests.specs.Cleared.{IsCleared}
use Rattle.unset_tests.proofs.Values.{if_ok}
use Rattle.unset_tests.proofs.functions.function_cleared.Goals as goal

pub returns : goal.returns
returns c =
    if_ok c.emptied.result (IsEmptied c.in_ok-tested.tested) (IsCleared c.args.f) (λ g h. record { between = c.in_ok-tested.tested; tests = c.in_ok-tested.ensures; emptied = h }) c.emptied.ensures
