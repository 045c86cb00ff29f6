use Rattle.ir_core.specs.Runs.{MeansSame, Calm}
use Rattle.ir_core.specs.Shape.{Shape}
use Rattle.unset_tests.specs.Same.{RunsSame}
use Rattle.unset_tests.specs.Cleared.{IsProgramCleared}
use Rattle.unset_tests.proofs.Values.{if_ok}
use Rattle.unset_tests.proofs.Whole.{runs, means, calm, shaped}
use Rattle.unset_tests.proofs.without_sure_tests.Goals as goal

pub returns-clause-runs : goal.returns-clause-runs
returns-clause-runs c =
    let p = c.args.p in
    if_ok c.program_cleared.result (IsProgramCleared p) (RunsSame p) (λ q h. runs p q h) c.program_cleared.ensures

pub returns-clause-kept : goal.returns-clause-kept
returns-clause-kept c =
    let p = c.args.p in
    if_ok c.program_cleared.result (IsProgramCleared p) (MeansSame p) (λ q h. means p q h) c.program_cleared.ensures

pub returns-clause-calm : goal.returns-clause-calm
returns-clause-calm c =
    let p = c.args.p in
    if_ok c.program_cleared.result (IsProgramCleared p) (λ q. Calm p → Calm q) (λ q h. calm p q h) c.program_cleared.ensures

pub returns-clause-shaped : goal.returns-clause-shaped
returns-clause-shaped c =
    let p = c.args.p in
    if_ok c.program_cleared.result (IsProgramCleared p) Shape (λ q h. shaped p q h c.requires.shape) c.program_cleared.ensures
