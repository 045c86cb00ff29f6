use Rattle.std.proofs.Common.{subst}
use Rattle.liveness.specs.Paths.{is_among}
use Rattle.refcount_insert_counts.specs.Counts.{AreOnce}
use Rattle.refcount_insert_counts.proofs.Times.{rising_once}
use Rattle.refcount_insert_counts.proofs.edges.goto_counts.Goals as goal

pub returns : goal.returns
returns c =
    let row = c.at_start.result.now in
    (row, subst (λ z. AreOnce (is_among z) row) c.at_start.ensures.numbers (rising_once row c.at_start.ensures.rising), c.in_ok-counts.ensures)
