use Rattle.std.proofs.Common.{refl}
use Rattle.ir_core.specs.Lower.{lower}
use Rattle.refcount_insert.proofs.Following.{counted_follows, counted_means, counted_fit}
use Rattle.refcount_insert.proofs.functions.with_counts.Goals as goal

pub returns-clause-follows : goal.returns-clause-follows
returns-clause-follows c = λ fit.
    counted_follows c.args.e.now.program c.in_ok-counted.counted (lower c.in_ok-counted.counted) c.requires fit c.in_ok-counted.ensures refl

pub returns-clause-means : goal.returns-clause-means
returns-clause-means c = λ fit.
    counted_means c.args.e.now.program c.in_ok-counted.counted c.requires fit c.in_ok-counted.ensures

pub returns-clause-fits : goal.returns-clause-fits
returns-clause-fits c = λ fit.
    counted_fit c.args.e.now.program c.in_ok-counted.counted c.requires fit c.in_ok-counted.ensures
