use Rattle.refcount_insert.proofs.Following.{counted_follows}
use Rattle.refcount_insert.proofs.functions.insert_counts.Goals as goal

pub returns-clause-follows : goal.returns-clause-follows
returns-clause-follows c =
    counted_follows c.args.e.now.program c.in_ok-counted.counted c.in_ok-code.code c.requires.shape c.requires.fits c.in_ok-counted.ensures.counted c.in_ok-code.ensures
