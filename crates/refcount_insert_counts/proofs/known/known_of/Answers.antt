use Rattle.ir_core.proofs.BareLemmas.{bare_is_bare}
use Rattle.refcount_insert_counts.proofs.known.known_of.Goals as goal

pub returns : goal.returns
returns c =
    record { calm = bare_is_bare c.args.f.now; live = c.in_ok-live.ensures.exact; starts = c.in_ok-live.ensures.starts; lent = c.in_ok-lent.ensures }
