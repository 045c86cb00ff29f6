use Rattle.refcount_insert_counts.proofs.Rows.{pack_steals}
use Rattle.refcount_insert_counts.proofs.operands.steals_part.Goals as goal

pub returns-in-Pack : goal.returns-in-Pack
returns-in-Pack c = rw c.in-Pack.is (pack_steals c.args.place)
