use Rattle.std.proofs.Common.{sym, []}
use Rattle.std.proofs.lemmas.List.{get_or_past}
use Rattle.liveness.proofs.live_table.row_of.Goals as goal

pub returns-in-None-clause-numbers : goal.returns-in-None-clause-numbers
returns-in-None-clause-numbers c = sym (get_or_past c.args.rows.now c.args.t [] c.in-None.ensures.lookup.3)
