use Rattle.std.proofs.Common.{◌≡◌, ◌∙◌, true, false, sym}
use Rattle.liveness.proofs.ExposedLemmas.{below_fresh}
use Rattle.liveness.proofs.SpreadLemmas.{spread_exact}
use Rattle.liveness.proofs.borrow_table.owned_row.Goals as goal

pub flood-requires-clause-waits : goal.flood-requires-clause-waits
flood-requires-clause-waits c b t e to =
    let clash : false ≡ true = sym (below_fresh c.args.r c.args.rows.now c.requires.below b) ∙ e in absurd (cc)

pub returns-clause-spreads : goal.returns-clause-spreads
returns-clause-spreads c t told lt =
    spread_exact c.args.known.now c.args.edges.now c.args.r c.args.writers.now c.in_ok-work.work.items c.in_ok-work.ensures c.args.rows.now c.flood.new.rows (below_fresh c.args.r c.args.rows.now c.requires.below) c.in_ok-flood.ensures.comes t lt
