use Rattle.c_runner_objects.proofs.items.list_deed.Goals as goal

pub returns-in_ok-deed-in-GetItemBorrow-clause-ours : goal.returns-in_ok-deed-in-GetItemBorrow-clause-ours
returns-in_ok-deed-in-GetItemBorrow-clause-ours c = c.lent.ensures.ours c.args.state.now.cells c.in_ok-deed-in-GetItemBorrow.ensures.ours
