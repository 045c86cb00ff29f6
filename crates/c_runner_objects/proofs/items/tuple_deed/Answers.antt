use Rattle.c_runner_objects.proofs.items.tuple_deed.Goals as goal

pub returns-in-GetItemBorrow-clause-ours : goal.returns-in-GetItemBorrow-clause-ours
returns-in-GetItemBorrow-clause-ours c = c.lent.ensures.ours c.args.state.now.cells c.tuple_item_deed-in-GetItemBorrow.ensures.ours
