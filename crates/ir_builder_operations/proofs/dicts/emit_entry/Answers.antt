use Rattle.ir_builder_frames.proofs.HeldLemmas.{on_ok_map}
use Rattle.ir_builder_operations.proofs.EntryLemmas.{entry_alters, three_put}
use Rattle.ir_builder_operations.proofs.dicts.emit_entry.Goals as goal

pub returns-clause-put : goal.returns-clause-put
returns-clause-put c =
    let is = three_put _ _ _ _ _ _ _ c.new-args.ensures c.in_ok-push.ensures.ok c.in_ok-push-2.ensures.ok c.in_ok-push-3.ensures.ok in
    on_ok_map _ _ _ (entry_alters _ _ c.args.dict c.args.key c.args.value _ is c.requires.dict c.requires.key c.requires.value) c.push-4.ensures.pushed
