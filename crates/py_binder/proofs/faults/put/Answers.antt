use Rattle.std.proofs.Common.{rules, ◌≡◌}
use Rattle.py_binder.proofs.TableLemmas.{put_says}
use Rattle.py_binder.proofs.faults.put.Goals as goal

pub returns : goal.returns
returns c =
    let copied : c.in_ok-clone.field-0 ≡ c.args.name.now = search rules in
    put_says _ _ _ _ copied c.in_ok-insert.ensures.keys
