use Rattle.std.proofs.Common.{◌∙◌}
use Rattle.refcount_insert.proofs.DetourSteps.{front_closed}
use Rattle.refcount_insert.proofs.detours.front_of.Goals as goal

pub returns : goal.returns
returns c =
    front_closed c.args.all.now c.new-detours.result.items c.ways.new.detours.items c.from_vec.result c.in_ok-entries.entries.items c.from_vec-2.result c.new-detours.ensures.items (c.from_vec.ensures ∙ c.reverse.ensures.items) c.from_vec-2.ensures c.in_ok-entries.ensures.ways c.in_ok-entries.ensures.size
