use Rattle.std.proofs.Common.{◌≡◌, length, arith}
use Rattle.std.proofs.lemmas.Grind.{common_steps}
use Rattle.outside_core.proofs.Fronts.{front_copied}
use Rattle.outside_core.proofs.copy.copy_from.Goals as goal

pub returns-clause-given : goal.returns-clause-given
returns-clause-given c =
    let all : length c.copy_from_slice.new.self ≡ c.min-count.result = grind (arith, common_steps) in
    front_copied c.args.bytes.now _ _ _ _ all c.copy_from_slice.ensures.after
