use Rattle.std.proofs.Common.{◌∙◌, ◌≤◌, ◌<◌, ◌-◌, ◌/◌, arith}
use Rattle.value_core.proofs.ShiftLemmas.{doubled_past, doubled_whole}
use Rattle.value_core.proofs.int.doubled.Goals as goal

pub returns-in_default : goal.returns-in_default
returns-in_default c =
    let half : c.args.n / 2 ≤ c.args.n = omega (arith, c.requires) in
    let small : c.args.n / 2 < 127 = omega (arith, c.requires) in
    doubled_past c.args.a c.power_of_two.result c.args.n (c.args.n / 2) c.ranges.a half small c.power_of_two.ensures c.in_default.ensures

pub returns : goal.returns
returns c =
    let half : c.args.n / 2 ≤ c.args.n = omega (arith, c.requires) in
    let small : c.args.n / 2 < 127 = omega (arith, c.requires) in
    let small2 : c.args.n - c.args.n / 2 < 127 = omega (arith, c.requires) in
    c.ok_or.ensures.value
    ∙ doubled_whole c.args.a c.power_of_two.result c.power_of_two-2.result c.in-Some.first c.args.n (c.args.n / 2) c.checked_mul-2.result c.ranges.a half small small2 c.power_of_two.ensures c.power_of_two-2.ensures c.in-Some.ensures.0 c.in-Some.ensures.1 c.checked_mul-2.ensures
