use Rattle.std.proofs.Common.{pos, ◌≤ℤ◌, arith}
use Rattle.std.proofs.lemmas.Int.{ints, to_z-of_z}
use Rattle.value_core.proofs.ShiftLemmas.{shl_within}
use Rattle.value_core.proofs.int64.i64_shl.Goals as goal

pub returns-in-0-to-63 : goal.returns-in-0-to-63
returns-in-0-to-63 c =
    let low : pos 0 ≤ℤ c.args.n = grind (arith, ints, to_z-of_z) in
    let high : c.args.n ≤ℤ pos 63 = grind (arith, ints, to_z-of_z) in
    shl_within c.args.a c.args.n c.ranges.a c.ranges.n low high
