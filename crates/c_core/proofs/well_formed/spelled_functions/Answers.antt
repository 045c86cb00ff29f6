use Rattle.std.proofs.Common.{◌<◌, ◌+◌, length, arith}
use Rattle.c_core.proofs.LineLemmas.{function_more}
use Rattle.c_core.proofs.well_formed.spelled_functions.Goals as goal

pub loop-i-preserved : goal.loop-i-preserved
loop-i-preserved c =
    let within : c.loop-i.i + 1 < length c.args.functions.now = omega arith in
    function_more c.args.functions.now c.loop-i.i c.index-functions-i.result c.index-functions-i.is c.loop-i.invariant c.spelled_function.result within c.spelled_function.ensures c.if-not-spelled_function.false
