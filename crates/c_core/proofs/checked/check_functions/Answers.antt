use Rattle.std.proofs.Common.{◌<◌, length, arith}
use Rattle.c_core.specs.WellFormed.{function_fits}
use Rattle.c_core.proofs.LineLemmas.{all_stop, all_more}
use Rattle.c_core.proofs.checked.check_functions.Goals as goal

pub returns-then-not-branch : goal.returns-then-not-branch
returns-then-not-branch c =
    let within : c.loop-function.function-index < length c.args.functions.now = omega arith in
    all_stop (function_fits c.args.code.now) c.args.functions.now c.loop-function.function-index c.function-item.result c.in_ok-check_function.field-0 within c.function-item.is c.in_ok-check_function.ensures c.loop-function.invariant c.if-not-branch.true

pub loop-function-preserved : goal.loop-function-preserved
loop-function-preserved c =
    let within : c.loop-function.function-index < length c.args.functions.now = omega arith in
    all_more (function_fits c.args.code.now) c.args.functions.now c.loop-function.function-index c.function-item.result c.in_ok-check_function.field-0 within c.function-item.is c.in_ok-check_function.ensures c.loop-function.invariant c.if-not-branch.false
