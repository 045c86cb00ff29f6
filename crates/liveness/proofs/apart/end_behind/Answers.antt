use Rattle.std.proofs.Common.{sym, ◌+◌}
use Rattle.ir_core.proofs.MissingLemmas.{ahead_more, ahead_end}
use Rattle.liveness.proofs.apart.end_behind.Goals as goal

pub returns-then-i-ops : goal.returns-then-i-ops
returns-then-i-ops c = sym (ahead_more c.args.ops.now (c.args.i + 1) c.args.last c.if-i-ops.true)

pub returns-else-i-ops : goal.returns-else-i-ops
returns-else-i-ops c = sym (ahead_end c.args.ops.now (c.args.i + 1) c.args.last c.if-i-ops.false)
