-- What a table keeps of a function: what its operations read, write and lend to, and its ends.
use Rattle.std.specs.Prelude.{ℕ, map}
use Rattle.ir_core.specs.declared.code.Op.{Op}
use Rattle.ir_core.specs.declared.code.Block.{Block}
use Rattle.liveness.specs.declared.step.Step.{Step}
use Rattle.liveness.specs.declared.step.Steps.{Steps}
use Rattle.liveness.specs.Paths.{reads_of, write_of, lends_to}

abbrev pub step_over : Op → Step
step_over o = record { reads = reads_of o; write = write_of o; lends = lends_to o }

abbrev pub step_of : Op × ℕ → Step
step_of o = step_over o.0

abbrev pub steps_of : Block → Steps
steps_of b = record { steps = map step_of b.ops; last = b.last }
