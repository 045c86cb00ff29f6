use Rattle.ir_builder_expressions.proofs.Common.{sort}
use Rattle.ir_builder_operations.proofs.ConversionLemmas.{plain_left}
use Rattle.ir_builder_expressions.proofs.TestedLemmas.{plain_testable}
use Rattle.ir_builder_expressions.proofs.truths.emit_truth_of.Goals as goal

pub emit_plain_truth-requires : goal.emit_plain_truth-requires
emit_plain_truth-requires c = record { plain = plain_testable (sort c.args.t.now) (plain_left c.args.t.now c.in_default.not-Optional) c.requires.testable; value = c.requires.value }
