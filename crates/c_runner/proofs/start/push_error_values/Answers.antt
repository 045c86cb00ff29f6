use Rattle.std.proofs.Common.{◌∙◌, arith}
use Rattle.std.proofs.lemmas.Grind.{common_steps}
use Rattle.c_runner.proofs.OwnLemmas.{error_plain, plain_more}
use Rattle.c_runner.proofs.start.push_error_values.Goals as goal

pub loop-var-preserved : goal.loop-var-preserved
loop-var-preserved c = record {
  words = grind (arith, common_steps);
  plain = plain_more c.loop-var.words _ c.error_of.result c.in_ok-push.ensures.ok (error_plain _ c.error_of.result c.error_of.ensures) ∙ c.loop-var.invariant.plain;
}
