use Rattle.std.proofs.Common.{◌∙◌}
use Rattle.c_runner_table.proofs.naming.class_number.Goals as goal

pub returns : goal.returns
returns c = λ code known. c.copied.ensures ∙ c.get.ensures.value ∙ known c.args.name.now
