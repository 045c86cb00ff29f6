use Rattle.std.proofs.Common.{◌∙◌, ◌-◌}
use Rattle.c_runner_objects.proofs.ListLemmas.{copied_at}
use Rattle.c_runner.proofs.MethodLemmas.{object_first, others_behind}
use Rattle.c_runner.proofs.methods.variable_at.Goals as goal

pub returns-then-place-eq0 : goal.returns-then-place-eq0
returns-then-place-eq0 c = object_first c.args.object c.args.args.now c.args.place c.if-place-eq0.true

pub returns-else-place-eq0 : goal.returns-else-place-eq0
returns-else-place-eq0 c = c.copied.ensures ∙ copied_at c.args.args.now (c.args.place - 1) c.get.result c.get.ensures.lookup.0 c.get.ensures.lookup.1 ∙ others_behind c.args.object c.args.args.now c.args.place c.if-place-eq0.false
