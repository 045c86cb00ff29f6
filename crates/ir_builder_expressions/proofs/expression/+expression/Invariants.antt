use Rattle.ir_builder_expressions.proofs.Common.{◌+◌, ◌-◌, ◌*◌, drop, setting_of}
use Rattle.ir_builder_expressions.proofs.WeightLemmas.{weight_of, weight_of_arm, weight_of_all, weight_of_chain}
use Rattle.ir_builder_expressions.proofs.ArgumentLemmas.{Passing, Holding}
use Rattle.ir_builder_expressions.proofs.GoingLemmas.{Going}
use Rattle.ir_builder_expressions.proofs.LinedLemmas.{LinedRest, listed_of, operands_of_all}
use Rattle.ir_builder_expressions.proofs.expression.+expression.Given as goal

abbrev pub decreases-emit_expression : goal.decreases-emit_expression
decreases-emit_expression l = weight_of l.e.now * 4

abbrev pub decreases-emit_applied : goal.decreases-emit_applied
decreases-emit_applied l = weight_of l.e.now * 4 - 1

abbrev pub decreases-emit_part : goal.decreases-emit_part
decreases-emit_part l = weight_of l.e.now * 4 + 1

abbrev pub decreases-emit_one_part : goal.decreases-emit_one_part
decreases-emit_one_part l = weight_of l.e.now * 4 + 2

abbrev pub decreases-emit_two_parts : goal.decreases-emit_two_parts
decreases-emit_two_parts l = (weight_of l.left.now + weight_of l.right.now) * 4 + 2

abbrev pub decreases-emit_side : goal.decreases-emit_side
decreases-emit_side l = weight_of l.e.now * 4 + 2

abbrev pub decreases-emit_arguments : goal.decreases-emit_arguments
decreases-emit_arguments l = weight_of_all l.args.now * 4 + 1

abbrev pub decreases-emit_object : goal.decreases-emit_object
decreases-emit_object l = weight_of l.e.now * 4 + 1

abbrev pub decreases-emit_objects : goal.decreases-emit_objects
decreases-emit_objects l = weight_of_all l.items.now * 4 + 2

abbrev pub decreases-emit_choice : goal.decreases-emit_choice
decreases-emit_choice l = (weight_of l.test.now + weight_of_arm l.body + weight_of_arm l.other) * 4 + 2

abbrev pub decreases-emit_arm : goal.decreases-emit_arm
decreases-emit_arm l = weight_of_arm l.arm * 4 + 1

abbrev pub decreases-emit_chain : goal.decreases-emit_chain
decreases-emit_chain l = weight_of_chain l.rest.now * 4 + 3

abbrev pub invariant-emit_arguments-loop-e : goal.invariant-emit_arguments-loop-e
invariant-emit_arguments-loop-e l = record {
  passing : Passing (setting_of l.site) l.args l.e-index l.fn.b l.b l.regs;
  lined : LinedRest (setting_of l.site) l.site.line (listed_of l.args) (listed_of (drop l.e-index l.args)) l.fn.b l.b;
}

abbrev pub invariant-emit_objects-loop-e : goal.invariant-emit_objects-loop-e
invariant-emit_objects-loop-e l = record {
  holding : Holding (setting_of l.site) l.items l.e-index l.fn.b l.b l.regs;
  lined : LinedRest (setting_of l.site) l.site.line (listed_of l.items) (listed_of (drop l.e-index l.items)) l.fn.b l.b;
}

abbrev pub invariant-emit_chain-loop-op : goal.invariant-emit_chain-loop-op
invariant-emit_chain-loop-op l = record {
  going : Going (setting_of l.site) l.fn.first l.rest (drop l.op-index l.more) l.fn.b l.b l.links l.left l.holds;
  lined : LinedRest (setting_of l.site) l.site.line (operands_of_all l.rest) (operands_of_all (drop l.op-index l.more)) l.fn.b l.b;
}
