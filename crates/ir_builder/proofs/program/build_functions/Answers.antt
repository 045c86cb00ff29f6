use Rattle.ir_builder.proofs.Common.{typed_module}
use Rattle.ir_builder.proofs.WholeLemmas.{suits_at, built_next}
use Rattle.ir_builder.proofs.program.build_functions.Goals as goal

pub build_function-requires-clause-function : goal.build_function-requires-clause-function
build_function-requires-clause-function c = suits_at c.args.checked.now c.as_slice-functions.result.now c.loop-f.f-index c.f-item.result c.requires c.as_slice-functions.ensures c.loop-f-test.true c.f-item.is

pub loop-f-preserved : goal.loop-f-preserved
loop-f-preserved c = built_next (typed_module c.args.checked.now) c.as_slice-functions.result.now c.loop-f.f-index c.f-item.result c.loop-f.made.items c.push.new.self.items c.in_ok-one.one c.loop-f-test.true c.f-item.is c.loop-f.invariant c.in_ok-one.ensures c.in_ok-push.ensures.items
