use Rattle.ir_builder_statements.proofs.Common.{on_ok_map}
use Rattle.ir_builder_statements.proofs.CountLemmas.{adds, next_counts}
use Rattle.ir_builder_statements.proofs.counting.emit_next.Goals as goal

pub returns-clause-counts : goal.returns-clause-counts
returns-clause-counts c =
    let n = c.args.counter.native in
    let q = c.args.counter.reg in
    let one = c.in_ok-one.one in
    on_ok_map _ _ _ (λ move. next_counts n _ _ _ _ q one c.in_ok-sum.sum c.requires.counter c.in_ok-one.ensures.made (adds n c.adding-op.result _ q one _ c.in_ok-sum.sum.0 c.adding-op.ensures c.in_ok-sum.ensures.made) move) c.push.ensures.pushed
