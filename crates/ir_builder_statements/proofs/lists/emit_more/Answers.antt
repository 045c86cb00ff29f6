use Rattle.ir_builder_statements.proofs.Common.{Test, Building, ok_map}
use Rattle.py_typed.specs.Sorts as sort
use Rattle.ir_builder_loops_and_jumps.specs.Around.{Splits}
use Rattle.ir_builder_statements.specs.Counting.{FindsLess, FindsNext}
use Rattle.ir_builder_statements.proofs.ListLemmas.{next_found}
use Rattle.ir_builder_statements.proofs.lists.emit_more.Goals as goal

pub returns-clause-splits : goal.returns-clause-splits
returns-clause-splits c =
    let q = c.args.index in
    let l = c.args.list in
    let count = c.in_ok-count.count in
    let b0 : Building = c.args.b.now in
    let b1 : Building = c.emit_operation.new.b in
    let b2 : Building = c.emit_less.new.b in
    let by : (t : Test) → Splits (FindsLess sort.Int q.0 count.0 b1) b2 t → Splits (FindsNext q.0 l.0 b0) b2 t = λ t s. record {
      middle = s.middle;
      answered = next_found b0 b1 s.middle q l count t.condition.0 c.requires.index c.in_ok-count.ensures.made s.answered;
      block = s.block;
      closes = s.closes;
      start = s.start;
    } in
    ok_map _ _ _ by c.emit_less.ensures.splits
