use Rattle.ir_builder_statements.proofs.CountLemmas.{finds_less}
use Rattle.ir_builder_statements.proofs.counting.emit_less.Goals as goal

pub returns-clause-splits : goal.returns-clause-splits
returns-clause-splits c = record {
  middle = c.emit_operation.new.b;
  answered = finds_less c.args.counter.native c.less-op.result _ c.args.counter.reg c.args.stop _ c.in_ok-condition.condition.0 c.less-op.ensures c.in_ok-condition.ensures.made;
  block = c.in_ok-block.ensures.number;
  closes = c.in_ok-block.ensures.closed;
  start = c.here.ensures.number;
}
