use Rattle.std.proofs.Common.{◌∙◌, ◌++◌, ap}
use Rattle.std.specs.Prelude.{replicate}
use Rattle.refcount_insert_rule.specs.Counted.{counts_register}
use Rattle.refcount_insert_counts.specs.Known.{owned_at}
use Rattle.refcount_insert_counts.proofs.Times.{returned_is}
use Rattle.refcount_insert_counts.proofs.edges.return_counts.Goals as goal

pub returns : goal.returns
returns c = (
  returned_is (counts_register c.args.regs.now) (owned_at c.args.known.now c.args.regs.now c.args.b c.args.p) c.args.x.0 c.return_short.result c.from_vec.result c.return_short.ensures (c.from_vec.ensures ∙ c.in_ok-push_ups.ensures ∙ ap (λ z. z ++ replicate c.return_short.result c.args.x.0) c.new-ups.ensures.items),
  c.new.ensures,
)
