use Rattle.std.proofs.Common.{rules, ◌≡◌, ◌++◌}
use Rattle.py_syntax.specs.Expressions.{expr_tree}
use Rattle.py_binder.specs.Sights.{reads}
use Rattle.py_binder.specs.Collected.{sights_of}
use Rattle.py_binder.proofs.ReadLemmas.{compare_end}
use Rattle.py_binder.proofs.reads.+read.Goals as goal

pub read-returns-after-operands : goal.read-returns-after-operands
read-returns-after-operands t c =
    let first : sights_of c.read-in-Compare.new.sights.items ≡ sights_of c.args.sights.now.items ++ reads c.args.manner (expr_tree c.in-Compare.a.value) = search (rules, c.in_ok-read-in-Compare.ensures) in
    compare_end c.args.manner c.args.e.now c.in-Compare.a c.as_slice-more.result.now (rw c.as_slice-more.ensures c.in-Compare.is) c.operands.b-index c.operands-test.false _ _ _ first c.operands.invariant
