use Rattle.ir_builder_expressions.proofs.Common.{Reg, ok_map, extends_trans, type_kept, kind_sort}
use Rattle.ir_builder_expressions.proofs.PairLemmas.{left_brought, right_brought, pair_compared}
use Rattle.ir_builder_expressions.proofs.comparing.emit_pair.Goals as goal

pub emit_brought-requires-clause-brought : goal.emit_brought-requires-clause-brought
emit_brought-requires-clause-brought c = left_brought (kind_sort c.args.left.own) (kind_sort c.args.right.own) (kind_sort c.args.left.shown) (kind_sort c.args.right.shown) c.compared_between-to.result c.requires.compared c.requires.left_shown c.requires.right_shown c.compared_between-to.ensures

pub emit_brought-requires-2-clause-brought : goal.emit_brought-requires-2-clause-brought
emit_brought-requires-2-clause-brought c = right_brought (kind_sort c.args.left.own) (kind_sort c.args.right.own) (kind_sort c.args.left.shown) (kind_sort c.args.right.shown) c.compared_between-to.result c.requires.compared c.requires.left_shown c.requires.right_shown c.compared_between-to.ensures

pub emit_brought-requires-2-clause-value : goal.emit_brought-requires-2-clause-value
emit_brought-requires-2-clause-value c = type_kept _ _ _ _ c.in_ok-x.ensures.kept c.requires.right

pub returns-in_err-y-clause-kept : goal.returns-in_err-y-clause-kept
returns-in_err-y-clause-kept c = extends_trans _ _ _ c.in_ok-x.ensures.kept c.in_err-y.ensures.kept

pub returns-clause-made : goal.returns-clause-made
returns-clause-made c = ok_map _ _ _ (λ (r : Reg) a. pair_compared (kind_sort c.args.left.own) (kind_sort c.args.right.own) (kind_sort c.args.left.shown) (kind_sort c.args.right.shown) c.compared_between-to.result c.requires.compared c.requires.left_shown c.requires.right_shown c.compared_between-to.ensures c.args.op _ _ _ _ _ _ _ _ r.0 c.requires.ordering c.requires.left c.requires.right c.in_ok-x.ensures.made c.in_ok-y.ensures.made a) c.emit_comparison.ensures.made

pub returns-clause-kept : goal.returns-clause-kept
returns-clause-kept c = extends_trans _ _ _ c.in_ok-x.ensures.kept (extends_trans _ _ _ c.in_ok-y.ensures.kept c.emit_comparison.ensures.kept)
