use Rattle.std.proofs.Common.{List, Option, map, subst}
use Rattle.std.specs.Option.{option_map}
use Rattle.std.specs.declared.boxed.Box.{Box}
use Rattle.std.specs.declared.alloc.Global.{Global}
use Rattle.py_syntax.specs.declared.expression.CmpOp.{CmpOp}
use Rattle.py_typed.specs.declared.expression.TExpr.{TExpr}
use Rattle.py_typed.specs.Classes.{class_entry}
use Rattle.py_check_coercions.specs.Boxes.{boxed, operand_pair}
use Rattle.py_check_coercions.specs.Several.{Says}
use Rattle.py_check_operators.specs.Chains.{pairs_faults}
use Rattle.py_check_operators.specs.Operands.{maybe_pair}
use Rattle.py_check_operators.proofs.ChainLemmas.{chain_says}
use Rattle.py_check_operators.proofs.chains.chain.Goals as goal

pub returns : goal.returns
returns c =
    let classes = map class_entry c.args.classes.now.list in
    let first = option_map boxed c.args.first in
    let P : List (CmpOp × Option (Box TExpr Global)) → Type 0 = λ l. Says c.in_ok-right.right c.args.faults.now c.pairs_hold.new.faults c.args.span (pairs_faults classes first (map maybe_pair l)) in
    chain_says classes c.args.span first (map maybe_pair c.args.more) c.args.said (option_map (map operand_pair) c.in_ok-more.more) c.in_ok-right.right c.chain_typed.result c.args.faults.now c.pairs_hold.new.faults c.put_behind.new.faults
    (subst P c.as_slice.ensures c.in_ok-right.ensures) c.in_ok-put_behind.ensures c.in_ok-more.ensures c.chain_typed.ensures
