use Rattle.std.proofs.Common.{◌≡◌, ◌&&◌, ◌++◌, ◌+◌, List, map, drop, sym, ap, ◌∙◌, subst}
use Rattle.std.specs.Option.{option_map}
use Rattle.py_typed.specs.Classes.{class_entry}
use Rattle.py_check_messages.specs.Seen.{Message}
use Rattle.py_check_coercions.specs.Boxes.{boxed}
use Rattle.py_check_operators.specs.Chains.{asked_pair, pairs_faults}
use Rattle.py_check_operators.specs.Operands.{maybe_pair}
use Rattle.py_check_operators.proofs.ChainLemmas.{Stays, stays_step, pair_step}
use Rattle.py_check_operators.proofs.chains.pairs_hold.Goals as goal
use Rattle.py_check_operators.proofs.chains.pairs_hold.Goals.{then-right, else-right}

pub loop-op-preserved : goal.loop-op-preserved
loop-op-preserved c =
    let classes = map class_entry c.args.classes.now.list in
    let p = c.loop-op-item.result in
    let i = c.loop-op.op-index in
    let a = option_map boxed c.loop-op.left.now in
    let whole = pairs_faults classes (option_map boxed c.args.first.now) (map maybe_pair c.args.more.now) in
    let here = asked_pair classes a p.0 (option_map boxed p.1) in
    let rest = pairs_faults classes (option_map boxed p.1) (map maybe_pair (drop (i + 1) c.args.more.now)) in
    let joined : c.if-right.right ≡ (c.loop-op.right && c.in_ok-holds.holds) = elim c.if-right.branch [
      | then-right w ↦ w.right-is ∙ ap (λ b. b && c.in_ok-holds.holds) (sym w.if-right.true)
      | else-right w ↦ w.right-is ∙ w.if-right.false ∙ ap (λ b. b && c.in_ok-holds.holds) (sym w.if-right.false)
    ] in
    let P : List Message → Type 0 = λ l. Stays c.loop-op.right c.args.faults.now c.loop-op.faults c.args.span whole l in
    let now : Stays c.loop-op.right c.args.faults.now c.loop-op.faults c.args.span whole (here ++ rest) = subst P (pair_step classes a c.args.more.now i p c.loop-op-test.true c.loop-op-item.is) c.loop-op.invariant in
    stays_step c.loop-op.right c.in_ok-holds.holds c.if-right.right c.args.faults.now c.loop-op.faults c.asked_pair.new.faults c.args.span whole here rest joined now c.in_ok-holds.ensures
