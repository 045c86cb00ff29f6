use Rattle.std.proofs.Common.{◌≡◌, ◌∙◌, ap, sym, subst, Some, map, length, arith}
use Rattle.py_typed.specs.Classes.{class_entry}
use Rattle.py_typed.specs.Order.{method_of}
use Rattle.class_layout_members.specs.Names.{method_names}
use Rattle.class_layout.specs.Layouts.{row_in}
use Rattle.class_layout.proofs.OrderLemmas.{as_many, next_each}
use Rattle.class_layout.proofs.layouts.function_tables.Goals as goal

pub loop-preserved : goal.loop-preserved
loop-preserved c =
    let classes = map class_entry c.args.classes.now in
    let long = c.loop.invariant.long in
    let made = subst (λ k. map Some c.in_ok-next.next ≡ map (method_of (map class_entry c.args.classes.now) k) (method_names (map class_entry c.args.classes.now) k)) (ap length c.as_slice.ensures ∙ sym long) c.in_ok-next.ensures in
    let all =
    next_each (λ o. map Some (row_in o)) (λ k. map (method_of (map class_entry c.args.classes.now) k) (method_names (map class_entry c.args.classes.now) k)) c.loop.functions c.push.new.self c.in_ok-next.next c.loop.counter c.in_ok-push.ensures.ok
    long
    c.loop.invariant.each
    made in
    record { long = all.0; each = all.1 }

pub returns : goal.returns
returns c =
    let infos = c.args.classes.now in
    let many = as_many infos in
    let all = c.requires.orders.long in
    let long = c.loop.invariant.long in
    let past = c.loop-test.false in
    λ b less. c.loop.invariant.each b (omega (arith, less, long, past, all, many))
