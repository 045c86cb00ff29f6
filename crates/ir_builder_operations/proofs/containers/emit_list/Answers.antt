use Rattle.ir_builder_operations.proofs.Common.{ap, ◌∙◌, subst, List, Reg, take, extends_trans, type_kept}
use Rattle.std.proofs.Common.{add-one, take_all}
use Rattle.std.proofs.Math.Seq.{take-suc}
use Rattle.ir_core.specs.declared.code.RType.TheVariants.{Ref}
use Rattle.ir_builder_operations.proofs.ContainerLemmas.{Fills, none_filled, next_filled, list_attempts, object_type}
use Rattle.ir_builder_operations.proofs.containers.emit_list.Goals as goal

pub loop-item-init : goal.loop-item-init
loop-item-init c = record { kept = c.in_ok-list.ensures.kept; fills = none_filled c.in_ok-list.list c.emit_operation.new.b; lined = c.in_ok-list.ensures.lined }

pub push_item-requires-clause-item : goal.push_item-requires-clause-item
push_item-requires-clause-item c = type_kept c.args.b.now c.loop-item.b _ Ref c.loop-item.invariant.kept (object_type c.args.b.now.regs c.args.items.now c.loop-item.item-index _ c.requires.items c.loop-item-test.true)

pub loop-item-preserved : goal.loop-item-preserved
loop-item-preserved c =
    let w = c.in_ok-push_item.ensures in
    record {
      kept = extends_trans _ _ _ c.loop-item.invariant.kept w.kept;
      fills = next_filled c.in_ok-list.list _ _ _ _ _ _ (ap (λ n. take n c.args.items.now) (add-one c.loop-item.item-index) ∙ take-suc c.args.items.now c.loop-item.item-index _ c.loop-item-test.true) (type_kept _ _ _ Ref c.loop-item.invariant.fills.extends c.in_ok-list.ensures.made.type) (type_kept c.args.b.now c.loop-item.b _ Ref c.loop-item.invariant.kept (object_type c.args.b.now.regs c.args.items.now c.loop-item.item-index _ c.requires.items c.loop-item-test.true)) c.loop-item.invariant.fills w.pushed;
      lined = λ k i x other at. c.loop-item.invariant.lined k i x other (w.lined k i x other at);
    }

pub returns-clause-made : goal.returns-clause-made
returns-clause-made c =
    let P : List Reg → Type 0 = λ rs. Fills c.in_ok-list.list rs c.emit_operation.new.b c.loop-item.b in
    list_attempts c.args.b.now c.emit_operation.new.b c.loop-item.b c.in_ok-list.list c.args.items.now c.requires.items c.in_ok-list.ensures.made (subst P (take_all c.loop-item.item-index c.args.items.now c.loop-item-test.false) c.loop-item.invariant.fills)
