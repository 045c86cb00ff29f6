use Rattle.ir_builder_loops_and_jumps.proofs.Common.{◌<◌, length, arith, rules, get_or, sort, TExpr, Reg, rtype_of, on_ok_map, type_kept, extends_refl, extends_trans}
use Rattle.ir_builder_loops_and_jumps.proofs.PrintLemmas.{none_written, next_written, as_many, item_written, item_type, line_written, item_own}
use Rattle.ir_builder_loops_and_jumps.proofs.printing.emit_print.Goals as goal

pub loop-i-init : goal.loop-i-init
loop-i-init c = record { kept = extends_refl c.args.b.now; writes = none_written c.args.values.now c.args.regs.now c.args.b.now; lined = λ k i x other at. at }

pub bounds-values-i : goal.bounds-values-i
bounds-values-i c =
    let same = as_many c.args.b.now.regs c.args.values.now c.args.regs.now c.requires.types in
    let lt = c.loop-i-test.true in
    omega (arith, same, lt)

pub offset_bounds-values-i : goal.offset_bounds-values-i
offset_bounds-values-i c =
    let same = as_many c.args.b.now.regs c.args.values.now c.args.regs.now c.requires.types in
    let lt : c.loop-i.i < length c.args.values.now = (let k = c.loop-i-test.true in omega (arith, same, k)) in
    search rules

pub emit_item-requires-clause-text : goal.emit_item-requires-clause-text
emit_item-requires-clause-text c =
    let same = as_many c.args.b.now.regs c.args.values.now c.args.regs.now c.requires.types in
    let lt = c.loop-i-test.true in
    let e : TExpr = get_or c.args.values.now c.loop-i.i c.index-values-i.result in
    item_written c.args.values.now c.loop-i.i e c.requires.texts (omega (arith, same, lt)) (item_own c.args.values.now c.loop-i.i c.index-values-i.result (omega (arith, same, lt)))

pub emit_item-requires-clause-value : goal.emit_item-requires-clause-value
emit_item-requires-clause-value c =
    let same = as_many c.args.b.now.regs c.args.values.now c.args.regs.now c.requires.types in
    let lt = c.loop-i-test.true in
    let e : TExpr = get_or c.args.values.now c.loop-i.i c.index-values-i.result in
    let r : Reg = get_or c.args.regs.now c.loop-i.i (record { 0 = 0 }) in
    type_kept c.args.b.now c.loop-i.b r.0 (rtype_of (sort e.ty)) c.loop-i.invariant.kept
    (item_type c.args.b.now.regs c.args.values.now c.args.regs.now c.loop-i.i e r c.requires.types lt (item_own c.args.values.now c.loop-i.i c.index-values-i.result (omega (arith, same, lt))) (item_own c.args.regs.now c.loop-i.i (record { 0 = 0 }) lt))

pub loop-i-preserved : goal.loop-i-preserved
loop-i-preserved c =
    let same = as_many c.args.b.now.regs c.args.values.now c.args.regs.now c.requires.types in
    let lt = c.loop-i-test.true in
    let e : TExpr = get_or c.args.values.now c.loop-i.i c.index-values-i.result in
    let r : Reg = get_or c.args.regs.now c.loop-i.i (record { 0 = 0 }) in
    let w = c.in_ok-emit_item.ensures in
    record {
      kept = extends_trans _ _ _ c.loop-i.invariant.kept w.kept;
      writes = next_written c.args.values.now c.args.regs.now c.loop-i.i e r c.args.b.now _ _ c.requires.types lt (item_own c.args.values.now c.loop-i.i c.index-values-i.result (omega (arith, same, lt))) (item_own c.args.regs.now c.loop-i.i (record { 0 = 0 }) lt) c.loop-i.invariant.writes w.writes;
      lined = λ k i x other at. c.loop-i.invariant.lined k i x other (w.lined k i x other at);
    }

pub returns-clause-writes : goal.returns-clause-writes
returns-clause-writes c = on_ok_map _ _ _ (line_written c.args.values.now c.args.regs.now c.loop-i.i _ _ _ c.loop-i-test.false c.loop-i.invariant.writes) c.emit_literal.ensures.writes
