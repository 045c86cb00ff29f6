use Rattle.ir_builder_statements.proofs.Common.{◌<◌, length, rules, extends_trans, setting_of}
use Rattle.ir_builder_statements.proofs.TargetLemmas.{unpacking_none, parts_left, part_takes, unpacking_on, unpacking_over}
use Rattle.ir_builder_statements.proofs.targets.emit_parts.Goals as goal

pub loop-i-init : goal.loop-i-init
loop-i-init c = record { taken = rw c.new-values.ensures (unpacking_none (setting_of c.args.site) c.args.targets.now c.args.parts.now c.args.tuple.0 c.args.b.now c.requires.targets c.requires.tuple); lined = λ k i x other at. at }

pub bounds-parts-i : goal.bounds-parts-i
bounds-parts-i c = parts_left (setting_of c.args.site) c.args.targets.now c.args.parts.now c.loop-i.i c.args.tuple.0 c.args.b.now c.loop-i.b c.loop-i.values c.index-targets-i.result c.loop-i-test.true c.index-targets-i.is c.loop-i.invariant.taken

pub offset_bounds-parts-i : goal.offset_bounds-parts-i
offset_bounds-parts-i c =
    let lt : c.loop-i.i < length c.args.parts.now = parts_left (setting_of c.args.site) c.args.targets.now c.args.parts.now c.loop-i.i c.args.tuple.0 c.args.b.now c.loop-i.b c.loop-i.values c.index-targets-i.result c.loop-i-test.true c.index-targets-i.is c.loop-i.invariant.taken in
    search rules

pub emit_part-requires-clause-target : goal.emit_part-requires-clause-target
emit_part-requires-clause-target c =
    part_takes (setting_of c.args.site) c.args.targets.now c.args.parts.now c.loop-i.i c.args.tuple.0 c.args.b.now c.loop-i.b c.loop-i.values c.index-targets-i.result c.loop-i-test.true c.index-targets-i.is c.loop-i.invariant.taken c.index-parts-i.result c.index-parts-i.is

pub emit_part-requires-clause-tuple : goal.emit_part-requires-clause-tuple
emit_part-requires-clause-tuple c = c.loop-i.invariant.taken.type

pub returns-in_err-value-clause-kept : goal.returns-in_err-value-clause-kept
returns-in_err-value-clause-kept c = extends_trans _ _ _ c.loop-i.invariant.taken.extends c.in_err-value.ensures.kept

pub returns-in_err-push-clause-kept : goal.returns-in_err-push-clause-kept
returns-in_err-push-clause-kept c = extends_trans _ _ _ c.loop-i.invariant.taken.extends c.in_ok-value.ensures.kept

pub loop-i-preserved : goal.loop-i-preserved
loop-i-preserved c = record {
  taken = unpacking_on (setting_of c.args.site) c.args.targets.now c.args.parts.now c.loop-i.i c.args.tuple.0 c.args.b.now c.loop-i.b c.loop-i.values c.index-targets-i.result c.loop-i-test.true c.index-targets-i.is c.loop-i.invariant.taken c.index-parts-i.result c.index-parts-i.is _ c.in_ok-value.value _ c.requires.room c.in_ok-push.ensures.ok c.in_ok-value.ensures.takes;
  lined = λ k i x other at. c.loop-i.invariant.lined k i x other (c.in_ok-value.ensures.lined k i x other at);
}

pub returns-clause-kept : goal.returns-clause-kept
returns-clause-kept c = c.loop-i.invariant.taken.extends

pub returns-clause-unpacks : goal.returns-clause-unpacks
returns-clause-unpacks c = unpacking_over (setting_of c.args.site) c.args.targets.now c.args.parts.now c.loop-i.i c.args.tuple.0 c.args.b.now c.loop-i.b c.loop-i.values c.loop-i-test.false c.loop-i.invariant.taken
