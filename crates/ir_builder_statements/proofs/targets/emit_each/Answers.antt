use Rattle.ir_builder_statements.proofs.Common.{◌<◌, length, get_or, rules, extends_trans, room_on, setting_of}
use Rattle.ir_builder_statements.proofs.TargetLemmas.{got_there, putting_none, registers_left, put_takes, putting_on, putting_over}
use Rattle.ir_builder_statements.proofs.targets.emit_each.Goals as goal

pub loop-i-init : goal.loop-i-init
loop-i-init c = putting_none (setting_of c.args.site) c.args.site.line c.args.targets.now c.args.values.now c.args.b.now c.requires.targets c.requires.values c.requires.lasting

pub bounds-values-i : goal.bounds-values-i
bounds-values-i c = registers_left (setting_of c.args.site) c.args.site.line c.args.targets.now c.args.values.now c.loop-i.i c.args.b.now c.loop-i.b c.index-targets-i.result c.loop-i-test.true c.index-targets-i.is c.loop-i.invariant

pub offset_bounds-values-i : goal.offset_bounds-values-i
offset_bounds-values-i c =
    let lt : c.loop-i.i < length c.args.values.now = registers_left (setting_of c.args.site) c.args.site.line c.args.targets.now c.args.values.now c.loop-i.i c.args.b.now c.loop-i.b c.index-targets-i.result c.loop-i-test.true c.index-targets-i.is c.loop-i.invariant in
    search rules

pub emit_put-requires-clause-takes : goal.emit_put-requires-clause-takes
emit_put-requires-clause-takes c =
    let left = registers_left (setting_of c.args.site) c.args.site.line c.args.targets.now c.args.values.now c.loop-i.i c.args.b.now c.loop-i.b c.index-targets-i.result c.loop-i-test.true c.index-targets-i.is c.loop-i.invariant in
    put_takes (setting_of c.args.site) c.args.site.line c.args.targets.now c.args.values.now c.loop-i.i c.args.b.now c.loop-i.b c.index-targets-i.result c.loop-i-test.true c.index-targets-i.is c.loop-i.invariant (get_or c.args.values.now c.loop-i.i record { 0 = 0 }) (got_there c.args.values.now c.loop-i.i _ _ left)

pub emit_put-requires-clause-room : goal.emit_put-requires-clause-room
emit_put-requires-clause-room c = room_on (setting_of c.args.site) _ _ c.loop-i.invariant.extends c.requires.room

pub returns-in_err-emit_put-clause-kept : goal.returns-in_err-emit_put-clause-kept
returns-in_err-emit_put-clause-kept c = extends_trans _ _ _ c.loop-i.invariant.extends c.in_err-emit_put.ensures.kept

pub loop-i-preserved : goal.loop-i-preserved
loop-i-preserved c =
    let left = registers_left (setting_of c.args.site) c.args.site.line c.args.targets.now c.args.values.now c.loop-i.i c.args.b.now c.loop-i.b c.index-targets-i.result c.loop-i-test.true c.index-targets-i.is c.loop-i.invariant in
    putting_on (setting_of c.args.site) c.args.site.line c.args.targets.now c.args.values.now c.loop-i.i c.args.b.now c.loop-i.b c.index-targets-i.result c.loop-i-test.true c.index-targets-i.is c.loop-i.invariant (get_or c.args.values.now c.loop-i.i record { 0 = 0 }) c.emit_put.new.b (got_there c.args.values.now c.loop-i.i _ _ left) c.in_ok-emit_put.ensures.puts c.in_ok-emit_put.ensures.lined

pub returns-clause-kept : goal.returns-clause-kept
returns-clause-kept c = c.loop-i.invariant.extends

pub returns-clause-puts : goal.returns-clause-puts
returns-clause-puts c = (putting_over (setting_of c.args.site) c.args.site.line c.args.targets.now c.args.values.now c.loop-i.i c.args.b.now c.loop-i.b c.loop-i-test.false c.loop-i.invariant).0

pub returns-clause-lined : goal.returns-clause-lined
returns-clause-lined c = (putting_over (setting_of c.args.site) c.args.site.line c.args.targets.now c.args.values.now c.loop-i.i c.args.b.now c.loop-i.b c.loop-i-test.false c.loop-i.invariant).1
