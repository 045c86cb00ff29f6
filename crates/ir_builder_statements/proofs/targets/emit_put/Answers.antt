use Rattle.ir_builder_statements.proofs.Common.{typed_expr, typed_target, on_ok_map, always, Setting, setting_of, around_by}
use Rattle.ir_builder_statements.proofs.TargetLemmas.{item_target, put_item, variable_target, variable_puts, name_pieces, item_pieces}
use Rattle.ir_builder_statements.proofs.targets.emit_put.Goals as goal

pub emit_item_set-requires : goal.emit_item_set-requires
emit_item_set-requires c =
    let x : Setting = setting_of c.args.site in
    record { item = item_target x c.args.target.now c.args.b.now c.args.b.now c.in-At.list c.in-At.index c.args.r.0 c.in-At.is c.requires.takes; room = c.requires.room }

pub emit_set-requires : goal.emit_set-requires
emit_set-requires c =
    let x : Setting = setting_of c.args.site in
    let v = variable_target x c.args.target.now c.args.b.now c.args.b.now c.args.r.0 c.in_default.not-At c.requires.takes in
    (x.variables, v.0, c.requires.room, v.1, v.2)

pub returns-in-At-clause-puts : goal.returns-in-At-clause-puts
returns-in-At-clause-puts c = on_ok_map _ _ _ (put_item (setting_of c.args.site) c.args.target.now _ _ c.in-At.list c.in-At.index c.args.r c.in-At.is) c.emit_item_set.ensures.puts

pub returns-in-At-clause-lined : goal.returns-in-At-clause-lined
returns-in-At-clause-lined c = on_ok_map _ _ _ (item_pieces (setting_of c.args.site) c.args.target.now _ _ c.args.site.line c.in-At.list c.in-At.index c.in-At.is) c.emit_item_set.ensures.lined

pub returns-in_default-clause-puts : goal.returns-in_default-clause-puts
returns-in_default-clause-puts c =
    let x : Setting = setting_of c.args.site in
    let v = variable_target x c.args.target.now c.args.b.now c.args.b.now c.args.r.0 c.in_default.not-At c.requires.takes in
    on_ok_map _ _ _ (variable_puts x (typed_target c.args.target.now) v.0 c.args.r _ _ c.requires.room v.1 v.2) c.emit_set.ensures.sets

pub returns-in_default-clause-lined : goal.returns-in_default-clause-lined
returns-in_default-clause-lined c =
    let x : Setting = setting_of c.args.site in
    let v = variable_target x c.args.target.now c.args.b.now c.args.b.now c.args.r.0 c.in_default.not-At c.requires.takes in
    always _ _ (name_pieces x c.args.site.line (typed_target c.args.target.now) v.0 _ _ v.1 (around_by c.args.site.line _ _ c.emit_set.ensures.kept c.emit_set.ensures.lined))
