use Rattle.ir_builder_statements.proofs.Common.{Setting, setting_of}
use Rattle.ir_builder_statements.proofs.TargetLemmas.{item_taken, taken_item, name_taken, taken_name}
use Rattle.ir_builder_statements.proofs.targets.own_type.Goals as goal

pub item_type-requires : goal.item_type-requires
item_type-requires c = let x : Setting = setting_of c.args.site in item_taken x.source x.variables c.args.target.now c.in-At.list _ c.in-At.is c.requires

pub returns-in-At : goal.returns-in-At
returns-in-At c = let x : Setting = setting_of c.args.site in taken_item x.source x.variables c.args.target.now c.in-At.list _ _ c.in-At.is c.requires c.item_type.ensures

pub variable_type-requires : goal.variable_type-requires
variable_type-requires c = let x : Setting = setting_of c.args.site in name_taken x.source x.variables c.args.target.now c.in_default.not-At c.requires

pub returns-in_default : goal.returns-in_default
returns-in_default c = let x : Setting = setting_of c.args.site in taken_name x.source x.variables c.args.target.now _ c.variable_type.ensures
