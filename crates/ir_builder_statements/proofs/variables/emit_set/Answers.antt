use Rattle.ir_builder_statements.proofs.Common.{typed_module, on_ok_map}
use Rattle.ir_builder_statements.proofs.VariableLemmas.{local_flag, local_alike, local_set, global_takes, global_put}
use Rattle.ir_builder_statements.proofs.variables.emit_set.Goals as goal

pub set_local-requires : goal.set_local-requires
set_local-requires c = record {
  flagged = local_flag (typed_module c.args.site.checked.now) c.args.site.frame c.args.target.now c.args.r c.args.b.now c.args.b.now c.in-Local.k c.in-Local.is c.requires;
  alike = local_alike (typed_module c.args.site.checked.now) c.args.site.frame c.args.target.now c.args.r c.args.b.now c.args.b.now c.in-Local.k c.in-Local.is c.requires;
}

pub set_global-requires : goal.set_global-requires
set_global-requires c = record {
  takes = global_takes (typed_module c.args.site.checked.now) c.args.site.frame c.args.target.now c.args.r c.args.b.now c.args.b.now c.in-Global.i c.in-Global.is c.requires;
  among = c.requires.2.among;
}

pub returns-in-Local-clause-sets : goal.returns-in-Local-clause-sets
returns-in-Local-clause-sets c = on_ok_map _ _ _ (local_set (typed_module c.args.site.checked.now) c.args.site.frame c.args.target.now c.args.r c.args.b.now _ c.in-Local.k c.in-Local.is) c.set_local.ensures.sets

pub returns-in-Global-clause-sets : goal.returns-in-Global-clause-sets
returns-in-Global-clause-sets c = on_ok_map _ _ _ (global_put (typed_module c.args.site.checked.now) c.args.site.frame c.args.target.now c.args.r c.args.b.now _ c.in-Global.i c.in-Global.is) c.set_global.ensures.sets
