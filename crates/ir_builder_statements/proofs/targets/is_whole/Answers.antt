use Rattle.ir_builder_statements.proofs.Common.{map, sort, typed_target, Setting, setting_of}
use Rattle.ir_builder_statements.proofs.TargetLemmas.{single_row, whole_takes, whole_decided}
use Rattle.ir_builder_statements.proofs.targets.is_whole.Goals as goal

pub own_type-own-requires : goal.own_type-own-requires
own_type-own-requires c =
    let x : Setting = setting_of c.args.site in
    whole_takes x (map typed_target c.args.targets.now) (typed_target c.target-item.result) (sort c.args.t.now) (single_row c.args.targets.now c.target-item.result c.target-item.is c.in-len1.len_at_least c.in-len1.len_below) c.requires

pub returns-in-len1-clause-whole : goal.returns-in-len1-clause-whole
returns-in-len1-clause-whole c =
    let x : Setting = setting_of c.args.site in
    (whole_decided x (map typed_target c.args.targets.now) (typed_target c.target-item.result) (sort c.args.t.now) (sort c.own_type-own.result.now) c.fits.result (single_row c.args.targets.now c.target-item.result c.target-item.is c.in-len1.len_at_least c.in-len1.len_below) c.own_type-own.ensures c.fits.ensures c.requires).0

pub returns-in-len1-clause-parts : goal.returns-in-len1-clause-parts
returns-in-len1-clause-parts c =
    let x : Setting = setting_of c.args.site in
    (whole_decided x (map typed_target c.args.targets.now) (typed_target c.target-item.result) (sort c.args.t.now) (sort c.own_type-own.result.now) c.fits.result (single_row c.args.targets.now c.target-item.result c.target-item.is c.in-len1.len_at_least c.in-len1.len_below) c.own_type-own.ensures c.fits.ensures c.requires).1
