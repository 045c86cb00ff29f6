use Rattle.ir_builder_statements.proofs.Common.{sym, subst, Sort, sort, typed_target, Reg, Setting, setting_of, ok_map, extends_trans}
use Rattle.ir_builder_statements.specs.Targets.{TakesPart}
use Rattle.ir_builder_statements.proofs.TargetLemmas.{takes_own, takes_fits, part_taken}
use Rattle.ir_builder_statements.proofs.targets.emit_part.Goals as goal

pub own_type-own-requires : goal.own_type-own-requires
own_type-own-requires c = (c.requires.target.0, c.requires.target.1)

pub emit_conversion-requires-clause-fits : goal.emit_conversion-requires-clause-fits
emit_conversion-requires-clause-fits c =
    let x : Setting = setting_of c.args.site in
    let fit = takes_fits x (typed_target c.args.target.now) (sort c.args.from.now) (sort c.own_type-own.result.now) c.requires.target c.own_type-own.ensures in
    (x.source.classes.classes, fit.0, fit.1)

pub returns-in_err-taken-clause-kept : goal.returns-in_err-taken-clause-kept
returns-in_err-taken-clause-kept c = extends_trans _ _ _ c.in_ok-part.ensures.kept c.in_err-taken.ensures.kept

pub returns-in_err-value-clause-kept : goal.returns-in_err-value-clause-kept
returns-in_err-value-clause-kept c = extends_trans _ _ _ c.in_ok-part.ensures.kept (extends_trans _ _ _ c.in_ok-taken.ensures.kept c.in_err-value.ensures.kept)

pub returns-clause-kept : goal.returns-clause-kept
returns-clause-kept c = extends_trans _ _ _ c.in_ok-part.ensures.kept (extends_trans _ _ _ c.in_ok-taken.ensures.kept (extends_trans _ _ _ c.in_ok-value.ensures.kept c.emit_copy.ensures.kept))

pub returns-clause-takes : goal.returns-clause-takes
returns-clause-takes c =
    let x : Setting = setting_of c.args.site in
    let own = sort c.own_type-own.result.now in
    let P : Sort → Reg → Type 0 = λ z r. TakesPart c.args.number (sort c.args.from.now) z c.args.tuple.0 c.args.b.now c.emit_copy.new.b r.0 in
    ok_map _ _ _ (λ (r : Reg) made. subst (λ z. P z r) (sym (takes_own x (typed_target c.args.target.now) own c.own_type-own.ensures)) (part_taken c.args.number (sort c.args.from.now) own _ c.args.tuple.0 c.in_ok-part.part.0 c.in_ok-taken.taken.0 c.in_ok-value.value.0 r.0 _ _ _ _ _ c.register_type.ensures c.in_ok-part.ensures.made c.in_ok-taken.ensures.made c.in_ok-value.ensures.made made)) c.emit_copy.ensures.made

pub returns-clause-lined : goal.returns-clause-lined
returns-clause-lined c k i x other at = c.in_ok-part.ensures.lined k i x other (c.in_ok-taken.ensures.lined k i x other (c.in_ok-value.ensures.lined k i x other (c.emit_copy.ensures.lined k i x other at)))
