use Rattle.ir_builder_expressions.proofs.Common.{sym, ap, ◌∙◌, sort, Reg, ok_map, Var, Variable, variable, setting_of}
use Rattle.ir_builder_operations.specs.Converting.{is_optional}
use Rattle.ir_builder_expressions.proofs.ReadingLemmas.{local_there, taken_value, taken_boxed, taken_stays, read_taken}
use Rattle.ir_builder_expressions.proofs.local.emit_local_as.Goals as goal

pub emit_unboxed-requires : goal.emit_unboxed-requires
emit_unboxed-requires c =
    let v : Variable = variable c.index-site-i.result in
    let at = local_there c.args.site.locals.now c.args.i c.index-site-i.result c.requires.there c.index-site-i.is in
    record { value = taken_value v.1 (sort c.args.t.now) c.emit_local.new.b c.in_ok-x.x (ap (λ (w : Var). is_optional (sort w.ty)) c.index-site-i.is ∙ sym c.may_be_none.ensures ∙ c.if-may_be_none.true) (c.requires.reads v at) (c.in_ok-x.ensures.emitted v (sort c.args.t.now) at).type }

pub returns-then-may_be_none-clause-emitted : goal.returns-then-may_be_none-clause-emitted
returns-then-may_be_none-clause-emitted c =
    let at = local_there c.args.site.locals.now c.args.i c.index-site-i.result c.requires.there c.index-site-i.is in
    ok_map _ _ _ (λ (r : Reg) a. read_taken (setting_of c.args.site) c.args.i (variable c.index-site-i.result) (sort c.args.t.now) _ _ _ c.in_ok-x.x.0 r.0 at c.requires.room c.in_ok-x.ensures.emitted (taken_boxed (sort c.args.t.now) _ _ r.0 c.in_ok-x.x a)) c.emit_unboxed.ensures.made

pub returns-else-may_be_none-clause-emitted : goal.returns-else-may_be_none-clause-emitted
returns-else-may_be_none-clause-emitted c =
    let v : Variable = variable c.index-site-i.result in
    let at = local_there c.args.site.locals.now c.args.i c.index-site-i.result c.requires.there c.index-site-i.is in
    read_taken (setting_of c.args.site) c.args.i v (sort c.args.t.now) _ _ _ c.in_ok-x.x.0 c.in_ok-x.x.0 at c.requires.room c.in_ok-x.ensures.emitted (taken_stays v.1 (sort c.args.t.now) _ c.in_ok-x.x (ap (λ (w : Var). is_optional (sort w.ty)) c.index-site-i.is ∙ sym c.may_be_none.ensures ∙ c.if-may_be_none.false) (c.requires.reads v at) (c.in_ok-x.ensures.emitted v (sort c.args.t.now) at).type)
