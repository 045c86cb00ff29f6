use Rattle.ir_builder_statements.proofs.Common.{[], Option, sort, subst, sym, Sort, Target, typed_expr, typed_target, on_ok_map, Setting, setting_of, means_update, Works}
use Rattle.ir_builder_statements.proofs.simple.emit_update.Goals as goal

pub returns-in-At-clause-works : goal.returns-in-At-clause-works
returns-in-At-clause-works c =
    let x : Setting = setting_of c.args.site in
    let P : Target → Type 0 = λ z. (gives : Option Sort) → Works x gives (means_update x (typed_target z) c.args.op (typed_expr c.args.e.now) (sort c.args.t.now)) c.args.b.now c.emit_item_update.new.b [] in
    on_ok_map _ _ _ (λ h. subst P (sym c.in-At.is) h) c.emit_item_update.ensures.works
