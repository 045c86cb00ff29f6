use Rattle.ir_builder_statements.proofs.Common.{List, map, subst, typed_expr, type_of, line_of, Reg, Writes, Setting, on_ok_map, setting_of, always, around_by}
use Rattle.ir_builder_statements.proofs.AloneLemmas.{print_suits, print_alone, value_alone}
use Rattle.ir_builder_statements.proofs.LinedLemmas.{print_lined}
use Rattle.ir_builder_statements.proofs.alone.emit_alone.Goals as goal

pub emit_arguments-requires-clause-suits : goal.emit_arguments-requires-clause-suits
emit_arguments-requires-clause-suits c =
    let x : Setting = setting_of c.args.site in
    (print_suits x.source x.variables c.args.e.now c.as_slice-values.result.now c.in-Print.values c.in-Print.is c.as_slice-values.ensures c.requires.suits).0

pub emit_print-requires-clause-texts : goal.emit_print-requires-clause-texts
emit_print-requires-clause-texts c =
    let x : Setting = setting_of c.args.site in
    (print_suits x.source x.variables c.args.e.now c.as_slice-values.result.now c.in-Print.values c.in-Print.is c.as_slice-values.ensures c.requires.suits).1

pub returns-in_ok-regs-in-Print-clause-works : goal.returns-in_ok-regs-in-Print-clause-works
returns-in_ok-regs-in-Print-clause-works c =
    let es = c.as_slice-values.result.now in
    let P : List Reg → Type 0 = λ z. Writes (map type_of (map typed_expr es)) z c.emit_arguments.new.b c.emit_print.new.b line_of in
    on_ok_map _ _ _ (λ w. print_alone (setting_of c.args.site) c.args.e.now es c.in-Print.values _ _ _ c.in_ok-regs-in-Print.regs c.in-Print.is c.as_slice-values.ensures c.requires.room c.in_ok-regs-in-Print.ensures.emitted (subst P c.as_slice.ensures w)) c.emit_print.ensures.writes

pub returns-in_ok-emit_expression-in_default-clause-works : goal.returns-in_ok-emit_expression-in_default-clause-works
returns-in_ok-emit_expression-in_default-clause-works c =
    value_alone (setting_of c.args.site) (typed_expr c.args.e.now) _ _ c.in_ok-emit_expression-in_default.field-0.0 c.requires.room c.in_ok-emit_expression-in_default.ensures.emitted

pub returns-in_ok-regs-in-Print-clause-lined : goal.returns-in_ok-regs-in-Print-clause-lined
returns-in_ok-regs-in-Print-clause-lined c = always _ _ (print_lined (setting_of c.args.site) c.args.e.now c.as_slice-values.result.now c.in-Print.values _ _ _ c.in-Print.is c.as_slice-values.ensures c.in_ok-regs-in-Print.ensures.lined (around_by c.args.e.now.span.line _ _ c.emit_print.ensures.kept c.emit_print.ensures.lined))

pub returns-in_ok-emit_expression-in_default-clause-lined : goal.returns-in_ok-emit_expression-in_default-clause-lined
returns-in_ok-emit_expression-in_default-clause-lined c = c.in_ok-emit_expression-in_default.ensures.lined
