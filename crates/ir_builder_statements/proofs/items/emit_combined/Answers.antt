use Rattle.ir_builder_statements.proofs.Common.{sort, Reg, Setting, ok_map, setting_of}
use Rattle.ir_builder_statements.proofs.AssignLemmas.{declared_text}
use Rattle.ir_builder_statements.proofs.ItemLemmas.{text_combined, no_text, numbers_fit, numbers_combined}
use Rattle.ir_builder_statements.proofs.items.emit_combined.Goals as goal

pub returns-in-Str-clause-made : goal.returns-in-Str-clause-made
returns-in-Str-clause-made c =
    let x : Setting = setting_of c.args.site in
    ok_map _ _ _ (λ (r : Reg) a. text_combined c.args.op (sort c.args.t.now) (sort c.args.own.now) (sort c.args.operand.now) x.source x.variables _ _ r.0 c.args.x c.args.y (declared_text c.args.t.now c.in-Str.is) c.requires.fits a) c.emit_operation.ensures.made

pub returns-in_default : goal.returns-in_default
returns-in_default c =
    let x : Setting = setting_of c.args.site in
    let fits = numbers_fit c.args.op (sort c.args.t.now) (sort c.args.own.now) (sort c.args.operand.now) x.source x.variables (no_text c.args.t.now c.in_default.not-Str) c.requires.fits in
    record {
      kept = c.emit_numbers.ensures.kept;
      made = ok_map _ _ _ (λ (r : Reg) a. numbers_combined c.args.op (sort c.args.t.now) (sort c.args.own.now) (sort c.args.operand.now) _ _ r.0 c.args.x.0 c.args.y.0 fits.0 a) c.emit_numbers.ensures.made;
      lined = c.emit_numbers.ensures.lined;
    }
